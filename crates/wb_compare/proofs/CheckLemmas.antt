-- Laws of the command `check`.
use Rattle.std.proofs.Common.{◌≡◌, ℕ, List, Result, Ok, Err, refl, ap, sym, ◌∙◌}
use Rattle.wb_base.specs.Status.{Answer}
use Rattle.wb_base.specs.declared.status.Status.TheVariants.{Done, Refused}
use Rattle.trace_check.specs.Accepted.{Claim}
use Rattle.trace_check.specs.Checking.{trace_file, checked_of}
use Rattle.trace_check.specs.declared.checked.Why.{Why}
use Rattle.trace_check.proofs.AcceptedLemmas.{IsValid-accepted}
use Rattle.trace_check.proofs.CheckingLaws.{checked_of-accepted, accepted-checked_of}
use Rattle.line_file.proofs.RefusalLaws.{checked_of-IsFirstRefusal}
use Rattle.wb_command.specs.Meaning.{IsSound}
use Rattle.wb_compare.specs.Check.{accepted_text, checked, IsChecked, HasRefusal, check_meaning}

-- a file that claims something is an accepted trace
IsChecked-checked
    : (input : List ℕ) (file : Result Claim (ℕ × Why)) (a : Answer)
    → checked_of input ≡ file
    → checked file ≡ a
    → a.status ≡ Done
    → IsChecked input a.text
IsChecked-checked input (Ok claim) a file is done =
    let (t, accepted, claims) = checked_of-accepted input claim file in
    record {
      trace = t;
      accepted = accepted;
      valid = IsValid-accepted input t accepted;
      is = ap (λ (b : Answer). b.text) (sym is)
          ∙ ap accepted_text (ap (λ (c : Claim). c.verdict) claims);
    }
IsChecked-checked input (Err (k, why)) a file is done =
    let other : Refused ≡ Done = ap (λ (b : Answer). b.status) is ∙ done in absurd (cc)

-- a file that is refused is none, and its first refusal is said
HasRefusal-checked
    : (input : List ℕ) (file : Result Claim (ℕ × Why)) (a : Answer)
    → checked_of input ≡ file
    → checked file ≡ a
    → a.status ≡ Refused
    → HasRefusal input a.text
HasRefusal-checked input (Ok claim) a file is refused =
    let other : Done ≡ Refused = ap (λ (b : Answer). b.status) is ∙ refused in absurd (cc)
HasRefusal-checked input (Err (k, why)) a file is refused = record {
  line = k;
  why = why;
  first = checked_of-IsFirstRefusal trace_file input k why file;
  none = λ t accepted. let both = sym file ∙ accepted-checked_of input t accepted in absurd (cc);
  is = ap (λ (b : Answer). b.text) (sym is);
}

-- `check` is sound
pub IsSound-check : IsSound check_meaning
IsSound-check = record {
  one = λ input a b first second. sym first ∙ second;
  promised = λ input a is done. IsChecked-checked input (checked_of input) a refl is done;
  refused = λ input a is refused. HasRefusal-checked input (checked_of input) a refl is refused;
  alone = λ nothing. absurd cc;
  plain = λ pieces before now s. tt;
}
