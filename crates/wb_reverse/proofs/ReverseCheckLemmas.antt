-- Laws of the command `reverse-check`.
use Rattle.std.proofs.Common.{◌≡◌, ℕ, List, Result, Ok, Err, refl, ap, sym, ◌∙◌}
use Rattle.wb_base.specs.Status.{Answer}
use Rattle.wb_base.specs.declared.status.Status.TheVariants.{Done, Refused}
use Rattle.line_file.proofs.RefusalLaws.{checked_of-IsFirstRefusal}
use Rattle.word_reverse.specs.Accepted.{Claim}
use Rattle.word_reverse.specs.Checking.{reverse_file, checked_of}
use Rattle.word_reverse.specs.declared.fraction.ReverseWhy.{ReverseWhy}
use Rattle.word_reverse.proofs.AcceptedLemmas.{IsValid-accepted}
use Rattle.word_reverse.proofs.CheckingLaws.{checked_of-accepted, accepted-checked_of}
use Rattle.wb_command.specs.Meaning.{IsSound}
use Rattle.wb_reverse.specs.ReverseCheck.{checked, IsChecked, HasRefusal, reverse_check_meaning}

-- a file that claims something is an accepted reversal
IsChecked-checked
    : (input : List ℕ) (file : Result Claim (ℕ × ReverseWhy)) (a : Answer)
    → checked_of input ≡ file
    → checked file ≡ a
    → a.status ≡ Done
    → IsChecked input a.text
IsChecked-checked input (Ok claim) a file is done =
    let (r, accepted, claims) = checked_of-accepted input claim file in
    record {
      reversal = r;
      accepted = accepted;
      valid = IsValid-accepted input r accepted;
      is = ap (λ (b : Answer). b.text) (sym is);
    }
IsChecked-checked input (Err (k, why)) a file is done =
    let other : Refused ≡ Done = ap (λ (b : Answer). b.status) is ∙ done in absurd (cc)

-- a file that is refused is none, and its first refusal is said
HasRefusal-checked
    : (input : List ℕ) (file : Result Claim (ℕ × ReverseWhy)) (a : Answer)
    → checked_of input ≡ file
    → checked file ≡ a
    → a.status ≡ Refused
    → HasRefusal input a.text
HasRefusal-checked input (Ok claim) a file is refused =
    let other : Done ≡ Refused = ap (λ (b : Answer). b.status) is ∙ refused in absurd (cc)
HasRefusal-checked input (Err (k, why)) a file is refused = record {
  line = k;
  why = why;
  first = checked_of-IsFirstRefusal reverse_file input k why file;
  none = λ r accepted. let both = sym file ∙ accepted-checked_of input r accepted in absurd (cc);
  is = ap (λ (b : Answer). b.text) (sym is);
}

-- `reverse-check` is sound
pub IsSound-reverse_check : IsSound reverse_check_meaning
IsSound-reverse_check = record {
  one = λ input a b first second. sym first ∙ second;
  promised = λ input a is done. IsChecked-checked input (checked_of input) a refl is done;
  refused = λ input a is refused. HasRefusal-checked input (checked_of input) a refl is refused;
  alone = λ nothing. absurd cc;
  plain = λ pieces before now s. tt;
}
