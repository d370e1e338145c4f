-- Laws of the command `normal`.
--
-- A word has one normal form (`IsNormalOf-one`), and the one that is answered is it (`IsSound-normal`).
use Rattle.std.proofs.Common.{◌≡◌, ℕ, ◌≤◌, List, Result, Ok, Err, refl, sym, ap, ◌∙◌}
use Rattle.wb_base.specs.Status.{Answer}
use Rattle.wb_base.specs.declared.status.Status.TheVariants.{Done, Refused, Input}
use Rattle.braid_word.specs.Words.{Letter}
use Rattle.garside_form.proofs.NormalLemmas.{form_only}
use Rattle.wb_command.specs.declared.fault.Fault.{Fault}
use Rattle.wb_command.specs.Inputs.{one_word}
use Rattle.wb_command.specs.Meaning.{IsSound}
use Rattle.wb_command.proofs.InputLemmas.{one_word-IsReadOn}
use Rattle.wb_words.specs.Normal.{form_answer, IsNormalOf, HasNormalForm, normal_meaning}

-- a word has one normal form, and so one answer of `normal`
IsNormalOf-one
    : (strands : ℕ) (word : Result (List Letter) Fault) (a b : Answer)
    → 2 ≤ strands
    → IsNormalOf strands word a
    → IsNormalOf strands word b
    → a ≡ b
IsNormalOf-one strands (Err fault) a b two first second = first ∙ sym second
IsNormalOf-one strands (Ok w) a b two first second =
    let one = form_only first.form second.form w (rw first.on two) first.normal (second.on ∙ sym first.on)
    second.normal in
    first.is ∙ ap form_answer (sym one) ∙ sym second.is

-- a normal form that is answered is the one
HasNormalForm-IsNormalOf
    : (strands : ℕ) (input : List ℕ) (word : Result (List Letter) Fault) (a : Answer)
    → 2 ≤ strands
    → one_word strands input ≡ word
    → IsNormalOf strands word a
    → a.status ≡ Done
    → HasNormalForm strands input a.text
HasNormalForm-IsNormalOf strands input (Err fault) a two word is done =
    let other : Input ≡ Done = ap (λ (b : Answer). b.status) (sym is) ∙ done in absurd (cc)
HasNormalForm-IsNormalOf strands input (Ok w) a two word normal done = record {
  word = w;
  read = word;
  on = (one_word-IsReadOn strands input w word).on;
  form = normal.form;
  is_on = normal.on;
  normal = normal.normal;
  only = λ other on is.
      form_only normal.form other w (rw normal.on two) normal.normal (on ∙ sym normal.on) is;
  is = ap (λ (b : Answer). b.text) normal.is;
}

-- nothing is refused as a trace file is
IsNormalOf-Refused
    : (strands : ℕ) (word : Result (List Letter) Fault) (a : Answer)
    → IsNormalOf strands word a
    → a.status ≡ Refused
    → ⊥
IsNormalOf-Refused strands (Err fault) a is refused =
    let other : Input ≡ Refused = ap (λ (b : Answer). b.status) (sym is) ∙ refused in cc
IsNormalOf-Refused strands (Ok w) a normal refused =
    let other : Done ≡ Refused = ap (λ (b : Answer). b.status) (sym normal.is) ∙ refused in cc

-- `normal` is sound from two strands on
pub IsSound-normal : (strands : ℕ) → 2 ≤ strands → IsSound (normal_meaning strands)
IsSound-normal strands two = record {
  one = λ input a b. IsNormalOf-one strands (one_word strands input) a b two;
  promised = λ input a. HasNormalForm-IsNormalOf strands input (one_word strands input) a two refl;
  refused = λ input a. IsNormalOf-Refused strands (one_word strands input) a;
  alone = λ nothing. absurd cc;
  plain = λ pieces before now s. tt;
}
