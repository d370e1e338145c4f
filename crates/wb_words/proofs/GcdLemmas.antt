-- Laws of the command `gcd`.
--
-- Two words have one answer (`IsDividedOf-one`), and what is answered is their greatest common divisor
-- (`IsSound-gcd`).
use Rattle.std.proofs.Common.{◌≡◌, ◌↔◌, ℕ, ◌≤◌, Bool, List, Option, Some, None, Result, Ok, Err, refl, sym, ap, ◌∙◌}
use Rattle.std.proofs.lemmas.Option.{none-some}
use Rattle.wb_base.specs.Status.{Answer}
use Rattle.wb_base.specs.declared.status.Status.TheVariants.{Done, Refused, Input, Limit}
use Rattle.braid_word.specs.Words.{Letter, IsOn, IsPositiveWord}
use Rattle.braid_word.specs.Equivalence.{stay}
use Rattle.braid_word.proofs.WordLemmas.{first_outside-on}
use Rattle.braid_word.proofs.NegativeLemmas.{first_negative-positive}
use Rattle.braid_word.proofs.EquivalenceLemmas.{on_last}
use Rattle.braid_gcd.specs.NormalWords.{IsAnswerOf}
use Rattle.braid_gcd.specs.NormalWords as divisions
use Rattle.braid_gcd.specs.Faults.{outside_fault, negative_fault, length_fault}
use Rattle.braid_gcd.specs.declared.error.GcdErr.{GcdErr}
use Rattle.braid_gcd.specs.declared.error.GcdErr.TheVariants.{TooLong}
use Rattle.braid_gcd.proofs.AnswerLemmas.{IsAnswerOf-unique}
use Rattle.wb_command.specs.declared.fault.Fault.{Fault}
use Rattle.wb_command.specs.Inputs.{two_positive_words}
use Rattle.wb_command.specs.Meaning.{IsSound}
use Rattle.wb_command.proofs.InputLemmas.{two_positive_words-IsReadPositive}
use Rattle.wb_words.specs.GreatestDivisor.{division_answer, letters_met, IsDividedOr, IsDividedOf, HasGreatestDivisor, gcd_meaning}

-- ---- What the call answers ----

-- letters of positive words on so many strands are no fault
no_outside : (n : ℕ) (u v : List Letter) → IsOn n u → IsOn n v → outside_fault n u v ≡ None
no_outside n u v first second = rw (first_outside-on n u first, first_outside-on n v second) refl

no_negative : (u v : List Letter) → IsPositiveWord u → IsPositiveWord v → negative_fault u v ≡ None
no_negative u v first second = rw (first_negative-positive u first, first_negative-positive v second) refl

-- so none is answered
pub outside_never
    : (n : ℕ) (u v : List Letter) (second : Bool) (place : ℕ)
    → IsOn n u
    → IsOn n v
    → outside_fault n u v ≡ Some (second, place)
    → ⊥
outside_never n u v second place left right found =
    none-some (second, place) (sym (no_outside n u v left right) ∙ found)

pub negative_never
    : (u v : List Letter) (second : Bool) (place : ℕ)
    → IsPositiveWord u
    → IsPositiveWord v
    → negative_fault u v ≡ Some (second, place)
    → ⊥
negative_never u v second place left right found =
    none-some (second, place) (sym (no_negative u v left right) ∙ found)

-- what is answered of words that are divided, where those that are too long are not
pub IsDividedOr-found
    : {X : Type 0} (n : ℕ) (u v : List Letter) (x : X) (d : divisions.Answer)
    → IsOn n u
    → IsOn n v
    → IsPositiveWord u
    → IsPositiveWord v
    → ((second : Bool) → (count : ℕ) → (◌≡◌ {A = Result X GcdErr} (Ok x) (Err (TooLong second count)))
    ↔ ((outside_fault n u v ≡ None) × (negative_fault u v ≡ None)
    × (length_fault u v ≡ Some (second, count))))
    → IsAnswerOf n u v d.divisor d.left d.right
    → IsDividedOr n u v (length_fault u v) (division_answer d)
IsDividedOr-found {X} n u v x d first second left right long is = go (length_fault u v) refl
  where
    go
        : (fault : Option (Bool × ℕ))
        → length_fault u v ≡ fault
        → IsDividedOr n u v fault (division_answer d)
    go None none = record { division = d; divided = is; is = refl }
    go (Some (word, count)) some =
        let (to, from) = long word count in
        let never : ◌≡◌ {A = Result X GcdErr} (Ok x) (Err (TooLong word count)) =
        from (no_outside n u v first second, no_negative u v left right, some) in
        absurd cc

-- and of others
pub IsDividedOr-long
    : (n : ℕ) (u v : List Letter) (second : Bool) (count : ℕ)
    → length_fault u v ≡ Some (second, count)
    → IsDividedOr n u v (length_fault u v) letters_met
IsDividedOr-long n u v second count long = rw long refl

-- ---- One answer ----

-- divisions with the same words are the same
division_same
    : (d e : divisions.Answer)
    → d.divisor ≡ e.divisor
    → d.left ≡ e.left
    → d.right ≡ e.right
    → d ≡ e
division_same d e divisor left right =
    ap (λ w. divisions.answer w d.left d.right) divisor
    ∙ (ap (λ w. divisions.answer e.divisor w d.right) left
    ∙ ap (λ w. divisions.answer e.divisor e.left w) right)

-- two words have one division
IsDividedOr-one
    : (strands : ℕ) (u v : List Letter) (fault : Option (Bool × ℕ)) (a b : Answer)
    → 2 ≤ strands
    → IsDividedOr strands u v fault a
    → IsDividedOr strands u v fault b
    → a ≡ b
IsDividedOr-one strands u v (Some fault) a b two first second = first ∙ sym second
IsDividedOr-one strands u v None a b two first second =
    let (divisor, left, right) =
    IsAnswerOf-unique two (stay (on_last first.divided.first)) (stay (on_last first.divided.second))
    first.divided second.divided in
    first.is
    ∙ (ap division_answer (division_same first.division second.division divisor left right) ∙ sym second.is)

IsDividedOf-one
    : (strands : ℕ) (words : Result (List Letter × List Letter) Fault) (a b : Answer)
    → 2 ≤ strands
    → IsDividedOf strands words a
    → IsDividedOf strands words b
    → a ≡ b
IsDividedOf-one strands (Err fault) a b two first second = first ∙ sym second
IsDividedOf-one strands (Ok (u, v)) a b two first second =
    IsDividedOr-one strands u v (length_fault u v) a b two first second

-- ---- What is said ----

-- a division that is answered is the one
HasGreatestDivisor-IsDividedOr
    : (strands : ℕ) (input : List ℕ) (u v : List Letter) (fault : Option (Bool × ℕ)) (a : Answer)
    → 2 ≤ strands
    → two_positive_words strands input ≡ Ok (u, v)
    → IsDividedOr strands u v fault a
    → a.status ≡ Done
    → HasGreatestDivisor strands input a.text
HasGreatestDivisor-IsDividedOr strands input u v (Some fault) a two words is done =
    let other : Limit ≡ Done = ap (λ (b : Answer). b.status) (sym is) ∙ done in absurd (cc)
HasGreatestDivisor-IsDividedOr strands input u v None a two words is done =
    let (left, right) = two_positive_words-IsReadPositive strands input u v words in
    record {
      first = u;
      second = v;
      read = words;
      on = (left.word.on, right.word.on);
      positive = (left.positive, right.positive);
      division = is.division;
      divided = is.divided;
      only = λ s t g c d alike also other. IsAnswerOf-unique two alike also is.divided other;
      is = ap (λ (b : Answer). b.text) is.is;
    }

HasGreatestDivisor-IsDividedOf
    : (strands : ℕ) (input : List ℕ) (words : Result (List Letter × List Letter) Fault) (a : Answer)
    → 2 ≤ strands
    → two_positive_words strands input ≡ words
    → IsDividedOf strands words a
    → a.status ≡ Done
    → HasGreatestDivisor strands input a.text
HasGreatestDivisor-IsDividedOf strands input (Err fault) a two words is done =
    let other : Input ≡ Done = ap (λ (b : Answer). b.status) (sym is) ∙ done in absurd (cc)
HasGreatestDivisor-IsDividedOf strands input (Ok (u, v)) a two words is done =
    HasGreatestDivisor-IsDividedOr strands input u v (length_fault u v) a two words is done

-- nothing is refused as a trace file is
IsDividedOr-Refused
    : (strands : ℕ) (u v : List Letter) (fault : Option (Bool × ℕ)) (a : Answer)
    → IsDividedOr strands u v fault a
    → a.status ≡ Refused
    → ⊥
IsDividedOr-Refused strands u v (Some fault) a is refused =
    let other : Limit ≡ Refused = ap (λ (b : Answer). b.status) (sym is) ∙ refused in cc
IsDividedOr-Refused strands u v None a is refused =
    let other : Done ≡ Refused = ap (λ (b : Answer). b.status) (sym is.is) ∙ refused in cc

IsDividedOf-Refused
    : (strands : ℕ) (words : Result (List Letter × List Letter) Fault) (a : Answer)
    → IsDividedOf strands words a
    → a.status ≡ Refused
    → ⊥
IsDividedOf-Refused strands (Err fault) a is refused =
    let other : Input ≡ Refused = ap (λ (b : Answer). b.status) (sym is) ∙ refused in cc
IsDividedOf-Refused strands (Ok (u, v)) a is refused =
    IsDividedOr-Refused strands u v (length_fault u v) a is refused

-- `gcd` is sound from two strands on
pub IsSound-gcd : (strands : ℕ) → 2 ≤ strands → IsSound (gcd_meaning strands)
IsSound-gcd strands two = record {
  one = λ input a b. IsDividedOf-one strands (two_positive_words strands input) a b two;
  promised = λ input a.
      HasGreatestDivisor-IsDividedOf strands input (two_positive_words strands input) a two refl;
  refused = λ input a. IsDividedOf-Refused strands (two_positive_words strands input) a;
  alone = λ nothing. absurd cc;
  plain = λ pieces before now s. tt;
}
