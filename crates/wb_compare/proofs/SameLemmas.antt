-- Laws of the command `same`.
use Rattle.std.proofs.Common.{◌≡◌, ◌↔◌, ◌⊎◌, inl, inr, ℕ, ◌+◌, ◌≤◌, List, Result, Ok, Err, refl, ap, sym, subst, ◌∙◌, arith}
use Rattle.wb_base.specs.Status.{Answer}
use Rattle.wb_base.specs.declared.status.Status.TheVariants.{Done, Refused, Input}
use Rattle.braid_word.specs.Words.{Letter, IsOn}
use Rattle.braid_word.specs.Equivalence.{EquivalentOn}
use Rattle.braid_word.specs.declared.TheConstants.{MAX_INDEX}
use Rattle.wb_command.specs.declared.TheConstants.{MAX_STRANDS}
use Rattle.wb_command.specs.declared.fault.Fault.{Fault}
use Rattle.wb_command.specs.Inputs.{two_words}
use Rattle.wb_command.specs.Meaning.{IsSound}
use Rattle.wb_command.proofs.InputLemmas.{two_words-IsReadOn, two_words-more_strands}
use Rattle.wb_compare.specs.Same.{same_text, different_text, IsDecided, are_same, are_different, IsSameOf, HasDecision, same_meaning}

-- two words are equivalent or not
IsDecided-one
    : (strands : ℕ) (u v : List Letter) (a b : Answer)
    → IsDecided strands u v a
    → IsDecided strands u v b
    → a ≡ b
IsDecided-one strands u v a b (are_same equal is) (are_same again also) = is ∙ sym also
IsDecided-one strands u v a b (are_same equal is) (are_different other also) = absurd (other equal)
IsDecided-one strands u v a b (are_different other is) (are_same equal also) = absurd (other equal)
IsDecided-one strands u v a b (are_different other is) (are_different again also) = is ∙ sym also

IsSameOf-one
    : (strands : ℕ) (words : Result (List Letter × List Letter) Fault) (a b : Answer)
    → IsSameOf strands words a
    → IsSameOf strands words b
    → a ≡ b
IsSameOf-one strands (Err fault) a b first second = first ∙ sym second
IsSameOf-one strands (Ok (u, v)) a b first second = IsDecided-one strands u v a b first second

-- the lines of `same` differ
same-different : same_text ≡ different_text → ⊥
same-different e = cc

-- what is said of two words on so many strands
HasDecision-of
    : (strands : ℕ) (input text : List ℕ) (u v : List Letter)
    → strands ≤ MAX_STRANDS
    → two_words strands input ≡ Ok (u, v)
    → (text ≡ same_text) ⊎ (text ≡ different_text)
    → (text ≡ same_text) ↔ EquivalentOn strands u v
    → HasDecision strands input text
HasDecision-of strands input text u v few words either exact =
    let (left, right) = two_words-IsReadOn strands input u v words in
    record {
      left = u;
      right = v;
      read = words;
      on = (left.on, right.on);
      either = either;
      same = exact;
      agrees = λ trace verdict.
          agree verdict.left verdict.right
          (let wide = two_words-more_strands strands (MAX_INDEX + 1) input u v (omega arith) words in
          let both : ◌≡◌ {A = Result (List Letter × List Letter) Fault} (Ok (u, v))
          (Ok (verdict.left, verdict.right)) = sym wide ∙ verdict.read in
          let pair : ◌≡◌ {A = List Letter × List Letter} (u, v) (verdict.left, verdict.right) = cc in pair)
          (verdict.equal strands) left.on right.on;
    }
  where
    agree
        : {D : Type 0} (a b : List Letter)
        → ◌≡◌ {A = List Letter × List Letter} (u, v) (a, b)
        → (IsOn strands a → IsOn strands b → D ↔ EquivalentOn strands a b)
        → IsOn strands u
        → IsOn strands v
        → (text ≡ same_text) ↔ D
    agree {D} a b pair equal left right =
        let moved = subst (λ (p : List Letter × List Letter). IsOn strands p.0 → IsOn strands p.1 → D
        ↔ EquivalentOn strands p.0 p.1) (sym pair) equal in
        let (there, back) = moved left right in
        let (to, from) = exact in
        ((λ said. back (to said)), (λ d. from (there d)))

-- a decision that is answered is right
HasDecision-IsSameOf
    : (strands : ℕ) (input : List ℕ) (words : Result (List Letter × List Letter) Fault) (a : Answer)
    → strands ≤ MAX_STRANDS
    → two_words strands input ≡ words
    → IsSameOf strands words a
    → a.status ≡ Done
    → HasDecision strands input a.text
HasDecision-IsSameOf strands input (Err fault) a few words is done =
    let other : Input ≡ Done = ap (λ (b : Answer). b.status) (sym is) ∙ done in absurd (cc)
HasDecision-IsSameOf strands input (Ok (u, v)) a few words (are_same equal is) done =
    let said : a.text ≡ same_text = ap (λ (b : Answer). b.text) is in
    HasDecision-of strands input a.text u v few words (inl said) ((λ e. equal), (λ e. said))
HasDecision-IsSameOf strands input (Ok (u, v)) a few words (are_different apart is) done =
    let said : a.text ≡ different_text = ap (λ (b : Answer). b.text) is in
    HasDecision-of strands input a.text u v few words (inr said)
    ((λ e. absurd (same-different (sym e ∙ said))), (λ e. absurd (apart e)))

-- it isn't refused
IsSameOf-Refused
    : (strands : ℕ) (words : Result (List Letter × List Letter) Fault) (a : Answer)
    → IsSameOf strands words a
    → a.status ≡ Refused
    → ⊥
IsSameOf-Refused strands (Err fault) a is refused =
    let other : Input ≡ Refused = ap (λ (b : Answer). b.status) (sym is) ∙ refused in cc
IsSameOf-Refused strands (Ok (u, v)) a (are_same equal is) refused =
    let other : Done ≡ Refused = ap (λ (b : Answer). b.status) (sym is) ∙ refused in cc
IsSameOf-Refused strands (Ok (u, v)) a (are_different apart is) refused =
    let other : Done ≡ Refused = ap (λ (b : Answer). b.status) (sym is) ∙ refused in cc

-- `same` is sound
pub IsSound-same : (strands : ℕ) → strands ≤ MAX_STRANDS → IsSound (same_meaning strands)
IsSound-same strands few = record {
  one = λ input. IsSameOf-one strands (two_words strands input);
  promised = λ input a is done. HasDecision-IsSameOf strands input
      (two_words strands input) a few refl is done;
  refused = λ input. IsSameOf-Refused strands (two_words strands input);
  alone = λ nothing. absurd cc;
  plain = λ pieces before now s. tt;
}
