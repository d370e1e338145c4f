-- Laws of verdicts that are shown by a word.
--
-- A word shows the verdict of its sign (`Shows-verdict_of`) and no other (`verdict_of-Shows`). Where it
-- stands for the quotient of two words, the verdict holds of these (`Holds-Shows`), by exclusion no other
-- does (`Holds-unique`), and it is equal exactly where they are equivalent (`Equal-EquivalentOn`).
use Rattle.std.proofs.Common.{◌≡◌, ◌↔◌, ℕ, List, [], Some, refl, ap, subst}
use Rattle.braid_word.specs.Words.{Letter, quotient}
use Rattle.braid_word.specs.Equivalence.{EquivalentOn, Equivalent}
use Rattle.braid_word.specs.Sign.{sign_of}
use Rattle.braid_word.specs.declared.sign.Sign.{Sign}
use Rattle.braid_word.specs.declared.sign.Sign.TheVariants.{Empty, Positive, Negative, Mixed}
use Rattle.braid_word.proofs.EquivalenceLemmas.{EquivalentOn-sym, EquivalentOn-from_quotient, IsEqual-from_equivalent}
use Rattle.braid_word.proofs.SignLemmas.{sign_of-Empty, IsSigmaPositiveAt-sign_of, IsSigmaNegativeAt-sign_of, sign_of-IsSigmaPositiveAt, sign_of-IsSigmaNegativeAt}
use Rattle.trace_format.specs.declared.verdict.Verdict.{Verdict}
use Rattle.trace_format.specs.declared.verdict.Verdict.TheVariants.{Less, Equal, Greater}
use Rattle.trace_format.specs.Verdicts.{verdict_of, Holds, Shows}
use Rattle.artin_laws.proofs.ExclusionLemmas.{less_equal, equal_greater, less_greater}

-- a word shows the verdict of its sign
pub Shows-verdict_of
    : (sign : Sign) (verdict : Verdict) (w : List Letter)
    → sign_of w ≡ sign
    → verdict_of sign ≡ Some verdict
    → Shows verdict w
Shows-verdict_of Empty verdict w is gives =
    let same : Equal ≡ verdict = cc in subst (λ d. Shows d w) same (sign_of-Empty w is)
Shows-verdict_of (Positive i) verdict w is gives =
    let same : Less ≡ verdict = cc in
    subst (λ d. Shows d w) same (i, IsSigmaPositiveAt-sign_of i w is)
Shows-verdict_of (Negative i) verdict w is gives =
    let same : Greater ≡ verdict = cc in
    subst (λ d. Shows d w) same (i, IsSigmaNegativeAt-sign_of i w is)
Shows-verdict_of (Mixed i) verdict w is gives = cc

-- a word's sign gives the verdict that it shows
pub verdict_of-Shows
    : (verdict : Verdict) (w : List Letter)
    → Shows verdict w
    → verdict_of (sign_of w) ≡ Some verdict
verdict_of-Shows Less w (i, positive) = ap verdict_of (sign_of-IsSigmaPositiveAt i w positive)
verdict_of-Shows Equal w none = ap (λ z. verdict_of (sign_of z)) none
verdict_of-Shows Greater w (i, negative) = ap verdict_of (sign_of-IsSigmaNegativeAt i w negative)

-- a verdict that is shown by a word which stands for the quotient holds
pub Holds-Shows
    : (verdict : Verdict) (u v w : List Letter)
    → Equivalent w (quotient u v)
    → Shows verdict w
    → Holds verdict u v
Holds-Shows Less u v w stands shows = (w, shows, stands)
Holds-Shows Equal u v w stands shows = subst (λ z. Equivalent z (quotient u v)) shows stands
Holds-Shows Greater u v w stands shows = (w, shows, stands)

-- no two verdicts hold of one pair
pub Holds-unique : (d e : Verdict) (u v : List Letter) → Holds d u v → Holds e u v → d ≡ e
Holds-unique Less Less u v one two = refl
Holds-unique Less Equal u v one two = absurd (less_equal u v one two)
Holds-unique Less Greater u v one two = absurd (less_greater u v one two)
Holds-unique Equal Less u v one two = absurd (less_equal u v two one)
Holds-unique Equal Equal u v one two = refl
Holds-unique Equal Greater u v one two = absurd (equal_greater u v one two)
Holds-unique Greater Less u v one two = absurd (less_greater u v two one)
Holds-unique Greater Equal u v one two = absurd (equal_greater u v two one)
Holds-unique Greater Greater u v one two = refl

-- a verdict that is shown by a word which the quotient is equivalent to, on as few strands as the
-- words are on, is equal exactly where the words are equivalent on these
pub Equal-EquivalentOn
    : (n : ℕ) (verdict : Verdict) (u v w : List Letter)
    → EquivalentOn n (quotient u v) w
    → Shows verdict w
    → (verdict ≡ Equal) ↔ EquivalentOn n u v
Equal-EquivalentOn n verdict u v w stands shows = (
  λ equal.
      let none : w ≡ [] = subst (λ d. Shows d w) equal shows in
      EquivalentOn-from_quotient u v
      (subst (λ z. EquivalentOn n z (quotient u v)) none (EquivalentOn-sym stands)),
  λ chain.
      let holds = Holds-Shows verdict u v w (n, EquivalentOn-sym stands) shows in
      Holds-unique verdict Equal u v holds (IsEqual-from_equivalent (n, chain)),
)
