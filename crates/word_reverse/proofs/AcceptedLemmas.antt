-- Laws of accepted reverse files.
--
-- Turning corners leads from a word to an equivalent one, on as many strands (`EquivalentOn-IsTurns`), so
-- what an accepted reversal claims is true (`IsValid-accepted`). And a file is accepted as one reversal at
-- most (`IsAccepted-unique`).
use Rattle.std.proofs.Common.{◌≡◌, ℕ, ◌-◌, List, [], ◌∷◌, sym, subst, ◌∙◌}
use Rattle.braid_word.specs.Words.{Letter, IsOn}
use Rattle.braid_word.specs.Equivalence.{EquivalentOn, stay}
use Rattle.braid_word.proofs.EquivalenceLemmas.{on_last, EquivalentOn-trans}
use Rattle.word_reverse.specs.Corners.{turned_at}
use Rattle.word_reverse.specs.ReverseText.{Reversal}
use Rattle.word_reverse.specs.Accepted.{IsTurns, IsAccepted, IsValid}
use Rattle.word_reverse.proofs.CornerLemmas.{EquivalentOn-turned}
use Rattle.word_reverse.proofs.FractionLemmas.{IsFraction-split}
use Rattle.word_reverse.proofs.ReverseLaws.{reverse_text-injective}

-- turned corners lead to an equivalent word
pub EquivalentOn-IsTurns
    : (n : ℕ) (a : List Letter) (places : List ℕ) (b : List Letter)
    → IsOn n a
    → IsTurns a places b
    → EquivalentOn n a b
EquivalentOn-IsTurns n a [] b on turns = subst (EquivalentOn n a) (sym turns) (stay on)
EquivalentOn-IsTurns n a (p ∷ places) b on (low, corner, short, turns) =
    let first = EquivalentOn-turned n a (p - 1) on corner in
    EquivalentOn-trans first
    (EquivalentOn-IsTurns n (turned_at a (p - 1)) places b (on_last first) turns)

-- what an accepted reversal claims is true
pub IsValid-accepted : (bytes : List ℕ) (r : Reversal) → IsAccepted bytes r → IsValid r
IsValid-accepted bytes r accepted =
    IsFraction-split r.word accepted.last r.left r.right
    (λ n on. EquivalentOn-IsTurns n r.word r.places accepted.last on accepted.turns) accepted.split

-- the bytes of a file are accepted as one reversal at most
pub IsAccepted-unique
    : (bytes : List ℕ) (r s : Reversal)
    → IsAccepted bytes r
    → IsAccepted bytes s
    → r ≡ s
IsAccepted-unique bytes r s first second =
    reverse_text-injective r s first.bounds second.bounds (sym first.text ∙ second.text)
