use Rattle.std.proofs.Common.{ℕ, ◌≡◌, ◌≤◌, List, drop, arith}
use Rattle.free_word.specs.FreeWords.{Gen, inverse, IsReduced}
use Rattle.free_word.proofs.FreeWordLemmas.{IsReduced-inverse}
use Rattle.free_word.proofs.word.inverse_of.Goals as goal

-- the whole word is inverted
reduced_whole
    : (f g : List Gen) (k : ℕ)
    → k ≤ 0
    → g ≡ inverse (drop k f)
    → IsReduced f
    → IsReduced g
reduced_whole f g k done inverted reduced =
    let none : k ≡ 0 = omega arith in
    rw (inverted, none) (IsReduced-inverse f reduced)

pub invariant_of-result : goal.invariant_of-result
invariant_of-result c =
    reduced_whole _ _ _ c.loop-k-test.false c.loop-k.invariant c.letters-word.ensures.reduced
