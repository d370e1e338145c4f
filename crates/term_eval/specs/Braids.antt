-- The braids of terms.
--
-- The free left-distributive system on one generator is that of terms up to equivalence; braids with the
-- bracket are a left-distributive system too. So each term has a braid, made by taking the bracket for the
-- product and the trivial braid for the variable, and equivalent terms have the same braid.
-- Source: P. Dehornoy, Braid groups and left distributive operations, 1994.
--
--   braid t               the braid word of t
--   shift_by k w          w shifted k times, which adds k to every index
--   placed k negative w   w shifted k times, and inverted where `negative` is true
--
-- The laws stand in `proofs/BraidLemmas.antt`.
use Rattle.std.specs.Prelude.{ℕ, zero, suc, Bool, true, false, List, []}
use Rattle.braid_word.specs.Words.{Letter, inverse, shift}
use Rattle.ld_term.specs.Terms.{Term, variable, multiply}
use Rattle.shift_braid.specs.Bracket.{bracket}

-- The braid word of a term: of (xx)x it is `1 1 -2`.
abbrev pub braid : Term → List Letter
braid variable = []
braid (multiply t u) = bracket (braid t) (braid u)

-- The word shifted k times: of `1 -2` and 3 it is `4 -5`. No public clause cites it.
abbrev pub shift_by : ℕ → List Letter → List Letter
shift_by zero w = w
shift_by (suc k) w = shift (shift_by k w)

-- The word shifted k times, and then inverted or not: the form in which the word of a part of a term stands
-- in the word of the whole. No public clause cites it.
abbrev pub placed : ℕ → Bool → List Letter → List Letter
placed k false w = shift_by k w
placed k true w = inverse (shift_by k w)
