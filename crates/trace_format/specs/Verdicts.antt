-- Which verdict a sign gives, and what a verdict means.
--
-- Source: P. Dehornoy, Braid groups and left distributive operations, 1994: u is less than v where a
-- sigma-positive word represents u^-1 v.
--
--   verdict_of sign   the verdict that a sign gives
--   Holds d u v       the verdict d holds of u and v in the order on braids
--   Shows d w         the verdict d can be seen from w, where w represents u^-1 v
use Rattle.std.specs.Prelude.{◌≡◌, List, [], Option, Some, None}
use Rattle.braid_word.specs.Words.{Letter}
use Rattle.braid_word.specs.Order as order
use Rattle.braid_word.specs.declared.sign.Sign.{Sign}
use Rattle.braid_word.specs.declared.sign.Sign.TheVariants.{Empty, Positive, Negative, Mixed}
use Rattle.trace_format.specs.declared.verdict.Verdict.{Verdict}
use Rattle.trace_format.specs.declared.verdict.Verdict.TheVariants.{Less, Equal, Greater}

-- The verdict by the sign of a word that represents u^-1 v. A mixed sign gives none.
abbrev pub verdict_of : Sign → Option Verdict
verdict_of (Positive i) = Some Less
verdict_of Empty = Some Equal
verdict_of (Negative i) = Some Greater
verdict_of (Mixed i) = None

-- The verdict holds of two words, in the order on braids.
abbrev pub Holds : Verdict → List Letter → List Letter → Type 0
Holds Less u v = order.IsLess u v
Holds Equal u v = order.IsEqual u v
Holds Greater u v = order.IsGreater u v

-- The verdict can be seen from a word: it is sigma-positive, empty or sigma-negative.
abbrev pub Shows : Verdict → List Letter → Type 0
Shows Less w = order.IsSigmaPositive w
Shows Equal w = w ≡ []
Shows Greater w = order.IsSigmaNegative w
