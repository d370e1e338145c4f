use Rattle.trace_check.proofs.KnownLemmas.{AreAbove-without}
use Rattle.std.proofs.Common.{refl}
use Rattle.trace_check.proofs.known.Stretch.without.Goals as goal

pub returns : goal.returns
returns c =
    AreAbove-without _ _ _ c.shifted.ensures.before c.shifted.ensures.behind c.shifted-2.ensures.before
    c.shifted-2.ensures.behind refl
