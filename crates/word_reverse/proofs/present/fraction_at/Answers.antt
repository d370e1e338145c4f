use Rattle.std.proofs.Common.{arith}
use Rattle.word_reverse.proofs.PresentLemmas.{slice_get-right}
use Rattle.word_reverse.proofs.present.fraction_at.Goals as goal

pub returns-else-k-u : goal.returns-else-k-u
returns-else-k-u c =
    slice_get-right c.args.u.now c.args.v.now c.args.k _ _ (omega (arith, c.if-k-u.false)) c.requires
    c.index-v-u.is c.opposite.ensures
