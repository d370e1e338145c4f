use Rattle.handle_find.proofs.PuttingLemmas.{put_inverse-next}
use Rattle.handle_find.proofs.scan.put_inverse.Goals as goal

pub loop-letter-preserved : goal.loop-letter-preserved
loop-letter-preserved c =
    put_inverse-next _ _ _ _ _ _ _ c.letter-item.result c.opposite.result c.loop-letter-test.true
    c.letter-item.is c.opposite.ensures c.push_right.ensures c.loop-letter.invariant
