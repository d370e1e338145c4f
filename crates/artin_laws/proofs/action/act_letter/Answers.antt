use Rattle.artin_laws.proofs.ImageLemmas.{act_letter-next}
use Rattle.artin_laws.proofs.action.act_letter.Goals as goal

pub loop-y-preserved : goal.loop-y-preserved
loop-y-preserved c =
    act_letter-next c.args.x _ _ _ _ c.y-item.result c.loop-y-test.true c.y-item.is
    c.loop-y.invariant c.in_ok-push_image.ensures
