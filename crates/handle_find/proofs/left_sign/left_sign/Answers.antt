-- A letter of lower index alone determines the sign, and no other changes it.
use Rattle.std.proofs.Common.{◌+◌, subst, arith}
use Rattle.handle_find.specs.Handles.{HasNoHandle}
use Rattle.handle_find.proofs.LeftSign.{Known-lower, Known-other, taken-more, HasNoHandle-take}
use Rattle.handle_find.proofs.left_sign.left_sign.Goals as goal
use Rattle.handle_find.proofs.left_sign.left_sign.Goals.{then-index-least, else-index-least}

pub loop-k-preserved : goal.loop-k-preserved
loop-k-preserved c =
    let more = taken-more c.args.letters.now.left c.loop-k.k c.letter_at-letter.result
    (omega arith) c.letter_at-letter.ensures in
    let none = subst HasNoHandle more (HasNoHandle-take c.args.letters.now.left (c.loop-k.k + 1) c.requires)
    in
    let index = c.index-index.ensures.value in
    let high = c.index-index.ensures.high in
    rw more (elim c.if-index-least.branch [
      | then-index-least w ↦
          rw (w.sign-is, w.least-is, index) (Known-lower _ _ c.loop-k.least _ c.letter_at-letter.result
          c.loop-k.invariant
          (omega (arith, w.if-index-least.true)) w.of_letter-sign.ensures.value
          w.of_letter-sign.ensures.index)
      | else-index-least w ↦
          rw (w.sign-is, w.least-is) (Known-other _ c.loop-k.least _ c.letter_at-letter.result
          c.loop-k.invariant
          (omega (arith, w.if-index-least.false)) (omega arith) none)
    ])
