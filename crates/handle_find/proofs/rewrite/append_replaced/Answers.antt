-- What stands for the letters so far and the next one is within what stands for all.
use Rattle.std.proofs.Common.{arith}
use Rattle.handle_find.specs.Handles.{replaced}
use Rattle.handle_find.proofs.ReductLength.{room-next}
use Rattle.handle_find.proofs.rewrite.append_replaced.Goals as goal

pub append_one_replaced-requires : goal.append_one_replaced-requires
append_one_replaced-requires c =
    let f = replaced c.args.first.index c.args.first.negative in
    room-next f c.args.into.now.items _ c.args.letters.now c.loop-letter.letter-index _ _ _
    (omega arith)
    c.letter-item.is
    c.requires
    c.loop-letter.invariant.capacity
    c.loop-letter.invariant.items
