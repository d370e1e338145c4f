-- An item is put into the room between: as it is, after the room is opened, or after the hole is closed.
use Rattle.std.proofs.Common.{arith}
use Rattle.std_alloc.proofs.vec.Slotted.{moved}
use Rattle.gap_word.proofs.BufferLemmas.{no_cells, opens, closes, closed_room, puts_right}
use Rattle.gap_word.proofs.FilledLemmas.{laid-opens, laid-closes}
use Rattle.gap_word.proofs.buffer.GapWord.push_right.Goals as goal

pub returns-then-self : goal.returns-then-self
returns-then-self g c =
    puts_right c.self.invariant.laid _ c.self.view_is c.args.item c.if-self.true c.put.ensures.items

pub returns-then-self-gt0 : goal.returns-then-self-gt0
returns-then-self-gt0 g c =
    let inv = c.self.invariant in
    let some = c.if-self-gt0.true in
    let none = no_cells c.self.inside.row _ (inv.unopened some).1 inv.laid.places in
    let laid = laid-opens inv.laid _ none c.open.ensures.places c.open.ensures.marks in
    puts_right laid _ (opens inv.laid _ c.self.view_is _ none c.open.ensures.places) c.args.item (omega arith)
    c.put-then-self-gt0.ensures.items

pub returns-else-self-gt0 : goal.returns-else-self-gt0
returns-else-self-gt0 g c =
    let inv = c.self.invariant in
    let told = c.shift.ensures in
    let long = told.places in
    let laid = laid-closes inv.laid long told.places_marked told.filled told.marks in
    puts_right laid _ (closes inv.laid _ c.self.view_is long
    (moved _ _ _ _ _ told.moved told.items)) c.args.item
    (closed_room inv.laid _ c.self.view_is c.if-self.false c.if-self-gt0.false c.requires)
    c.put-else-self-gt0.ensures.items
