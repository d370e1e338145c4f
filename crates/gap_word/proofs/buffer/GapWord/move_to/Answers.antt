-- The items between the cursor and its new place move over the room between.
use Rattle.std.proofs.Common.{arith}
use Rattle.std_alloc.proofs.vec.Slotted.{moved}
use Rattle.gap_word.proofs.BufferLemmas.{left_len, right_len, moves_up, moves_down, moves_under}
use Rattle.gap_word.proofs.FilledLemmas.{laid-up, laid-down, keeps-memory}
use Rattle.gap_word.proofs.buffer.GapWord.move_to.Goals as goal

pub shift-requires-clause-fits : goal.shift-requires-clause-fits
shift-requires-clause-fits g c =
    let laid = c.self.invariant.laid in
    let within = c.requires in
    let len = left_len laid _ c.self.view_is in let len' = right_len laid _ c.self.view_is in
    let long = laid.places in
    (omega arith, omega arith)

pub shift-requires-clause-full : goal.shift-requires-clause-full
shift-requires-clause-full g c =
    let laid = c.self.invariant.laid in
    let within = c.requires in
    let len = left_len laid _ c.self.view_is in let len' = right_len laid _ c.self.view_is in
    λ j p q. laid.right_full j p (omega arith)

pub invariant_of-self : goal.invariant_of-self
invariant_of-self g c =
    let laid = c.self.invariant.laid in
    let within = c.requires in
    let len = left_len laid _ c.self.view_is in let len' = right_len laid _ c.self.view_is in
    let told = c.shift.ensures in
    keeps-memory c.self.invariant told.held told.none
    (laid-up laid told.places told.places_marked _ (omega arith) told.filled told.marks)

pub invariant_of-self-then-self-k : goal.invariant_of-self-then-self-k
invariant_of-self-then-self-k g c =
    let laid = c.self.invariant.laid in
    let within = c.requires in
    let len = left_len laid _ c.self.view_is in let len' = right_len laid _ c.self.view_is in
    let told = c.shift-then-self-k.ensures in
    keeps-memory c.self.invariant told.held told.none
    (laid-down laid told.places told.places_marked _ _ (omega arith) (omega arith) told.filled told.marks)

pub returns-then-len-k : goal.returns-then-len-k
returns-then-len-k g c =
    let laid = c.self.invariant.laid in
    let within = c.requires in
    let len = left_len laid _ c.self.view_is in let len' = right_len laid _ c.self.view_is in
    let told = c.shift.ensures in
    moves_up laid _ c.self.view_is c.args.k (omega arith) within told.places
    (moved _ _ _ _ _ told.moved told.items)

pub returns-then-self-k : goal.returns-then-self-k
returns-then-self-k g c =
    let laid = c.self.invariant.laid in
    let within = c.requires in
    let len = left_len laid _ c.self.view_is in let len' = right_len laid _ c.self.view_is in
    let told = c.shift-then-self-k.ensures in
    moves_down laid _ c.self.view_is c.args.k _ _ (omega arith) (omega arith) (omega arith) told.places
    (moved _ _ _ _ _ told.moved told.items)

pub returns-else-self-k : goal.returns-else-self-k
returns-else-self-k g c =
    let laid = c.self.invariant.laid in
    let within = c.requires in
    let len = left_len laid _ c.self.view_is in let len' = right_len laid _ c.self.view_is in
    let told = c.shift-else-self-k.ensures in
    let told' = c.shift-else-self-k-2.ensures in
    let laid' = laid-down laid told.places told.places_marked _ _ (omega arith)
    (omega arith) told.filled told.marks in
    moves_under laid _ c.self.view_is laid' c.args.k (omega arith) told.places told'.places
    (moved _ _ _ _ _ told.moved told.items) (moved _ _ _ _ _ told'.moved told'.items)
