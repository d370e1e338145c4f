-- The items between the hole and the one that is removed move over the hole.
use Rattle.std.proofs.Common.{arith}
use Rattle.std_alloc.proofs.vec.Slotted.{moved}
use Rattle.gap_word.proofs.BufferLemmas.{left_len, removes_low, removes_high}
use Rattle.gap_word.proofs.FilledLemmas.{laid-removes_high, keeps-memory}
use Rattle.gap_word.proofs.buffer.GapWord.remove_left.Goals as goal

pub shift-requires-else-k-self-clause-fits : goal.shift-requires-else-k-self-clause-fits
shift-requires-else-k-self-clause-fits g c =
    let laid = c.self.invariant.laid in
    let less = c.requires in
    let len = left_len laid _ c.self.view_is in
    let long = laid.places in
    (omega arith, omega arith)

pub shift-requires-else-k-self-clause-full : goal.shift-requires-else-k-self-clause-full
shift-requires-else-k-self-clause-full g c =
    let laid = c.self.invariant.laid in
    let less = c.requires in
    let len = left_len laid _ c.self.view_is in
    λ j p q. laid.high_full j p (omega arith)

pub overflow_add-self : goal.overflow_add-self
overflow_add-self g c =
    let laid = c.self.invariant.laid in
    let less = c.requires in
    let len = left_len laid _ c.self.view_is in
    let small = c.self.invariant.small in
    record { fits = omega arith }

pub overflow_add-self-else-k-self : goal.overflow_add-self-else-k-self
overflow_add-self-else-k-self g c =
    let laid = c.self.invariant.laid in
    let less = c.requires in
    let len = left_len laid _ c.self.view_is in
    let small = c.self.invariant.small in
    record { fits = omega arith }

pub invariant_of-self-else-k-self : goal.invariant_of-self-else-k-self
invariant_of-self-else-k-self g c =
    let laid = c.self.invariant.laid in
    let less = c.requires in
    let len = left_len laid _ c.self.view_is in
    let told = c.shift-else-k-self.ensures in
    keeps-memory c.self.invariant told.held told.none
    (laid-removes_high laid told.places told.places_marked c.args.k c.if-k-self.false
    (omega arith) told.filled told.marks)

pub returns-then-k-self : goal.returns-then-k-self
returns-then-k-self g c =
    let told = c.shift.ensures in
    removes_low c.self.invariant.laid _ c.self.view_is c.args.k c.if-k-self.true told.places
    (moved _ _ _ _ _ told.moved told.items)

pub returns-else-k-self : goal.returns-else-k-self
returns-else-k-self g c =
    let laid = c.self.invariant.laid in
    let less = c.requires in
    let len = left_len laid _ c.self.view_is in
    let told = c.shift-else-k-self.ensures in
    removes_high laid _ c.self.view_is c.args.k c.if-k-self.false (omega arith) told.places
    (moved _ _ _ _ _ told.moved told.items)
