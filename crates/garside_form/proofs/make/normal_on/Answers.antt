use Rattle.std.proofs.Common.{◌≡◌, to_z, of_z, w32}
use Rattle.garside_form.proofs.NormalLemmas.{normal_made, difference_read}
use Rattle.garside_form.proofs.make.normal_on.Goals as goal

pub of-requires-clause-normal : goal.of-requires-clause-normal
of-requires-clause-normal c =
    let turns = c.in_ok-turns.ensures in
    (normal_made c.args.n c.in_ok-turns.turns.made c.in_ok-turns.turns.inverse c.difference.result
    c.args.word.now
    c.in_ok-turns.turns.odd _ _ turns.spelled turns.ready turns.parity c.turn_factors.ensures
    c.difference.ensures.up c.difference.ensures.down).normal

pub returns-clause-form : goal.returns-clause-form
returns-clause-form c =
    let turns = c.in_ok-turns.ensures in
    let read : to_z w32 (of_z w32 c.difference.result) ≡ c.difference.result =
    difference_read c.in_ok-turns.turns.inverse c.in_ok-turns.turns.made _ turns.inverse turns.made
    c.difference.ensures.up c.difference.ensures.down in
    rw (c.of.ensures, read)
    (normal_made c.args.n c.in_ok-turns.turns.made c.in_ok-turns.turns.inverse c.difference.result
    c.args.word.now
    c.in_ok-turns.turns.odd _ _ turns.spelled turns.ready turns.parity c.turn_factors.ensures
    c.difference.ensures.up c.difference.ensures.down)
