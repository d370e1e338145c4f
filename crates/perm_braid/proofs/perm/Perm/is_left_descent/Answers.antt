use Rattle.std.proofs.Common.{arith}
use Rattle.perm_braid.proofs.EntryPlaceLemmas.{places_fit, left_descent_is}
use Rattle.perm_braid.proofs.perm.Perm.is_left_descent.Goals as goal

pub entry_at-requires-clause-high : goal.entry_at-requires-clause-high
entry_at-requires-clause-high c =
    let long = places_fit c.args.self.now _ _ c.self.view_is c.self.invariant c.as_slice-places.ensures in
    omega (arith, long, c.requires.high)

pub entry_at-requires-2-clause-high : goal.entry_at-requires-2-clause-high
entry_at-requires-2-clause-high c =
    let long = places_fit c.args.self.now _ _ c.self.view_is c.self.invariant c.as_slice-places.ensures in
    omega (arith, long, c.requires.high)

pub returns : goal.returns
returns c =
    left_descent_is c.args.self.now _ _ c.args.i _ _ c.self.view_is c.self.invariant c.as_slice-places.ensures
    c.requires.low
    c.requires.high c.entry_at.ensures c.entry_at-2.ensures
