use Rattle.std.proofs.Common.{◌+◌, refl, arith}
use Rattle.perm_braid.proofs.EntryPlaceLemmas.{place_fits, places_fit, Exchanged-before}
use Rattle.perm_braid.proofs.perm.Perm.before.Goals as goal

pub entry_at-first-requires-clause-high : goal.entry_at-first-requires-clause-high
entry_at-first-requires-clause-high c =
    let long = places_fit c.args.self.now _ _ c.self.view_is c.self.invariant c.as_slice-places.ensures in
    omega (arith, long, c.requires.high)

pub entry_at-second-requires-clause-high : goal.entry_at-second-requires-clause-high
entry_at-second-requires-clause-high c =
    let long = places_fit c.args.self.now _ _ c.self.view_is c.self.invariant c.as_slice-places.ensures in
    omega (arith, long, c.requires.high)

pub exchange-requires-clause-first : goal.exchange-requires-clause-first
exchange-requires-clause-first c =
    place_fits c.args.self.now _ _ c.args.i _ c.self.view_is c.self.invariant c.as_slice-places.ensures
    c.requires.low
    (omega (arith, c.requires.high)) c.entry_at-first.ensures

pub exchange-requires-clause-second : goal.exchange-requires-clause-second
exchange-requires-clause-second c =
    place_fits c.args.self.now _ _ (c.args.i + 1) _ c.self.view_is c.self.invariant c.as_slice-places.ensures
    (omega arith)
    (omega (arith, c.requires.high)) c.entry_at-second.ensures

pub exchange-requires-2-clause-first : goal.exchange-requires-2-clause-first
exchange-requires-2-clause-first c =
    let long = places_fit c.args.self.now _ _ c.self.view_is c.self.invariant refl in
    (c.requires.low, omega (arith, long, c.requires.high))

pub exchange-requires-2-clause-second : goal.exchange-requires-2-clause-second
exchange-requires-2-clause-second c =
    let long = places_fit c.args.self.now _ _ c.self.view_is c.self.invariant refl in
    (omega arith, omega (arith, long, c.requires.high))

pub invariant_of-self : goal.invariant_of-self
invariant_of-self c =
    let made =
    Exchanged-before c.args.self.now _ c.args.i _ _ c.self.view_is c.self.invariant c.as_slice-places.ensures
    c.requires.low
    c.requires.high c.entry_at-first.ensures c.entry_at-second.ensures c.exchange.ensures
    c.exchange-2.ensures in
    (made.arrangement, made.places)

pub returns : goal.returns
returns c =
    let made =
    Exchanged-before c.args.self.now _ c.args.i _ _ c.self.view_is c.self.invariant c.as_slice-places.ensures
    c.requires.low
    c.requires.high c.entry_at-first.ensures c.entry_at-second.ensures c.exchange.ensures
    c.exchange-2.ensures in
    made.entries
