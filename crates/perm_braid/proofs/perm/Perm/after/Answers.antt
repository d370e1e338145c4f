use Rattle.std.proofs.Common.{◌+◌, arith}
use Rattle.perm_braid.proofs.EntryPlaceLemmas.{entry_fits, Exchanged-after}
use Rattle.perm_braid.proofs.perm.Perm.after.Goals as goal

pub exchange-requires-2-clause-first : goal.exchange-requires-2-clause-first
exchange-requires-2-clause-first c =
    entry_fits c.args.self.now _ _ c.args.i _ c.self.view_is c.self.invariant c.as_slice-entries.ensures
    c.requires.low
    (omega (arith, c.requires.high)) c.entry_at-first.ensures

pub exchange-requires-2-clause-second : goal.exchange-requires-2-clause-second
exchange-requires-2-clause-second c =
    entry_fits c.args.self.now _ _ (c.args.i + 1) _ c.self.view_is c.self.invariant c.as_slice-entries.ensures
    (omega arith)
    (omega (arith, c.requires.high)) c.entry_at-second.ensures

pub invariant_of-self : goal.invariant_of-self
invariant_of-self c =
    let made =
    Exchanged-after c.args.self.now _ c.args.i _ _ c.self.view_is c.self.invariant c.as_slice-entries.ensures
    c.requires.low
    c.requires.high c.entry_at-first.ensures c.entry_at-second.ensures c.exchange.ensures
    c.exchange-2.ensures in
    (made.arrangement, made.places)

pub returns : goal.returns
returns c =
    let made =
    Exchanged-after c.args.self.now _ c.args.i _ _ c.self.view_is c.self.invariant c.as_slice-entries.ensures
    c.requires.low
    c.requires.high c.entry_at-first.ensures c.entry_at-second.ensures c.exchange.ensures
    c.exchange-2.ensures in
    made.entries
