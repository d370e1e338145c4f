use Rattle.std.proofs.Common.{arith}
use Rattle.std.proofs.lemmas.Bool.{false≢true}
use Rattle.perm_braid.proofs.EntryPlaceLemmas.{places_fit}
use Rattle.perm_braid.proofs.perm.Perm.copy.Goals as goal

pub returns-in_err-places-clause-inline : goal.returns-in_err-places-clause-inline
returns-in_err-places-clause-inline c short =
    let long = places_fit c.args.self.now _ _ c.self.view_is c.self.invariant c.as_slice-2.ensures in
    absurd (false≢true (c.in_err-places.ensures.succeeds (omega (arith, long, short))))
