use Rattle.perm_braid.proofs.EntryPlaceLemmas.{Exchanged-identity}
use Rattle.perm_braid.proofs.perm.Perm.identity.Goals as goal

pub invariant_of-result : goal.invariant_of-result
invariant_of-result c =
    let made = Exchanged-identity c.requires.low c.requires.high c.in_ok-entries.ensures.items
    c.in_ok-places.ensures.items in
    (made.arrangement, made.places)
