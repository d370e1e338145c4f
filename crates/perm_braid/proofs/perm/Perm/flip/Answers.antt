use Rattle.perm_braid.proofs.EntryPlaceLemmas.{Exchanged-turn, places_turn}
use Rattle.perm_braid.proofs.perm.Perm.flip.Goals as goal

pub turn-requires-2-clause-short : goal.turn-requires-2-clause-short
turn-requires-2-clause-short c = (places_turn c.self.invariant).0

pub turn-requires-2-clause-order : goal.turn-requires-2-clause-order
turn-requires-2-clause-order c = (places_turn c.self.invariant).1

pub invariant_of-self : goal.invariant_of-self
invariant_of-self c =
    let made = Exchanged-turn c.args.self.now c.self.view_is c.self.invariant c.turn.ensures
    c.turn-2.ensures in
    (made.arrangement, made.places)
