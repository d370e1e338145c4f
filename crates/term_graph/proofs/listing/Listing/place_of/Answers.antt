-- The place of a number is that of its term.
use Rattle.std.proofs.Common.{ap, ◌∙◌, subst, arith}
use Rattle.term_graph.specs.Places.{IsPlaced}
use Rattle.term_graph.proofs.PlaceLemmas.{found-place, listed-room, place-number_in}
use Rattle.term_graph.proofs.listing.Listing.place_of.Goals as goal

pub index-requires-2 : goal.index-requires-2
index-requires-2 c =
    let placed =
    subst (λ z. IsPlaced z c.self.inside.places.items) (ap (λ z. z.numbers) c.self.view_is)
    c.self.invariant.0 in
    let room = listed-room _ _ _ _ c.nodes.ensures.graph c.requires.listing placed _ c.requires.there
    c.requires.listed in
    omega (arith, room, c.index.ensures, c.self.inside.places.ok.0)

pub returns : goal.returns
returns c =
    let placed =
    subst (λ z. IsPlaced z c.self.inside.places.items) (ap (λ z. z.numbers) c.self.view_is)
    c.self.invariant.0 in
    let room = listed-room _ _ _ _ c.nodes.ensures.graph c.requires.listing placed _ c.requires.there
    c.requires.listed in
    found-place c.self.inside.places.items _ _ _ c.index-2.ensures c.index.ensures room
    ∙ place-number_in _ _ _ _ c.nodes.ensures.graph c.requires.listing placed _ c.requires.there
    c.requires.listed
