-- The listing is whole where all products are listed.
use Rattle.std.proofs.Common.{arith}
use Rattle.term_graph.proofs.MakeLemmas.{begun-placed, begun-whole, begun-few}
use Rattle.term_graph.proofs.listing.Listing.make.Goals as goal

pub invariant_of-result : goal.invariant_of-result
invariant_of-result c =
    let begun = c.in_ok-list_products.ensures.begun in
    let placed =
    begun-placed _ _ _ c.in_ok-places.places.items c.in_ok-places.places.len begun
    (omega (arith, c.in_ok-places.ensures.len, c.nodes.ensures.count, c.nodes.ensures.graph.some)) in (
      placed,
      begun-few _ _ _ _ c.requires begun _ c.new-numbers.ensures.items
          c.in_ok-list_products.ensures.listed,
    )

pub returns-clause-listing : goal.returns-clause-listing
returns-clause-listing c =
    begun-whole _ _ _ _ c.requires c.in_ok-list_products.ensures.begun _ c.new-numbers.ensures.items
    c.in_ok-list_products.ensures.listed
