-- A product is one of its products.
use Rattle.term_graph.proofs.ListingLemmas.{products-one}
use Rattle.term_graph.proofs.listing.put_name.Goals as goal

pub place_of-requires-clause-listed : goal.place_of-requires-clause-listed
place_of-requires-clause-listed g c = c.requires.listed _ (products-one _ _ _ c.in-Some.ensures.2)
