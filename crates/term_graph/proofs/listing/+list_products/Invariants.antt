use Rattle.term_graph.proofs.listing.+list_products.Given as goal

-- The parts of a product have lower numbers.
abbrev pub decreases-list_products : goal.decreases-list_products
decreases-list_products l = l.a
