use Rattle.term_graph.proofs.ListingFileLemmas.{IsTermFile-listing}
use Rattle.term_graph.proofs.listing_law.law_listing.Goals as goal

pub returns : goal.returns
returns c = IsTermFile-listing
