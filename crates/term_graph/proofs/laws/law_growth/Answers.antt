use Rattle.term_graph.proofs.RequestLemmas.{length-front, term_at-front, IsListing-front}
use Rattle.term_graph.proofs.laws.law_growth.Goals as goal

pub returns-clause-numbers : goal.returns-clause-numbers
returns-clause-numbers c =
    λ old new front n within. (length-front old new n front within, term_at-front old new n front within)

pub returns-clause-listing : goal.returns-clause-listing
returns-clause-listing c =
    λ old new front root numbers listing. IsListing-front old new root numbers front listing
