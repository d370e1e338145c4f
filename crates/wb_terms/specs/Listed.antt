-- Listings of terms that are equivalent to that of an input.
--
-- Source: this project's own.
--
--   listing_answer t        the answer that lists t
--   listed asked t          the same, where its requests were answered so
--   HasListing t u text     the text is the listing of u, which is equivalent to t
use Rattle.std.specs.Prelude.{◌≡◌, ℕ, List}
use Rattle.wb_base.specs.Status.{Answer, answer}
use Rattle.wb_base.specs.declared.status.Status.TheVariants.{Done}
use Rattle.braid_word.specs.Equivalence.{Equivalent}
use Rattle.ld_term.specs.Terms.{Term, IsEquivalent}
use Rattle.term_graph.specs.Asks.{Asked, answered, too_deep, full}
use Rattle.term_graph.specs.Listings.{listing_text}
use Rattle.term_eval.specs.Braids.{braid}
use Rattle.wb_command.specs.Refusals.{height_met, nodes_met}

abbrev pub listing_answer : Term → Answer
listing_answer t = answer Done (listing_text t)

-- The listing of a term, or the limit that a product meets.
abbrev pub listed : Asked → Term → Answer
listed (answered made) t = listing_answer t
listed too_deep t = height_met
listed full t = nodes_met

-- Equivalent terms have equivalent braids.
pub record HasListing (t u : Term) (text : List ℕ) : Type 0 where
  pub equivalent : IsEquivalent t u
  pub braids : Equivalent (braid t) (braid u)
  pub is : text ≡ listing_text u
