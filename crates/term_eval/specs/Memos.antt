-- What is kept while a term's value is found. No public clause cites this.
--
--   IsMemo made rows known listed    for each number, the value of its term, or 0 where it isn't known; the
--                                    terms whose values are known are those of the list
use Rattle.std.specs.Prelude.{◌≡◌, ℕ, ◌<◌, ◌≤◌, nat_lt, List, length, slice_index}
use Rattle.ld_term.specs.Terms.{Term}
use Rattle.term_graph.specs.TermLists.{term_at}
use Rattle.term_graph.specs.Asks.{has_term}
use Rattle.term_graph.specs.Listings.{IsClosed}
use Rattle.term_eval.specs.Values.{value_of}

-- What is known of the values of a graph's terms, by their numbers. A value is above 0.
pub record IsMemo (made : List Term) (rows : List (List ℕ)) (known : List ℕ)
    (listed : List Term) : Type 0 where
  pub room : length known ≤ length made
  pub value : (n : ℕ) → n < length known → 0 < slice_index known n
      → slice_index known n ≡ value_of rows (term_at made n)
  pub marked : (n : ℕ) → n < length known → has_term (term_at made n) listed ≡ nat_lt 0 (slice_index known n)
  pub closed : IsClosed listed
