-- How a listing finds the place of a number. No public clause cites this module.
--
--   place_of places n         the place of a number in a listing, counted from 1, or 0 where it isn't listed
--   IsPlaced numbers places   the places are those of these numbers
--   IsBegun made numbers places
--                             a part of a listing of this graph's terms
--   parts_text listed t u     the names of the parts of a product
--   line_at listed k          the line of the product at a place, counted from 0
use Rattle.std.specs.Prelude.{◌≡◌, ℕ, ◌+◌, ◌-◌, ◌<◌, ◌≤◌, ◌++◌, List, length, map, codes, slice_index_or}
use Rattle.ld_term.specs.Terms.{Term, variable}
use Rattle.term_graph.specs.TermLists.{term_at, IsGraph}
use Rattle.term_graph.specs.Listings.{IsClosed, name_text, product_line}

-- The place of a number.
abbrev pub place_of : List ℕ → ℕ → ℕ
place_of places n = slice_index_or places n 0

-- The places are those of these numbers.
pub record IsPlaced (numbers places : List ℕ) : Type 0 where
  pub within : (k : ℕ) → k < length numbers → slice_index_or numbers k 0 < length places
  pub place : (k : ℕ) → k < length numbers → place_of places (slice_index_or numbers k 0) ≡ k + 1
  pub few : (n : ℕ) → n < length places → place_of places n ≤ length numbers
  pub number
      : (n : ℕ)
      → n < length places
      → 0 < place_of places n
      → slice_index_or numbers (place_of places n - 1) 0 ≡ n

-- Of a graph, some numbers and their places are a part of a listing: with each product they have its
-- products.
pub record IsBegun (made : List Term) (numbers places : List ℕ) : Type 0 where
  pub graph : IsGraph made
  pub room : length places ≡ length made
  pub placed : IsPlaced numbers places
  pub closed : IsClosed (map (term_at made) numbers)

-- The names of the parts of a product, with a star between them.
abbrev pub parts_text : List Term → Term → Term → List ℕ
parts_text listed t u = name_text listed t ++ (codes "*" ++ name_text listed u)

-- The line of the product at a place, counted from 0.
abbrev pub line_at : List Term → ℕ → List ℕ
line_at listed k = product_line listed (k + 1) (slice_index_or listed k variable)
