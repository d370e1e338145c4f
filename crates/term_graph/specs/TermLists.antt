-- The list of terms that a graph stands for, and the numbers of a term.
--
-- A number stands for the term at its place in the list, counted from 0. The list begins with x; behind it
-- come the products as they were made, no two the same, each behind its parts.
-- Source: this project's own; the braid of a term is that of P. Dehornoy, Braids and Self-Distributivity,
-- 2000.
--
--   term_at terms n      the term that number n stands for
--   product_count terms  how many products there are
--   IsGraph terms        the list is one that a graph stands for
--   braid_length t       how many letters the braid word of t has
--   capped n             n, or the greatest 64-bit number where n is above it
use Rattle.std.specs.Prelude.{◌≡◌, ℕ, ◌+◌, ◌-◌, ◌*◌, ◌^◌, ◌<◌, ◌≤◌, min, List, All, length, slice_index_or}
use Rattle.ld_term.specs.Terms.{Term, variable, multiply, height}
use Rattle.ld_term.specs.declared.TheConstants.{MAX_HEIGHT}
use Rattle.term_graph.specs.declared.TheConstants.{MAX_NODES}

-- ---- The list ----

-- The term that a number stands for.
abbrev pub term_at : List Term → ℕ → Term
term_at terms n = slice_index_or terms n variable

-- The number of products: x is none.
abbrev pub product_count : List Term → ℕ
product_count terms = length terms - 1

-- Number n is the product of two terms that stand before it.
pub record HasParts (terms : List Term) (n : ℕ) : Type 0 where
  pub left : ℕ
  pub right : ℕ
  pub left_before : left < n
  pub right_before : right < n
  pub product : term_at terms n ≡ multiply (term_at terms left) (term_at terms right)

-- A list that a graph stands for.
pub record IsGraph (terms : List Term) : Type 0 where
  pub some : 0 < length terms
  pub first : term_at terms 0 ≡ variable
  pub parts : (n : ℕ) → 0 < n → n < length terms → HasParts terms n
  pub different : (i j : ℕ) → i < length terms → j < length terms → term_at terms i ≡ term_at terms j → i ≡ j
  pub few : product_count terms ≤ MAX_NODES
  pub low : All (λ t. height t ≤ MAX_HEIGHT) terms

-- ---- The numbers of a term ----

-- The length of its braid word: 0 for x, and for tu twice that of t, that of u, and 1.
abbrev pub braid_length : Term → ℕ
braid_length variable = 0
braid_length (multiply t u) = 2 * braid_length t + braid_length u + 1

-- A number as 64 bits hold it: the greatest of them stands for all above it.
abbrev pub capped : ℕ → ℕ
capped n = min n (2 ^ 64 - 1)
