-- Terms as they are written: with names, and with the places of the names.
--
-- A term is x, a name, or a product of two terms. A name stands for a term that is defined elsewhere; here
-- it counts as a leaf.
-- Source: P. Dehornoy, Braids and Self-Distributivity, 2000; names are this project's.
--
--   written_height t     the height of t: 0 for a leaf, one more than the higher part's for a product
--   HasNoName t          no part of t is a name
--   written_products t   how many products t has
use Rattle.std.specs.Prelude.{ℕ, ◌+◌, max, List}

-- A term. The place of a name is that of its first byte in the line, counted from 1.
pub data Written : Type 0 where
  leaf : Written
  named : (name : List ℕ) → (place : ℕ) → Written
  times : (left right : Written) → Written

-- The height: that of `(x*x)*x` is 2.
abbrev pub written_height : Written → ℕ
written_height leaf = 0
written_height (named name place) = 0
written_height (times a b) = max (written_height a) (written_height b) + 1

-- The number of products: `(x*x)*x` has 2.
abbrev pub written_products : Written → ℕ
written_products leaf = 0
written_products (named name place) = 0
written_products (times a b) = written_products a + written_products b + 1

-- No part is a name.
abbrev pub HasNoName : Written → Type 0
HasNoName leaf = Unit {0}
HasNoName (named name place) = ⊥
HasNoName (times a b) = HasNoName a × HasNoName b
