-- Terms of left-distributive algebra in one variable.
--
-- A term is x or a product of two terms. The left-distributive law t(uv) = (tu)(tv), read from left to right
-- at one place, expands a term. Two terms are equivalent where a list of terms leads from one to the other,
-- and of two neighbours one expands to the other.
-- Source: P. Dehornoy, Braids and Self-Distributivity, 2000.
--
--   Term               a term
--   height t           the height of t: 0 for x, one more than the higher part's for a product
--   leaf_count t       how many leaves t has
--   Expands t u        u is t with one part t(uv) replaced by (tu)(tv)
--   IsEquivalent t u   a list of expansions, forward and backward, leads from t to u
--   distributed t u    u with t multiplied from the left to each of its leaves
--   derived t          the derived term of t
use Rattle.std.specs.Prelude.{ℕ, ◌+◌, max}

-- ---- Terms ----

-- A term: the variable, or a product.
pub data Term : Type 0 where
  variable : Term
  multiply : (left right : Term) → Term

-- The height: 0 for the variable, and one more than the higher part's for a product.
abbrev pub height : Term → ℕ
height variable = 0
height (multiply t u) = max (height t) (height u) + 1

-- The number of leaves.
abbrev pub leaf_count : Term → ℕ
leaf_count variable = 1
leaf_count (multiply t u) = leaf_count t + leaf_count u

-- ---- Left distributivity ----

-- One part is expanded: the term itself, or in one of its parts.
pub data Expands : Term → Term → Type 0 where
  here : (t u v : Term) → Expands (multiply t (multiply u v)) (multiply (multiply t u) (multiply t v))
  on_left : {t u : Term} (v : Term) → Expands t u → Expands (multiply t v) (multiply u v)
  on_right : {t u : Term} (v : Term) → Expands t u → Expands (multiply v t) (multiply v u)

-- A list of expansions, each forward or backward.
pub data IsEquivalent : Term → Term → Type 0 where
  stay : (t : Term) → IsEquivalent t t
  forward : {t u v : Term} → Expands t u → IsEquivalent u v → IsEquivalent t v
  backward : {t u v : Term} → Expands u t → IsEquivalent u v → IsEquivalent t v

-- t times each leaf of u: of t and x(xx) it is (tx)((tx)(tx)).
abbrev pub distributed : Term → Term → Term
distributed t variable = multiply t variable
distributed t (multiply u v) = multiply (distributed t u) (distributed t v)

-- The derived term: that of x is x, and that of tu is the derived term of t distributed over that of u.
abbrev pub derived : Term → Term
derived variable = variable
derived (multiply t u) = distributed (derived t) (derived u)
