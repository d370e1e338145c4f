-- Certificates for the left-distributive equivalence of two terms, and for its failure.
--
-- A yes has two lists of addresses. It is right where the left term, expanded at those of the first list one
-- after the other, becomes the term that the right one becomes at those of the second. A no has a number n.
-- It is right where the two terms have different values in the Laver table of size 2^n.
-- Source: this project's own; expansions and Laver tables as in P. Dehornoy, Braids and Self-Distributivity,
-- 2000.
--
--   ExpandsAlong addresses t u   t becomes u by expansions at the addresses, one after the other
--   Certificate                  two terms, and a yes or a no
--   IsRight c                    what the certificate says shows that it is so
--   below side addresses         the addresses, in the part at this side
--   spread u                     addresses at which tu becomes t distributed over u
--   path t                       addresses at which t becomes its derived term
--   path_certificate t           the certificate that t is equivalent to its derived term
--
-- A yes that is right shows that the terms are equivalent, a no that they aren't, and no two terms have both:
-- the law `law_answers`.
use Rattle.std.specs.Prelude.{◌≡◌, ℕ, List, [], ◌∷◌, ◌++◌, map}
use Rattle.ld_term.specs.Terms.{Term, variable, multiply, derived}
use Rattle.laver_table.specs.Table.{IsLaver}
use Rattle.term_eval.specs.Values.{value_of}
use Rattle.term_expand.specs.Expansions.{expanded, expansion_at}

-- ---- Certificates ----

-- Each expansion begins where the one before it has ended. An address is a list of sides: `0` (48) leads to
-- the left part of a product, `1` (49) to its right part.
abbrev pub ExpandsAlong : List (List ℕ) → Term → Term → Type 0
ExpandsAlong [] t u = t ≡ u
ExpandsAlong (address ∷ addresses) t u =
    (v : Term) × (expansion_at address t ≡ expanded v) × ExpandsAlong addresses v u

-- Yes, by the addresses of the left term and those of the right one; or no, by the table of size 2^n.
pub data Answer : Type 0 where
  yes_by : (left right : List (List ℕ)) → Answer
  no_by : (n : ℕ) → Answer

pub record Certificate : Type 0 where
  pub left : Term
  pub right : Term
  pub answer : Answer

-- The expansions meet; or the values differ.
abbrev pub IsRightOf : Term → Term → Answer → Type 0
IsRightOf t u (yes_by left right) = (v : Term) × ExpandsAlong left t v × ExpandsAlong right u v
IsRightOf t u (no_by n) = (rows : List (List ℕ)) × IsLaver n rows × (value_of rows t ≡ value_of rows u → ⊥)

abbrev pub IsRight : Certificate → Type 0
IsRight c = IsRightOf c.left c.right c.answer

-- ---- The path to the derived term ----

-- The same places, seen from the term of which this part stands at the side.
abbrev pub below : ℕ → List (List ℕ) → List (List ℕ)
below side addresses = map (λ address. side ∷ address) addresses

-- The root of each product of u, the whole first: t goes down to the leaves of u.
abbrev pub spread : Term → List (List ℕ)
spread variable = []
spread (multiply u v) = [] ∷ (below 48 (spread u) ++ below 49 (spread v))

-- Both parts are derived, and then the one is distributed over the other: of x(xx) it is the root alone.
abbrev pub path : Term → List (List ℕ)
path variable = []
path (multiply t u) = below 48 (path t) ++ (below 49 (path u) ++ spread (derived u))

-- A yes of t and its derived term, with no address for the second.
abbrev pub path_certificate : Term → Certificate
path_certificate t = record { left = t; right = derived t; answer = yes_by (path t) [] }
