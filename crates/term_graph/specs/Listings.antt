-- The products of a term, and the listing that writes each of them once.
--
-- A listing has one line for each different product of a term, in postorder of their first occurrences, which
-- names it by its number, and then one line for the term itself. So it is as long as the term has different
-- products, however large the term is.
-- Source: this project's own.
--
--   products t               the products that are parts of t, in postorder
--   add_new listed ts        a list, and behind it each of these terms that isn't yet there
--   IsClosed listed          with each term a list has the products of it
--   distinct_products t      the different products of t, in postorder of their first occurrences
--   listing_text t           the text of the listing of t
--   Listed                   the number of a term, and those of its different products
--   IsListing made root numbers
--                            these are the numbers of the different products of the term with number root
use Rattle.std.specs.Prelude.{◌≡◌, ℕ, ◌+◌, ◌<◌, true, not, if◌then◌else◌, List, [], ◌∷◌, ◌++◌, All, length, map, codes, decimal}
use Rattle.std.specs.List.{prefix_len}
use Rattle.wb_base.specs.Lines.{line}
use Rattle.ld_term.specs.Terms.{Term, variable, multiply}
use Rattle.term_graph.specs.Asks.{same_term, has_term}
use Rattle.term_graph.specs.TermLists.{term_at}

-- ---- Products ----

-- The parts that are products, each behind those of its left and of its right part: of (xx)x they are xx and
-- (xx)x.
abbrev pub products : Term → List Term
products variable = []
products (multiply t u) = products t ++ (products u ++ (multiply t u ∷ []))

-- A list, with each of these terms that isn't yet there put behind it.
abbrev pub add_new : List Term → List Term → List Term
add_new listed [] = listed
add_new listed (t ∷ ts) = add_new (if has_term t listed then listed else listed ++ (t ∷ [])) ts

-- With each term the list has the products of it. No public clause cites it.
pub record IsClosed (listed : List Term) : Type 0 where
  pub has
      : (t u : Term)
      → has_term t listed ≡ true
      → has_term u (products t) ≡ true
      → has_term u listed ≡ true

-- The different products: of (xx)(xx) they are xx and (xx)(xx).
unfoldable pub distinct_products : Term → List Term
distinct_products t = add_new [] (products t)

-- ---- Texts ----

-- The number of a listed term, counted from 1.
abbrev pub number_in : List Term → Term → ℕ
number_in listed t = prefix_len (λ u. not (same_term t u)) listed + 1

-- A term by its name: `x`, or `t` and its number.
abbrev pub name_text : List Term → Term → List ℕ
name_text listed variable = codes "x"
name_text listed (multiply t u) = codes "t" ++ decimal (number_in listed (multiply t u))

-- The line of the product with number k: `t3 = (t2*x)`.
abbrev pub product_line : List Term → ℕ → Term → List ℕ
product_line listed k variable = []
product_line listed k (multiply t u) =
    line (codes "t" ++ (decimal k ++ (codes " = ("
    ++ (name_text listed t ++ (codes "*" ++ (name_text listed u ++ codes ")"))))))

-- The lines of products with the numbers from k on.
abbrev pub product_lines : List Term → ℕ → List Term → List ℕ
product_lines listed k [] = []
product_lines listed k (t ∷ ts) = product_line listed k t ++ product_lines listed (k + 1) ts

-- The text of the listing: of (xx)x it is `t1 = (x*x)`, `t2 = (t1*x)` and `t2`, each on a line.
unfoldable pub listing_text : Term → List ℕ
listing_text t =
    product_lines (distinct_products t) 1 (distinct_products t) ++ line (name_text (distinct_products t) t)

-- ---- Listings of a graph ----

-- The number of a term, and those of its different products.
pub record Listed : Type 0 where
  pub root : ℕ
  pub numbers : List ℕ

-- These numbers of a graph stand for the different products of the term with number root.
pub record IsListing (made : List Term) (root : ℕ) (numbers : List ℕ) : Type 0 where
  pub root_within : root < length made
  pub within : All (λ n. n < length made) numbers
  pub terms : map (term_at made) numbers ≡ distinct_products (term_at made root)
