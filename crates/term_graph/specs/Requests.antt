-- Terms with names, and the products that they ask for.
--
-- A name stands for a term that was defined before; names and their terms are listed in the order of their
-- definitions. A name asks for nothing, since its term was made when it was defined.
-- Source: this project's own.
--
--   is_known name names       whether a name is among these
--   first_unknown names t     the place of the leftmost name of t that isn't among these
--   meaning terms t           the term that t is, with the names' terms put in
--   text_requests terms t     the products of t, a product behind those of its left and of its right part
--   named_terms made names    the names of a graph, with the terms that their numbers stand for
--   IsFront old new           a list is a front of another
use Rattle.std.specs.Prelude.{◌≡◌, ℕ, Bool, List, [], ◌∷◌, ◌++◌, map, if◌then◌else◌, Option, Some, None}
use Rattle.std.specs.List.{list_any}
use Rattle.std.specs.Map.{lookup}
use Rattle.std.specs.Option.{option_or, unwrap_or}
use Rattle.std.specs.Str.{bytes_eq}
use Rattle.ld_term.specs.Terms.{Term, variable, multiply}
use Rattle.ld_term.specs.Written.{Written, leaf, named, times}
use Rattle.term_graph.specs.TermLists.{term_at}

-- ---- Names ----

-- Whether a name is among these.
abbrev pub is_known : List ℕ → List (List ℕ) → Bool
is_known name names = list_any (bytes_eq name) names

-- The place of the leftmost name that isn't among these: in `a*(b*c)`, where `a` and `c` are, it is 4.
abbrev pub first_unknown : List (List ℕ) → Written → Option ℕ
first_unknown names leaf = None
first_unknown names (named name place) = if is_known name names then None else Some place
first_unknown names (times a b) = option_or (first_unknown names a) (first_unknown names b)

-- ---- Meanings ----

-- The term, with the names' terms put in. A name that stands for none counts as x; where a term is asked for,
-- there is no such name.
abbrev pub meaning : List (List ℕ × Term) → Written → Term
meaning terms leaf = variable
meaning terms (named name place) = unwrap_or (lookup (bytes_eq name) terms) variable
meaning terms (times a b) = multiply (meaning terms a) (meaning terms b)

-- The products in postorder, the left part first: of `(x*x)*a`, where `a` stands for t, they are xx and
-- (xx)t.
abbrev pub text_requests : List (List ℕ × Term) → Written → List Term
text_requests terms leaf = []
text_requests terms (named name place) = []
text_requests terms (times a b) =
    text_requests terms a ++ (text_requests terms b ++ (multiply (meaning terms a) (meaning terms b) ∷ []))

-- ---- Names of a graph ----

-- The names of a list, with the terms that their numbers stand for.
abbrev pub named_terms : List Term → List (List ℕ × ℕ) → List (List ℕ × Term)
named_terms made names = map (λ own. (own.0, term_at made own.1)) names

-- The first list is a front of the second: each number of it stands for its term as before.
abbrev pub IsFront : List Term → List Term → Type 0
IsFront old new = (more : List Term) × (new ≡ old ++ more)
