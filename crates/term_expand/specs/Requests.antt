-- The products that expansion, distribution and derivation ask a graph for, in their order.
--
-- A product is asked for behind its parts. Where a request is refused, those behind it aren't made.
-- Source: this project's own.
--
--   distribute_requests a b       those of the distribution of a over b
--   derive_requests t             those of the derivation of t
--   expand_requests address t     those of the expansion of t at an address
use Rattle.std.specs.Prelude.{ℕ, ◌==◌, if◌then◌else◌, List, [], ◌∷◌, ◌++◌}
use Rattle.ld_term.specs.Terms.{Term, variable, multiply, distributed, derived}
use Rattle.term_expand.specs.Expansions.{Expansion, expanded, no_place, not_expandable, expansion_at}

-- The leaves of b from left to right, each product behind its parts: of a and xx they are ax and (ax)(ax).
abbrev pub distribute_requests : Term → Term → List Term
distribute_requests a variable = multiply a variable ∷ []
distribute_requests a (multiply u v) =
    distribute_requests a u
    ++ (distribute_requests a v ++ (multiply (distributed a u) (distributed a v) ∷ []))

-- The derivation of the left part, that of the right part, and the distribution of the one over the other.
abbrev pub derive_requests : Term → List Term
derive_requests variable = []
derive_requests (multiply t u) =
    derive_requests t ++ (derive_requests u ++ distribute_requests (derived t) (derived u))

-- The product of an expanded part with what stands beside it, if there is an expansion.
abbrev pub above : (Term → Term) → Expansion → List Term
above whole (expanded t) = whole t ∷ []
above whole no_place = []
above whole not_expandable = []

-- tu, tv and (tu)(tv) at the address, and then the products above it, up to the whole term.
abbrev pub expand_requests : List ℕ → Term → List Term
expand_requests [] variable = []
expand_requests [] (multiply t variable) = []
expand_requests [] (multiply t (multiply u v)) =
    multiply t u ∷ (multiply t v ∷ (multiply (multiply t u) (multiply t v) ∷ []))
expand_requests (side ∷ address) variable = []
expand_requests (side ∷ address) (multiply t u) =
    if side == 48 then expand_requests address t ++ above (λ a. multiply a u) (expansion_at address t)
    else expand_requests address u ++ above (λ b. multiply t b) (expansion_at address u)
