-- Worked rows of expansions and of requests, by computation.
use Rattle.std.proofs.Common.{◌≡◌, [], ◌∷◌, codes, refl}
use Rattle.ld_term.specs.Terms.{Term, variable, multiply}
use Rattle.term_expand.specs.Expansions.{expanded, no_place, not_expandable, expansion_at}
use Rattle.term_expand.specs.Requests.{distribute_requests, derive_requests, expand_requests}

-- xx
abbrev square : Term
square = multiply variable variable

-- x(xx)
abbrev small : Term
small = multiply variable square

-- x(xx) is expanded to (xx)(xx)
expanded_row : expansion_at [] small ≡ expanded (multiply square square)
expanded_row = refl

-- x can't be expanded, nor can the part xx of x(xx); below its left part there is no place
variable_row : expansion_at [] variable ≡ not_expandable
variable_row = refl

inner_row : expansion_at (codes "1") small ≡ not_expandable
inner_row = refl

below_row : expansion_at (codes "00") small ≡ no_place
below_row = refl

-- `0` leads to the left part, `1` to the right one
left_row
    : expansion_at (codes "0") (multiply small variable)
    ≡ expanded (multiply (multiply square square) variable)
left_row = refl

right_row
    : expansion_at (codes "1") (multiply variable small)
    ≡ expanded (multiply variable (multiply square square))
right_row = refl

-- of x(x(xx)) at `1`: two products of the part, the part, and then the whole
requests_row
    : expand_requests (codes "1") (multiply variable small)
    ≡ square ∷ square ∷ multiply square square ∷ multiply variable (multiply square square) ∷ []
requests_row = refl

-- where there is no place nothing is asked for
no_requests_row : expand_requests (codes "00") small ≡ []
no_requests_row = refl

-- xx distributed over xx: (xx)x for each leaf, and then the whole
distribute_row
    : distribute_requests square square
    ≡ multiply square variable ∷ multiply square variable ∷ multiply (multiply square variable)
    (multiply square variable) ∷ []
distribute_row = refl

-- the derivation of (xx)x asks for xx, and then for the distribution of xx over x
derive_row : derive_requests (multiply square variable) ≡ square ∷ multiply square variable ∷ []
derive_row = refl
