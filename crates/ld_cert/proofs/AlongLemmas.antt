-- Laws of expansions at a list of addresses.
--
-- Where the left part of a product is expanded along some addresses, the whole is along these below the left
-- side (`along_left`), and so on the right (`along_right`). So the path of a term leads to its derived term
-- (`along_path`). What a term becomes along addresses is equivalent to it (`along_equivalent`).
use Rattle.std.proofs.Common.{ℕ, List, [], ◌∷◌, ◌++◌, refl, sym, ap, subst}
use Rattle.ld_term.specs.Terms.{Term, variable, multiply, forward, stay, IsEquivalent, distributed, derived}
use Rattle.term_expand.specs.Expansions.{within}
use Rattle.term_expand.proofs.ExpandLemmas.{expansion_at-Expands}
use Rattle.ld_cert.specs.Certificates.{ExpandsAlong, below, spread, path}

-- ---- Addresses in parts ----

-- one list of addresses and then another
pub along_append
    : (first second : List (List ℕ)) (t u v : Term)
    → ExpandsAlong first t u
    → ExpandsAlong second u v
    → ExpandsAlong (first ++ second) t v
along_append [] second t u v one two = subst (λ z. ExpandsAlong second z v) (sym one) two
along_append (address ∷ first) second t u v (w, is, more) two =
    (w, is, along_append first second w u v more two)

-- the left part of a product
pub along_left
    : (addresses : List (List ℕ)) (t u v : Term)
    → ExpandsAlong addresses t u
    → ExpandsAlong (below 48 addresses) (multiply t v) (multiply u v)
along_left [] t u v same = ap (λ z. multiply z v) same
along_left (address ∷ addresses) t u v (w, is, more) =
    (multiply w v, ap (within (λ z. multiply z v)) is, along_left addresses w u v more)

-- the right part
pub along_right
    : (addresses : List (List ℕ)) (t u v : Term)
    → ExpandsAlong addresses t u
    → ExpandsAlong (below 49 addresses) (multiply v t) (multiply v u)
along_right [] t u v same = ap (multiply v) same
along_right (address ∷ addresses) t u v (w, is, more) =
    (multiply v w, ap (within (multiply v)) is, along_right addresses w u v more)

-- both, the left one first
along_both
    : (first second : List (List ℕ)) (t u a b : Term)
    → ExpandsAlong first t a
    → ExpandsAlong second u b
    → ExpandsAlong (below 48 first ++ below 49 second) (multiply t u) (multiply a b)
along_both first second t u a b one two =
    along_append (below 48 first) (below 49 second) (multiply t u) (multiply a u) (multiply a b)
    (along_left first t a u one) (along_right second u b a two)

-- ---- The path to the derived term ----

-- a product becomes its left part distributed over its right one
pub along_spread : (t u : Term) → ExpandsAlong (spread u) (multiply t u) (distributed t u)
along_spread t variable = refl
along_spread t (multiply u v) = (
  multiply (multiply t u) (multiply t v),
  refl,
  along_both (spread u) (spread v) (multiply t u) (multiply t v) (distributed t u) (distributed t v)
      (along_spread t u) (along_spread t v),
)

-- a term becomes its derived term
pub along_path : (t : Term) → ExpandsAlong (path t) t (derived t)
along_path variable = refl
along_path (multiply t u) =
    along_append (below 48 (path t)) (below 49 (path u) ++ spread (derived u)) (multiply t u)
    (multiply (derived t) u) (derived (multiply t u))
    (along_left (path t) t (derived t) u (along_path t))
    (along_append (below 49 (path u)) (spread (derived u)) (multiply (derived t) u)
    (multiply (derived t) (derived u)) (derived (multiply t u))
    (along_right (path u) u (derived u) (derived t) (along_path u)) (along_spread (derived t) (derived u)))

-- ---- Equivalence ----

-- each expansion is one by the left-distributive law
pub along_equivalent
    : (addresses : List (List ℕ)) (t u : Term)
    → ExpandsAlong addresses t u
    → IsEquivalent t u
along_equivalent [] t u same = subst (IsEquivalent t) same (stay t)
along_equivalent (address ∷ addresses) t u (v, is, more) =
    forward (expansion_at-Expands address t v is) (along_equivalent addresses v u more)
