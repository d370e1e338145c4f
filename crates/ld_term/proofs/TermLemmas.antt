-- Laws of terms: equivalence is a congruence, and the distributed and the derived term are equivalent to the
-- product and to the term.
use Rattle.ld_term.specs.Terms.{Term, variable, multiply, here, on_left, on_right, IsEquivalent, stay, forward, backward, distributed, derived}

-- equivalence is transitive
pub IsEquivalent-trans : {t u v : Term} → IsEquivalent t u → IsEquivalent u v → IsEquivalent t v
IsEquivalent-trans (stay t) second = second
IsEquivalent-trans (forward step chain) second = forward step (IsEquivalent-trans chain second)
IsEquivalent-trans (backward step chain) second = backward step (IsEquivalent-trans chain second)

-- equivalence holds both ways
pub IsEquivalent-sym : {t u : Term} → IsEquivalent t u → IsEquivalent u t
IsEquivalent-sym (stay t) = stay t
IsEquivalent-sym (forward step chain) = IsEquivalent-trans (IsEquivalent-sym chain) (backward step (stay _))
IsEquivalent-sym (backward step chain) = IsEquivalent-trans (IsEquivalent-sym chain) (forward step (stay _))

-- an equivalence of the left part
pub IsEquivalent-left
    : {t u : Term} (v : Term)
    → IsEquivalent t u
    → IsEquivalent (multiply t v) (multiply u v)
IsEquivalent-left v (stay t) = stay (multiply t v)
IsEquivalent-left v (forward step chain) = forward (on_left v step) (IsEquivalent-left v chain)
IsEquivalent-left v (backward step chain) = backward (on_left v step) (IsEquivalent-left v chain)

-- an equivalence of the right part
pub IsEquivalent-right
    : {t u : Term} (v : Term)
    → IsEquivalent t u
    → IsEquivalent (multiply v t) (multiply v u)
IsEquivalent-right v (stay t) = stay (multiply v t)
IsEquivalent-right v (forward step chain) = forward (on_right v step) (IsEquivalent-right v chain)
IsEquivalent-right v (backward step chain) = backward (on_right v step) (IsEquivalent-right v chain)

-- products of equivalent terms are equivalent
pub IsEquivalent-multiply
    : {t u a b : Term}
    → IsEquivalent t u
    → IsEquivalent a b
    → IsEquivalent (multiply t a) (multiply u b)
IsEquivalent-multiply {u = u} {a = a} one two =
    IsEquivalent-trans (IsEquivalent-left a one) (IsEquivalent-right u two)

-- a product is equivalent to the left part distributed over the right part
pub IsEquivalent-distributed : (t u : Term) → IsEquivalent (multiply t u) (distributed t u)
IsEquivalent-distributed t variable = stay (multiply t variable)
IsEquivalent-distributed t (multiply u v) =
    forward (here t u v) (IsEquivalent-multiply (IsEquivalent-distributed t u) (IsEquivalent-distributed t v))

-- a term is equivalent to its derived term
pub IsEquivalent-derived : (t : Term) → IsEquivalent t (derived t)
IsEquivalent-derived variable = stay variable
IsEquivalent-derived (multiply t u) =
    IsEquivalent-trans (IsEquivalent-multiply (IsEquivalent-derived t) (IsEquivalent-derived u))
    (IsEquivalent-distributed (derived t) (derived u))
