-- Laws of the values of terms in a Laver table.
--
-- The value of a term is one of the numbers of the table (`value_of-up_to`). An expansion keeps it, since the
-- table is left-distributive (`value_of-Expands`), and so equivalent terms have one value
-- (`value_of-IsEquivalent`).
use Rattle.std.proofs.Common.{◌≡◌, ℕ, ◌^◌, List, length, refl, sym, ap, ◌∙◌, subst, arith}
use Rattle.std.proofs.lemmas.Nat.{pow_pos}
use Rattle.ld_term.specs.Terms.{Term, variable, multiply, Expands, here, on_left, on_right, IsEquivalent, stay, forward, backward}
use Rattle.laver_table.specs.Table.{entry, IsUpTo, IsLaver}
use Rattle.laver_table.proofs.LaverLemmas.{length-laver, IsUpTo-entry}
use Rattle.term_eval.specs.Values.{value_of}

-- a value is one of the numbers of the table
pub value_of-up_to : (n : ℕ) (rows : List (List ℕ)) (t : Term) → IsLaver n rows
    → IsUpTo (length rows) (value_of rows t)
value_of-up_to n rows variable laver = (omega arith, omega (arith, length-laver n rows laver, pow_pos n))
value_of-up_to n rows (multiply t u) laver =
    IsUpTo-entry n rows (value_of rows t) (value_of rows u) laver (value_of-up_to n rows t laver)
    (value_of-up_to n rows u laver)

-- what has a term's value is one of them
pub up_to-is
    : (n : ℕ) (rows : List (List ℕ)) (t : Term) (v : ℕ)
    → IsLaver n rows
    → v ≡ value_of rows t
    → IsUpTo (length rows) v
up_to-is n rows t v laver is = subst (IsUpTo (length rows)) (sym is) (value_of-up_to n rows t laver)

-- the entry for the values of the parts is the value of the product
pub value_of-product
    : (rows : List (List ℕ)) (t a b : Term) (p q v : ℕ)
    → t ≡ multiply a b
    → p ≡ value_of rows a
    → q ≡ value_of rows b
    → v ≡ entry rows p q
    → v ≡ value_of rows t
value_of-product rows t a b p q v is left right found = rw (is, sym left, sym right) found

-- a value by the size of the table
up_to_size : (n : ℕ) (rows : List (List ℕ)) (t : Term) → IsLaver n rows → IsUpTo (2 ^ n) (value_of rows t)
up_to_size n rows t laver = subst (λ N. IsUpTo N (value_of rows t)) (length-laver n rows laver)
    (value_of-up_to n rows t laver)

-- an expansion keeps the value
pub value_of-Expands
    : (n : ℕ) (rows : List (List ℕ)) (t u : Term)
    → IsLaver n rows
    → Expands t u
    → value_of rows t ≡ value_of rows u
value_of-Expands n rows _ _ laver (here t u v) =
    laver.distributive (value_of rows t) (value_of rows u) (value_of rows v)
    (up_to_size n rows t laver) (up_to_size n rows u laver) (up_to_size n rows v laver)
value_of-Expands n rows _ _ laver (on_left v step) =
    ap (λ x. entry rows x (value_of rows v)) (value_of-Expands n rows _ _ laver step)
value_of-Expands n rows _ _ laver (on_right v step) =
    ap (entry rows (value_of rows v)) (value_of-Expands n rows _ _ laver step)

-- equivalent terms have one value
pub value_of-IsEquivalent
    : (n : ℕ) (rows : List (List ℕ)) (t u : Term)
    → IsLaver n rows
    → IsEquivalent t u
    → value_of rows t ≡ value_of rows u
value_of-IsEquivalent n rows _ _ laver (stay t) = refl
value_of-IsEquivalent n rows _ _ laver (forward step chain) =
    value_of-Expands n rows _ _ laver step ∙ value_of-IsEquivalent n rows _ _ laver chain
value_of-IsEquivalent n rows _ _ laver (backward step chain) =
    sym (value_of-Expands n rows _ _ laver step) ∙ value_of-IsEquivalent n rows _ _ laver chain
