-- The operation of a full size is left-distributive.
--
-- The induction is on p downwards, in it on q downwards, and in it on r upwards. It begins at column 0, where
-- both sides are N, so that r may be any number.
use Rattle.std.proofs.Common.{◌≡◌, ℕ, zero, suc, ◌+◌, ◌<◌, ◌≤◌, inl, inr, sym, ap, ◌∙◌, subst, arith}
use Rattle.std.proofs.lemmas.Bool.{cases_eq}
use mathlib.Core.Path.{◌≡⟨◌⟩◌, ◌∎}
use Rattle.laver_table.specs.Product.{product}
use Rattle.laver_table.specs.Period.{IsFull}
use Rattle.laver_table.proofs.ProductLemmas.{product-between, product-suc, product-zero, product-top}

-- p, q and r distribute: p * (q * r) = (p * q) * (p * r).
abbrev pub Distributes : ℕ → ℕ → ℕ → ℕ → Type 0
Distributes N p q r = product N p (product N q r) ≡ product N (product N p q) (product N p r)

-- where p is the last row, both sides are q * r
distributes-top : (N q r : ℕ) → Distributes N N q r
distributes-top N q r =
    product-top N (product N q r)
    ∙ ap (λ x. product N x r) (sym (product-top N q))
    ∙ ap (product N (product N N q)) (sym (product-top N r))

-- where q is the last row of a full size, both sides are p * r
distributes-last : (N p r : ℕ) → IsFull N → p ≤ N → Distributes N p N r
distributes-last N p r full within =
    ap (product N p) (product-top N r)
    ∙ sym (product-top N (product N p r))
    ∙ ap (λ x. product N x (product N p r)) (sym (full.full p within))

-- in column 0 both sides are N
distributes-zero : (N p q : ℕ) → IsFull N → p < N → q < N → Distributes N p q 0
distributes-zero N p q full below small =
    let between = product-between N p q below in
    ap (product N p) (product-zero N q small)
    ∙ full.full p (omega arith)
    ∙ sym (full.full (product N p q) between.within)
    ∙ ap (product N (product N p q)) (sym (product-zero N p below))

-- one column more: from the column before, from the row after q and from the row after p
distributes-suc
    : (N p q r : ℕ)
    → p < N
    → q < N
    → Distributes N p (product N q r) (suc q)
    → Distributes N p q r
    → Distributes N (product N p q) (product N p r) (suc p)
    → Distributes N p q (suc r)
distributes-suc N p q r below small behind before after =
    product N p (product N q (suc r))
    ≡⟨ ap (product N p) (product-suc N q r small) ⟩
    product N p (product N (product N q r) (suc q))
    ≡⟨ behind ⟩
    product N (product N p (product N q r)) (product N p (suc q))
    ≡⟨ ap (λ x. product N x (product N p (suc q))) before ⟩
    product N (product N (product N p q) (product N p r)) (product N p (suc q))
    ≡⟨ ap (product N (product N (product N p q) (product N p r))) (product-suc N p q below) ⟩
    product N (product N (product N p q) (product N p r)) (product N (product N p q) (suc p))
    ≡⟨ sym after ⟩
    product N (product N p q) (product N (product N p r) (suc p))
    ≡⟨ ap (product N (product N p q)) (sym (product-suc N p r below)) ⟩
    product N (product N p q) (product N p (suc r))
    ∎

-- the law, by the numbers of rows after p and after q, and by the column
distributes_by
    : (N k m r p q : ℕ)
    → IsFull N
    → N ≤ p + k
    → N ≤ q + m
    → p ≤ N
    → q ≤ N
    → Distributes N p q r
distributes_by N zero m r p q full enough_p enough_q within_p within_q =
    let top : p ≡ N = omega arith in
    subst (λ row. Distributes N row q r) (sym top) (distributes-top N q r)
distributes_by N (suc k) zero r p q full enough_p enough_q within_p within_q =
    let top : q ≡ N = omega arith in
    subst (λ row. Distributes N p row r) (sym top) (distributes-last N p r full within_p)
distributes_by N (suc k) (suc m) zero p q full enough_p enough_q within_p within_q = elim (cases_eq p N) [
  | inl top ↦ subst (λ row. Distributes N row q 0) (sym top) (distributes-top N q 0)
  | inr below ↦ elim (cases_eq q N) [
    | inl top ↦ subst (λ row. Distributes N p row 0) (sym top) (distributes-last N p 0 full within_p)
    | inr small ↦ distributes-zero N p q full (omega arith) (omega arith)
  ]
]
distributes_by N (suc k) (suc m) (suc r) p q full enough_p enough_q within_p within_q = elim (cases_eq p N) [
  | inl top ↦ subst (λ row. Distributes N row q (suc r)) (sym top) (distributes-top N q (suc r))
  | inr below ↦ elim (cases_eq q N) [
    | inl top ↦
        subst (λ row. Distributes N p row (suc r)) (sym top) (distributes-last N p (suc r) full within_p)
    | inr small ↦
        let row = product-between N p q (omega arith) in
        let entry = product-between N p r (omega arith) in
        let behind = product-between N q r (omega arith) in
        distributes-suc N p q r (omega arith) (omega arith)
        (distributes_by N (suc k) m (suc q) p (product N q r) full enough_p (omega (arith, behind.above))
        within_p behind.within)
        (distributes_by N (suc k) (suc m) r p q full enough_p enough_q within_p within_q)
        (distributes_by N k N (suc p) (product N p q) (product N p r) full (omega (arith, row.above))
        (omega arith) row.within entry.within)
  ]
]

-- the operation of a full size is left-distributive
pub product-distributes
    : (N p q r : ℕ)
    → IsFull N
    → p ≤ N
    → q ≤ N
    → Distributes N p q r
product-distributes N p q r full within_p within_q =
    distributes_by N N N r p q full (omega arith) (omega arith) within_p within_q
