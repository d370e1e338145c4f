-- Laws of the operation of Laver tables, for a table of any size.
--
-- That p * (q + 1) = (p * q) * (p + 1) needs p < p * q <= N, since p * q is computed from the rows after row
-- p alone. So the two are shown together: `product-between` and `product-suc`. In a row p below N the entries
-- rise up to N and begin again from there (`product-rises`, `product-shift`).
use Rattle.std.proofs.Common.{◌≡◌, ◌≢◌, ℕ, zero, suc, ◌+◌, ◌-◌, ◌<◌, ◌≤◌, ◌⊎◌, inl, inr, refl, sym, ap, ◌∙◌, eq-eqb, arith, add-zero, add-suc}
use Rattle.std.proofs.lemmas.Bool.{cases_eq, ne_eqb}
use Rattle.std.specs.Fn.{iterate}
use Rattle.laver_table.specs.Product.{product_within, product}

-- ---- Depth ----

-- one application more, from the outside
iterate-suc : {A : Type 0} (f : A → A) (n : ℕ) (x : A) → iterate f (suc n) x ≡ f (iterate f n x)
iterate-suc f zero x = refl
iterate-suc f (suc n) x = iterate-suc f n (f x)

-- row N - depth is computed from the rows after it
within-here
    : (N d p q : ℕ)
    → p + suc d ≡ N
    → product_within N (suc d) p q ≡ iterate (λ x. product_within N d x (suc p)) q N
unfolding product_within
within-here N d p q here = rw (eq-eqb (p + suc d) N here) refl

-- the other rows have their place further on
within-above
    : (N d p q : ℕ)
    → p + suc d ≢ N
    → product_within N (suc d) p q ≡ product_within N d p q
unfolding product_within
within-above N d p q other = rw (ne_eqb (p + suc d) N other) refl

-- a depth that reaches a row is enough for it
within-deeper
    : (N d k p q : ℕ)
    → d ≤ k
    → p + d ≡ N
    → product_within N k p q ≡ product_within N d p q
within-deeper N d zero p q deep there =
    let none : d ≡ zero = omega arith in
    rw none refl
within-deeper N d (suc k) p q deep there = elim (cases_eq d (suc k)) [
  | inl e ↦ rw e refl
  | inr ne ↦ within-above N k p q (λ e. absurd (omega arith)) ∙ within-deeper N d k p q (omega arith) there
]

-- any depth that reaches a row gives the product
within-product
    : (N d p q : ℕ)
    → p ≤ N
    → N ≤ p + d
    → product_within N d p q ≡ product N p q
unfolding product
within-product N d p q row deep =
    within-deeper N (N - p) d p q (omega arith) (omega arith)
    ∙ sym (within-deeper N (N - p) N p q (omega arith) (omega arith))

-- ---- The equations ----

-- row N gives each number back
pub product-top : (N q : ℕ) → product N N q ≡ q
unfolding product_within
product-top N q = sym (within-product N 0 N q (omega arith) (omega arith))

-- a row below N as an orbit
product-orbit
    : (N d p q : ℕ)
    → p + suc d ≡ N
    → product N p q ≡ iterate (λ x. product_within N d x (suc p)) q N
product-orbit N d p q here =
    sym (within-product N (suc d) p q (omega arith) (omega arith)) ∙ within-here N d p q here

-- column 0 has N in the rows below N
pub product-zero : (N p : ℕ) → p < N → product N p 0 ≡ N
product-zero N p below = product-orbit N (N - suc p) p 0 (omega arith)

-- the next entry, where this one is in a row after
product-suc_if
    : (N p q : ℕ)
    → p < N
    → p < product N p q
    → product N p q ≤ N
    → product N p (suc q) ≡ product N (product N p q) (suc p)
product-suc_if N p q below above within =
    let d = N - suc p in
    let here : p + suc d ≡ N = omega arith in
    let f = λ (x : ℕ). product_within N d x (suc p) in
    product-orbit N d p (suc q) here
    ∙ iterate-suc f q N
    ∙ ap f (sym (product-orbit N d p q here))
    ∙ within-product N d (product N p q) (suc p) within (omega arith)

-- x is above the one bound, and at most the other.
pub record Between (low high x : ℕ) : Type 0 where
  pub above : low < x
  pub within : x ≤ high

-- the entries of a row below N are after it, by the number of rows after
between_by : (N k p q : ℕ) → N ≤ p + k → p < N → Between p N (product N p q)
between_by N zero p q enough below = absurd (omega arith)
between_by N (suc k) p zero enough below =
    let start = product-zero N p below in
    record { above = omega arith; within = omega arith }
between_by N (suc k) p (suc q) enough below =
    let here = between_by N (suc k) p q enough below in
    let next = product-suc_if N p q below here.above here.within in
    elim (cases_eq (product N p q) N) [
      | inl e ↦
          let again : product N p (suc q) ≡ suc p
          = next ∙ ap (λ x. product N x (suc p)) e ∙ product-top N (suc p) in
          record { above = omega arith; within = omega arith }
      | inr ne ↦
          let there = between_by N k (product N p q) (suc p)
          (omega (arith, here.above)) (omega (arith, here.within)) in
          record { above = omega (arith, here.above, there.above); within = omega (arith, there.within) }
    ]

-- each entry of a row below N is above the row's number, and at most N
pub product-between : (N p q : ℕ) → p < N → Between p N (product N p q)
product-between N p q below = between_by N N p q (omega arith) below

-- p * (q + 1) = (p * q) * (p + 1)
pub product-suc : (N p q : ℕ) → p < N → product N p (suc q) ≡ product N (product N p q) (suc p)
product-suc N p q below =
    let here = product-between N p q below in
    product-suc_if N p q below here.above here.within

-- p * 1 = p + 1
pub product-one : (N p : ℕ) → p < N → product N p 1 ≡ suc p
product-one N p below =
    product-suc N p 0 below ∙ ap (λ x. product N x (suc p)) (product-zero N p below) ∙ product-top N (suc p)

-- row 0 gives back the numbers from 1 to N
pub product-of_zero : (N q : ℕ) → 1 ≤ q → q ≤ N → product N 0 q ≡ q
product-of_zero N zero low high = absurd (omega arith)
product-of_zero N (suc zero) low high = product-one N 0 (omega arith)
product-of_zero N (suc (suc q)) low high =
    product-suc N 0 (suc q) (omega arith)
    ∙ ap (λ x. product N x 1) (product-of_zero N (suc q) (omega arith) (omega arith))
    ∙ product-one N (suc q) (omega arith)

-- ---- Along a row ----

-- an entry below N is less than the next
pub product-rises
    : (N p q : ℕ)
    → p < N
    → product N p q < N
    → product N p q < product N p (suc q)
product-rises N p q below small =
    let there = product-between N (product N p q) (suc p) small in
    let next = product-suc N p q below in
    omega (arith, there.above)

-- two entries that are equal are followed by equal ones
pub product-shift
    : (N p a b k : ℕ)
    → p < N
    → product N p a ≡ product N p b
    → product N p (a + k) ≡ product N p (b + k)
product-shift N p a b zero below same = rw (add-zero a, add-zero b) same
product-shift N p a b (suc k) below same =
    let before = product-shift N p a b k below same in
    rw (add-suc a k, add-suc b k) (product-suc N p (a + k) below
    ∙ ap (λ x. product N x (suc p)) before
    ∙ sym (product-suc N p (b + k) below))

-- in k columns an entry grows by k, or N comes before
pub product-climbs
    : (N p a k : ℕ)
    → p < N
    → ((j : ℕ) × (j < k) × (product N p (a + j) ≡ N)) ⊎ (product N p a + k ≤ product N p (a + k))
product-climbs N p a zero below = inr (rw (add-zero a) (omega arith))
product-climbs N p a (suc k) below = elim (product-climbs N p a k below) [
  | inl found ↦ inl (found.0, omega (arith, found.1), found.2)
  | inr climbed ↦ elim (cases_eq (product N p (a + k)) N) [
    | inl e ↦ inl (k, omega arith, e)
    | inr ne ↦
        let here = product-between N p (a + k) below in
        let more = product-rises N p (a + k) below (omega (arith, here.within)) in
        inr (rw (add-suc a k) (omega arith))
  ]
]
