-- The table of size 2M is that of size M, with or without M added to each entry, where size M is full.
--
-- In a full size N column N has N in every row. For a full M: the rows of size M have the period M
-- (`product-period`); row p + M of size 2M is row p of size M with M added (`product-upper`); each entry of
-- row p of size 2M is that of size M, maybe with M added (`product-lower`). So 2M is full (`IsFull-double`).
use Rattle.std.proofs.Common.{◌≡◌, ℕ, zero, suc, ◌+◌, ◌-◌, ◌^◌, ◌<◌, ◌≤◌, ◌⊎◌, inl, inr, sym, ap, ◌∙◌, subst, arith, pow-suc}
use Rattle.std.proofs.lemmas.Bool.{cases_eq, cases_lt}
use Rattle.laver_table.specs.Product.{product}
use Rattle.laver_table.specs.Period.{IsFull}
use Rattle.laver_table.proofs.ProductLemmas.{product-between, product-suc, product-one, product-zero, product-top, product-of_zero, product-shift, product-climbs}

-- ---- A full size M ----

-- the rows below M repeat after M columns
pub product-period
    : (M p q : ℕ)
    → IsFull M
    → p < M
    → product M p (q + M) ≡ product M p q
product-period M p q full below =
    let turn : product M p M ≡ product M p 0 = full.full p (omega arith) ∙ sym (product-zero M p below) in
    let first : q + M ≡ M + q = omega arith in
    let then : product M p (M + q) ≡ product M p (0 + q) = product-shift M p M 0 q below turn in
    ap (product M p) first ∙ then ∙ ap (product M p) (omega arith)

-- ---- Rows above M of size 2M ----

-- row p + M of size 2M, by the number of rows of size M after row p
upper_by
    : (M k p q : ℕ)
    → IsFull M
    → M ≤ p + k
    → p < M
    → product (M + M) (p + M) q ≡ product M p q + M
upper_by M zero p q full enough below = absurd (omega arith)
upper_by M (suc k) p zero full enough below =
    product-zero (M + M) (p + M) (omega arith) ∙ ap (λ x. x + M) (sym (product-zero M p below))
upper_by M (suc k) p (suc q) full enough below =
    let x = product M p q in
    let between = product-between M p q below in
    let start : product (M + M) (p + M) (suc q) ≡ product (M + M) (x + M) (suc (p + M))
    = product-suc (M + M) (p + M) q (omega arith)
    ∙ ap (λ y. product (M + M) y (suc (p + M))) (upper_by M (suc k) p q full enough below) in
    let next : product M p (suc q) ≡ product M x (suc p) = product-suc M p q below in
    elim (cases_eq x M) [
      | inl e ↦
          let goes : product M p (suc q) ≡ suc p
          = next ∙ ap (λ y. product M y (suc p)) e ∙ product-top M (suc p) in
          let there : suc (p + M) ≡ product M p (suc q) + M = omega arith in
          start
          ∙ ap (λ y. product (M + M) (y + M) (suc (p + M))) e
          ∙ product-top (M + M) (suc (p + M))
          ∙ there
      | inr ne ↦
          let small : x < M = omega (arith, between.within) in
          let column : suc (p + M) ≡ suc p + M = omega arith in
          start
          ∙ upper_by M k x (suc (p + M)) full (omega (arith, between.above)) small
          ∙ ap (λ y. y + M) (ap (product M x) column ∙ product-period M x (suc p) full small ∙ sym next)
    ]

-- row p + M of size 2M is row p of size M with M added
pub product-upper
    : (M p q : ℕ)
    → IsFull M
    → p < M
    → product (M + M) (p + M) q ≡ product M p q + M
product-upper M p q full below = upper_by M M p q full (omega arith) below

-- row M of size 2M has M + q in column q
pub product-middle
    : (M q : ℕ)
    → IsFull M
    → 1 ≤ q
    → q ≤ M
    → product (M + M) M q ≡ q + M
product-middle M q full low high =
    let row : M ≡ 0 + M = omega arith in
    ap (λ p. product (M + M) p q) row
    ∙ product-upper M 0 q full full.positive
    ∙ ap (λ x. x + M) (product-of_zero M q low high)

-- ---- Rows below M of size 2M ----

-- b is a, or a with M added.
abbrev pub Lifts : ℕ → ℕ → ℕ → Type 0
Lifts M a b = (b ≡ a) ⊎ (b ≡ a + M)

-- row p of size 2M, by the number of rows of size M after it
lower_by
    : (M k p q : ℕ)
    → IsFull M
    → M ≤ p + k
    → p < M
    → Lifts M (product M p q) (product (M + M) p q)
lower_by M zero p q full enough below = absurd (omega arith)
lower_by M (suc k) p zero full enough below =
    inr (product-zero (M + M) p (omega arith) ∙ ap (λ x. x + M) (sym (product-zero M p below)))
lower_by M (suc k) p (suc q) full enough below =
    let x = product M p q in
    let between = product-between M p q below in
    let next : product M p (suc q) ≡ product M x (suc p) = product-suc M p q below in
    let start : product (M + M) p (suc q) ≡ product (M + M) (product (M + M) p q) (suc p)
    = product-suc (M + M) p q (omega arith) in
    elim (cases_eq x M) [
      | inl top ↦
          let goes : product M p (suc q) ≡ suc p
          = next ∙ ap (λ y. product M y (suc p)) top ∙ product-top M (suc p) in
          elim (lower_by M (suc k) p q full enough below) [
            | inl same ↦
                let row : product (M + M) p (suc q) ≡ suc p + M
                = start
                ∙ ap (λ y. product (M + M) y (suc p)) (same ∙ top)
                ∙ product-middle M (suc p) full (omega arith) (omega arith) in
                inr (row ∙ ap (λ y. y + M) (sym goes))
            | inr more ↦
                let row : product (M + M) p (suc q) ≡ suc p
                = start
                ∙ ap (λ y. product (M + M) y (suc p)) (more ∙ ap (λ y. y + M) top)
                ∙ product-top (M + M) (suc p) in
                inl (row ∙ sym goes)
          ]
      | inr ne ↦
          let small : x < M = omega (arith, between.within) in
          elim (lower_by M (suc k) p q full enough below) [
            | inl same ↦
                let row : product (M + M) p (suc q) ≡ product (M + M) x (suc p)
                = start ∙ ap (λ y. product (M + M) y (suc p)) same in
                elim (lower_by M k x (suc p) full (omega (arith, between.above)) small) [
                  | inl e ↦ inl (row ∙ e ∙ sym next)
                  | inr e ↦ inr (row ∙ e ∙ ap (λ y. y + M) (sym next))
                ]
            | inr more ↦
                let row : product (M + M) p (suc q) ≡ product (M + M) (x + M) (suc p)
                = start ∙ ap (λ y. product (M + M) y (suc p)) more in
                inr (row ∙ product-upper M x (suc p) full small ∙ ap (λ y. y + M) (sym next))
          ]
    ]

-- row p of size 2M is row p of size M, maybe with M added to an entry
pub product-lower
    : (M p q : ℕ)
    → IsFull M
    → p < M
    → Lifts M (product M p q) (product (M + M) p q)
product-lower M p q full below = lower_by M M p q full (omega arith) below

-- ---- Every power of two is full ----

-- a row of size 2M that has M in column M doesn't have it in column 2M
not_twice
    : (M p : ℕ)
    → IsFull M
    → p < M
    → product (M + M) p M ≡ M
    → product (M + M) p (M + M) ≡ M
    → ⊥
not_twice M p full below once twice =
    let positive = full.positive in
    let start = product-zero (M + M) p (omega arith) in
    elim (product-climbs (M + M) p M M (omega arith)) [
      | inl found ↦
          let (j, early, here) = found in
          let left = M - j in
          let turn : product (M + M) p (M + j) ≡ product (M + M) p 0 = here ∙ sym start in
          let to_end : M + j + left ≡ M + M = omega arith in
          let rest : product (M + M) p (M + M) ≡ product (M + M) p left
          = ap (product (M + M) p) (sym to_end)
          ∙ product-shift (M + M) p (M + j) 0 left (omega arith) turn
          ∙ ap (product (M + M) p) (omega arith) in
          let alike : product (M + M) p left ≡ product (M + M) p M = sym rest ∙ twice ∙ sym once in
          let whole : left + j ≡ M = omega arith in
          let end : product (M + M) p M ≡ product (M + M) p (M + j)
          = ap (product (M + M) p) (sym whole) ∙ product-shift (M + M) p left M j (omega arith) alike in
          absurd (omega arith)
      | inr climbed ↦ absurd (omega arith)
    ]

-- column 2M of size 2M has 2M in the rows below M
lower_full
    : (M p : ℕ)
    → IsFull M
    → p < M
    → product (M + M) p (M + M) ≡ M + M
lower_full M p full below =
    let half : product M p M ≡ M = full.full p (omega arith) in
    let whole : product M p (M + M) ≡ M = product-period M p M full below ∙ half in
    elim (product-lower M p (M + M) full below) [
      | inr e ↦ e ∙ ap (λ x. x + M) whole
      | inl e ↦ elim (product-lower M p M full below) [
        | inl f ↦ absurd (not_twice M p full below (f ∙ half) (e ∙ whole))
        | inr f ↦
            let turn : product (M + M) p M ≡ product (M + M) p 0
            = f ∙ ap (λ x. x + M) half ∙ sym (product-zero (M + M) p (omega arith)) in
            product-shift (M + M) p M 0 M (omega arith) turn
            ∙ ap (product (M + M) p) (omega arith)
            ∙ f
            ∙ ap (λ x. x + M) half
      ]
    ]

-- the double of a full size is full
pub IsFull-double : (M : ℕ) → IsFull M → IsFull (M + M)
IsFull-double M full = record {
  positive = omega (arith, full.positive);
  full = λ p within. elim (cases_lt p M) [
    | inl below ↦ lower_full M p full below
    | inr above ↦ elim (cases_eq p (M + M)) [
      | inl top ↦ rw top (product-top (M + M) (M + M))
      | inr ne ↦
          let row : p ≡ p - M + M = omega arith in
          ap (λ r. product (M + M) r (M + M)) row
          ∙ product-upper M (p - M) (M + M) full (omega arith)
          ∙ ap (λ x. x + M) (product-period M (p - M) M full (omega arith) ∙ full.full (p - M) (omega arith))
    ]
  ];
}

-- size 1 is full
pub IsFull-one : IsFull 1
IsFull-one = record {
  positive = omega arith;
  full = λ p within. elim (cases_eq p 1) [
    | inl e ↦ rw e (product-top 1 1)
    | inr ne ↦
        let none : p ≡ 0 = omega arith in
        rw none (product-one 1 0 (omega arith))
  ];
}

-- the next power of two is the double
pub pow_double : (n : ℕ) → 2 ^ suc n ≡ 2 ^ n + 2 ^ n
pow_double n = omega (arith, pow-suc 2 n)

-- every power of two is full
pub IsFull-pow : (n : ℕ) → IsFull (2 ^ n)
IsFull-pow zero = IsFull-one
IsFull-pow (suc n) = subst IsFull (sym (pow_double n)) (IsFull-double (2 ^ n) (IsFull-pow n))
