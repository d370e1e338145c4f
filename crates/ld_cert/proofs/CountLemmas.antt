-- How the leaves of a derived term are counted.
--
-- The leaves of a distribution are a product (`leaf_count-distributed`), also as 64 bits hold them
-- (`derived_leaves-product`). The counts of a graph begin with none (`AreCounted-none`), and one more may be
-- written (`AreCounted-set`).
use Rattle.std.proofs.Common.{◌≡◌, ℕ, ◌+◌, ◌-◌, ◌*◌, ◌^◌, ◌<◌, ◌≤◌, ◌⊎◌, min, inl, inr, List, length, replicate, slice_set, slice_index_or, sym, ap, ap₂, ◌∙◌, subst, arith}
use Rattle.std.proofs.Math.Nat.{add-mul, mul-le-mul, one-mul}
use Rattle.std.proofs.lemmas.Bool.{cases_eq, cases_lt}
use Rattle.std.proofs.lemmas.Grind.{get_or-set_at}
use Rattle.std.proofs.lemmas.List.{get_or-replicate, get_or-set_other, length-replicate, length-set}
use Rattle.ld_term.specs.Terms.{Term, variable, multiply, leaf_count, distributed, derived}
use Rattle.term_graph.specs.TermLists.{term_at, capped}
use Rattle.ld_cert.specs.Derivations.{derived_leaves, AreCounted}
use Rattle.ld_cert.proofs.GrowthLemmas.{leaf_pos}

-- ---- Products that are cut ----

-- two numbers that are cut
min-above : (most x y : ℕ) → most ≤ x → most ≤ y → min x most ≡ min y most
min-above most x y one two = omega arith

-- a product is no less than its factors
factor-left : (most x y : ℕ) → most ≤ x → 1 ≤ y → most ≤ x * y
factor-left most x y one two = omega (arith, mul-le-mul {n₁ = most} {m₁ = 1} {n₂ = x} {m₂ = y} one two)

factor-right : (most x y : ℕ) → 1 ≤ x → most ≤ y → most ≤ x * y
factor-right most x y one two = omega (arith, mul-le-mul {n₁ = 1} {m₁ = most} {n₂ = x} {m₂ = y} one two)

-- a product may be cut where its factors were
min-product
    : (most a b : ℕ)
    → 1 ≤ most
    → 1 ≤ b
    → min (min b most * min (min a most + 1) most) most ≡ min (b * (a + 1)) most
min-product most a b some one =
    elim (cases_lt most b) [
      | inl above ↦
          min-above most (min b most * min (min a most + 1) most) (b * (a + 1))
          (factor-left most (min b most) (min (min a most + 1) most) (omega arith) (omega arith))
          (factor-left most b (a + 1) (omega arith) (omega arith))
      | inr low ↦ elim (cases_lt most (a + 1)) [
        | inl above ↦
            min-above most (min b most * min (min a most + 1) most) (b * (a + 1))
            (factor-right most (min b most) (min (min a most + 1) most) (omega arith) (omega arith))
            (factor-right most b (a + 1) (omega arith) (omega arith))
        | inr small ↦
            let first : min b most ≡ b = omega arith in
            let second : min (min a most + 1) most ≡ a + 1 = omega arith in
            ap₂ (λ x y. min (x * y) most) first second
      ]
    ]

-- ---- Leaves ----

-- the first term stands before each leaf of the second
pub leaf_count-distributed
    : (t u : Term)
    → leaf_count (distributed t u) ≡ leaf_count u * (leaf_count t + 1)
leaf_count-distributed t variable = omega (arith, one-mul (leaf_count t + 1))
leaf_count-distributed t (multiply u v) =
    omega (
      arith,
      leaf_count-distributed t u,
      leaf_count-distributed t v,
      add-mul (leaf_count u) (leaf_count v) (leaf_count t + 1),
    )

-- so the derived term's are found by those of its parts
pub derived_leaves-product
    : (t u v : Term) (left right next all : ℕ)
    → v ≡ multiply t u
    → left ≡ derived_leaves t
    → right ≡ derived_leaves u
    → next ≡ min (left + 1) (2 ^ 64 - 1)
    → all ≡ min (right * next) (2 ^ 64 - 1)
    → all ≡ derived_leaves v
derived_leaves-product t u v left right next all is left_is right_is next_is all_is =
    all_is
    ∙ ap₂ (λ x y. min (x * y) (2 ^ 64 - 1)) right_is
    (next_is ∙ ap (λ x. min (x + 1) (2 ^ 64 - 1)) left_is)
    ∙ min-product (2 ^ 64 - 1) (leaf_count (derived t)) (leaf_count (derived u)) (omega arith)
    (leaf_pos (derived u))
    ∙ ap capped (sym (leaf_count-distributed (derived t) (derived u)))
    ∙ ap derived_leaves (sym is)

-- ---- Counts ----

-- nothing is counted
pub AreCounted-none
    : (made : List Term) (counts : List ℕ) (n : ℕ)
    → counts ≡ replicate n 0
    → n ≡ length made
    → AreCounted made counts
AreCounted-none made counts n are size = record {
  room = ap length are ∙ length-replicate n 0 ∙ size;
  each = λ k within.
      inl (ap (λ z. slice_index_or z k 0) are ∙ get_or-replicate n k 0 0 (omega (arith, within, size)));
}

-- what is counted
pub AreCounted-found
    : (made : List Term) (counts : List ℕ) (n at count : ℕ)
    → AreCounted made counts
    → n < length made
    → at ≡ n
    → count ≡ slice_index_or counts at 0
    → 0 < count
    → count ≡ derived_leaves (term_at made n)
AreCounted-found made counts n at count counted within here is above =
    let place : count ≡ slice_index_or counts n 0 = is ∙ ap (λ z. slice_index_or counts z 0) here in
    elim (counted.each n within) [
      | inl none ↦ absurd (omega (arith, none, place, above))
      | inr known ↦ place ∙ known
    ]

-- one more is counted
pub AreCounted-set
    : (made : List Term) (counts : List ℕ) (n at count : ℕ)
    → AreCounted made counts
    → n < length made
    → at ≡ n
    → count ≡ derived_leaves (term_at made n)
    → AreCounted made (slice_set counts at count)
AreCounted-set made counts n at count counted within here is = record {
  room = length-set counts at count ∙ counted.room;
  each = λ k low. elim (cases_eq k at) [
    | inl same ↦
        inr (get_or-set_at counts at k count 0 same (omega (arith, within, here, counted.room)) ∙ is
        ∙ ap (λ z. derived_leaves (term_at made z)) (sym (same ∙ here)))
    | inr other ↦
        subst (λ z. (z ≡ 0) ⊎ (z ≡ derived_leaves (term_at made k)))
        (sym (get_or-set_other counts at k count 0 other)) (counted.each k low)
  ];
}
