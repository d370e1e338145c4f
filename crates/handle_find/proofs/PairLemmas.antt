-- The search of the pairs p < q < n, in the order of q and then of p.
--
-- The pair that `find` gives over `pairs_below n` passes, and none with a lesser second part does
-- (`find-pairs_below-Some`). Where it gives none, no pair passes (`find-pairs_below-None`).
use Rattle.std.proofs.Common.{◌≡◌, ℕ, zero, suc, ◌+◌, ◌<◌, ◌≤◌, Bool, true, false, List, map, find, flat_map, Option, Some, None, refl, sym, subst, ◌∙◌, inl, inr, arith}
use Rattle.std.specs.List.{range_with_len}
use Rattle.std.specs.Option.{option_or}
use Rattle.std.proofs.lemmas.Bool.{cases_Bool, cases_eq, cond-true, cond-false}
use Rattle.std.proofs.lemmas.Option.{none-some}
use Rattle.std.proofs.lemmas.List.Folds.{find-append}
use Rattle.handle_find.specs.Handles.{pairs_below}

-- ---- One second part ----

-- the pairs with second part q and first part from a on, m of them
abbrev pub row : ℕ → ℕ → ℕ → List (ℕ × ℕ)
row q a m = map (λ p. (p, q)) (range_with_len a m)

-- a pair of a row that passes
pub record InRow (test : ℕ × ℕ → Bool) (q a m : ℕ) (r : ℕ × ℕ) : Type 0 where
  pub above : a ≤ r.0
  pub below : r.0 < a + m
  pub second : r.1 ≡ q
  pub passes : test r ≡ true

-- the pair that is found in a row
find-row-Some
    : (test : ℕ × ℕ → Bool) (q a m : ℕ) (r : ℕ × ℕ)
    → find test (row q a m) ≡ Some r
    → InRow test q a m r
find-row-Some test q a zero r found = cc
find-row-Some test q a (suc m) r found = elim (cases_Bool (test (a, q))) [
  | inl pass ↦
      let is : Some (a, q) ≡ Some r = sym (cond-true _ _ _ pass) ∙ found in
      let same : (a, q) ≡ r = cc in
      subst (InRow test q a (suc m)) same
      (record { above = omega arith; below = omega arith; second = refl; passes = pass })
  | inr fail ↦
      let later : InRow test q (a + 1) m r
      = find-row-Some test q (a + 1) m r (sym (cond-false _ _ _ fail) ∙ found) in
      record {
        above = omega arith;
        below = omega arith;
        second = later.second;
        passes = later.passes;
      }
]

-- where none is found, no pair of the row passes
find-row-None
    : (test : ℕ × ℕ → Bool) (q a m : ℕ)
    → find test (row q a m) ≡ None
    → (p : ℕ)
    → a ≤ p
    → p < a + m
    → test (p, q) ≡ false
find-row-None test q a zero none p above below = absurd (omega arith)
find-row-None test q a (suc m) none p above below = elim (cases_Bool (test (a, q))) [
  | inl pass ↦ absurd (none-some (a, q) (sym none ∙ cond-true _ _ _ pass))
  | inr fail ↦ elim (cases_eq a p) [
    | inl same ↦ subst (λ z. test (z, q) ≡ false) same fail
    | inr other ↦
        let rest : find test (row q (a + 1) m) ≡ None = sym (cond-false _ _ _ fail) ∙ none in
        find-row-None test q (a + 1) m rest p (omega arith) (omega arith)
  ]
]

-- ---- Each second part in turn ----

-- the pairs p < q with q from a on, m values of it
abbrev pub rows : ℕ → ℕ → List (ℕ × ℕ)
rows a m = flat_map (λ q. row q 0 q) (range_with_len a m)

-- a pair of these rows that passes, where none with a lesser second part does
pub record FirstIn (test : ℕ × ℕ → Bool) (a m : ℕ) (r : ℕ × ℕ) : Type 0 where
  pub ordered : r.0 < r.1
  pub above : a ≤ r.1
  pub below : r.1 < a + m
  pub passes : test r ≡ true
  pub first : (p q : ℕ) → p < q → a ≤ q → q < r.1 → test (p, q) ≡ false

-- the pair that is found, by what is found in the first row
FirstIn-more
    : (test : ℕ × ℕ → Bool) (a m : ℕ) (r : ℕ × ℕ) (o : Option (ℕ × ℕ))
    → find test (row a 0 a) ≡ o
    → option_or o (find test (rows (a + 1) m)) ≡ Some r
    → (find test (rows (a + 1) m) ≡ Some r → FirstIn test (a + 1) m r)
    → FirstIn test a (suc m) r
FirstIn-more test a m r (Some s) here is later =
    let same : s ≡ r = cc in
    let in_row : InRow test a 0 a s = find-row-Some test a 0 a s here in
    let moved : InRow test a 0 a r = subst (InRow test a 0 a) same in_row in
    record {
      ordered = omega arith;
      above = omega arith;
      below = omega arith;
      passes = moved.passes;
      first = λ p q under from to. absurd (omega arith);
    }
FirstIn-more test a m r None here is later =
    let rest : FirstIn test (a + 1) m r = later is in
    record {
      ordered = rest.ordered;
      above = omega arith;
      below = omega arith;
      passes = rest.passes;
      first = λ p q under from to. elim (cases_eq a q) [
        | inl same ↦ subst (λ z. test (p, z) ≡ false) same
            (find-row-None test a 0 a here p (omega arith) (omega arith))
        | inr other ↦ rest.first p q under (omega arith) to
      ];
    }

-- the pair that is found in these rows
find-rows-Some
    : (test : ℕ × ℕ → Bool) (a m : ℕ) (r : ℕ × ℕ)
    → find test (rows a m) ≡ Some r
    → FirstIn test a m r
find-rows-Some test a zero r found = cc
find-rows-Some test a (suc m) r found =
    FirstIn-more test a m r _ refl
    (sym (find-append test (row a 0 a) (rows (a + 1) m)) ∙ found)
    (find-rows-Some test (a + 1) m r)

-- neither of two searches finds one
option_or-None
    : (o r : Option (ℕ × ℕ))
    → option_or o r ≡ None
    → (o ≡ None) × (r ≡ None)
option_or-None (Some s) r none = cc
option_or-None None r none = (refl, none)

-- where none is found, no pair of these rows passes
find-rows-None
    : (test : ℕ × ℕ → Bool) (a m : ℕ)
    → find test (rows a m) ≡ None
    → (p q : ℕ)
    → p < q
    → a ≤ q
    → q < a + m
    → test (p, q) ≡ false
find-rows-None test a zero none p q under from to = absurd (omega arith)
find-rows-None test a (suc m) none p q under from to =
    let both = option_or-None _ _ (sym (find-append test (row a 0 a) (rows (a + 1) m)) ∙ none) in
    elim (cases_eq a q) [
      | inl same ↦ subst (λ z. test (p, z) ≡ false) same
          (find-row-None test a 0 a both.0 p (omega arith) (omega arith))
      | inr other ↦ find-rows-None test (a + 1) m both.1 p q under (omega arith) (omega arith)
    ]

-- ---- All pairs below n ----

-- the pair that is found passes, and none with a lesser second part does
pub find-pairs_below-Some
    : (test : ℕ × ℕ → Bool) (n : ℕ) (r : ℕ × ℕ)
    → find test (pairs_below n) ≡ Some r
    → FirstIn test 0 n r
find-pairs_below-Some test n r found = find-rows-Some test 0 n r found

-- where none is found, no pair passes
pub find-pairs_below-None
    : (test : ℕ × ℕ → Bool) (n : ℕ)
    → find test (pairs_below n) ≡ None
    → (p q : ℕ)
    → p < q
    → q < n
    → test (p, q) ≡ false
find-pairs_below-None test n none p q under to =
    find-rows-None test 0 n none p q under (omega arith) (omega arith)
