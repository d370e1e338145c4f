-- Worked thresholds of Laver tables, from size 4 to size 8: that of row 1 is 2, that of row 4 is 0.
use Rattle.std.proofs.Common.{◌≡◌, ℕ, zero, suc, ◌+◌, ◌<◌, ◌≤◌, List, [], ◌∷◌, map, refl, arith}
use Rattle.laver_table.specs.Table.{entry}
use Rattle.laver_table.specs.Form.{period_of, LiftsRow}

-- The tables of sizes 4 and 8.
abbrev of_size_4 : List (List ℕ)
of_size_4 =
    (2 ∷ 4 ∷ 2 ∷ 4 ∷ []) ∷ ((3 ∷ 4 ∷ 3 ∷ 4 ∷ []) ∷ ((4 ∷ 4 ∷ 4 ∷ 4 ∷ []) ∷ ((1 ∷ 2 ∷ 3 ∷ 4 ∷ []) ∷ [])))

abbrev of_size_8 : List (List ℕ)
of_size_8 =
    (2 ∷ 4 ∷ 6 ∷ 8 ∷ 2 ∷ 4 ∷ 6 ∷ 8 ∷ [])
    ∷ ((3 ∷ 4 ∷ 7 ∷ 8 ∷ 3 ∷ 4 ∷ 7 ∷ 8 ∷ [])
    ∷ ((4 ∷ 8 ∷ 4 ∷ 8 ∷ 4 ∷ 8 ∷ 4 ∷ 8 ∷ [])
    ∷ ((5 ∷ 6 ∷ 7 ∷ 8 ∷ 5 ∷ 6 ∷ 7 ∷ 8 ∷ [])
    ∷ ((6 ∷ 8 ∷ 6 ∷ 8 ∷ 6 ∷ 8 ∷ 6 ∷ 8 ∷ [])
    ∷ ((7 ∷ 8 ∷ 7 ∷ 8 ∷ 7 ∷ 8 ∷ 7 ∷ 8 ∷ [])
    ∷ ((8 ∷ 8 ∷ 8 ∷ 8 ∷ 8 ∷ 8 ∷ 8 ∷ 8 ∷ [])
    ∷ ((1 ∷ 2 ∷ 3 ∷ 4 ∷ 5 ∷ 6 ∷ 7 ∷ 8 ∷ []) ∷ [])))))))

-- the product of 1 and 2 in size 8
entry_row : entry of_size_8 1 2 ≡ 4
entry_row = refl

-- the last row gives each number back, so its column 1 has 1
entry_last : entry of_size_8 8 1 ∷ entry of_size_8 8 8 ∷ [] ≡ 1 ∷ 8 ∷ []
entry_last = refl

-- the periods of size 4 and of rows 1 to 4 of size 8: those of rows 1 to 3 double
period_rows
    : map (period_of of_size_4) (1 ∷ 2 ∷ 3 ∷ 4 ∷ []) ≡ 2 ∷ 2 ∷ 1 ∷ 4 ∷ []
period_rows = refl

doubled_rows
    : map (period_of of_size_8) (1 ∷ 2 ∷ 3 ∷ 4 ∷ []) ≡ 4 ∷ 4 ∷ 2 ∷ 4 ∷ []
doubled_rows = refl

-- those of rows 5 to 7 of size 8 are those of rows 1 to 3 of size 4, and that of row 8 is the size
later_rows : map (period_of of_size_8) (5 ∷ 6 ∷ 7 ∷ 8 ∷ []) ≡ 2 ∷ 2 ∷ 1 ∷ 8 ∷ []
later_rows = refl

-- ---- Row 1 has the threshold 2, its period, so its period doubles ----

low_of_row_1 : (q : ℕ) → 1 ≤ q → q ≤ 2 → entry of_size_8 1 q ≡ entry of_size_4 1 q
low_of_row_1 zero low high = absurd (omega arith)
low_of_row_1 (suc zero) low high = refl
low_of_row_1 (suc (suc zero)) low high = refl
low_of_row_1 (suc (suc (suc q))) low high = absurd (omega arith)

second_of_row_1 : (q : ℕ) → 1 ≤ q → q ≤ 2 → entry of_size_8 1 (2 + q) ≡ entry of_size_4 1 q + 4
second_of_row_1 zero low high = absurd (omega arith)
second_of_row_1 (suc zero) low high = refl
second_of_row_1 (suc (suc zero)) low high = refl
second_of_row_1 (suc (suc (suc q))) low high = absurd (omega arith)

row_1_doubles : LiftsRow 4 of_size_4 of_size_8 1 2 2
row_1_doubles = record {
  within = omega arith;
  low = low_of_row_1;
  high = λ q above last. absurd (omega arith);
  kept = λ part. absurd (omega arith);
  twice = λ whole. refl;
  second = λ whole. second_of_row_1;
  zero = (λ none. absurd (omega arith), λ last. absurd (omega arith));
}

-- ---- Row 4 has the threshold 0, so 4 is added to all of its period ----

high_of_row_4 : (q : ℕ) → 0 < q → q ≤ 4 → entry of_size_8 4 q ≡ entry of_size_4 4 q + 4
high_of_row_4 zero low high = absurd (omega arith)
high_of_row_4 (suc zero) low high = refl
high_of_row_4 (suc (suc zero)) low high = refl
high_of_row_4 (suc (suc (suc zero))) low high = refl
high_of_row_4 (suc (suc (suc (suc zero)))) low high = refl
high_of_row_4 (suc (suc (suc (suc (suc q))))) low high = absurd (omega arith)

row_4_stays : LiftsRow 4 of_size_4 of_size_8 4 4 0
row_4_stays = record {
  within = omega arith;
  low = λ q first last. absurd (omega arith);
  high = high_of_row_4;
  kept = λ part. refl;
  twice = λ whole. absurd (omega arith);
  second = λ whole. absurd (omega arith);
  zero = (λ none. refl, λ last. refl);
}
