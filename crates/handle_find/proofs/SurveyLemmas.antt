-- A look through the letters inside a handle, from the last to the first.
--
-- A letter of the index that is counted is passed by one (`Surveyed-raised`), any other by a hop over its
-- run, which passes none of these (`Surveyed-skip`).
use Rattle.std.proofs.Common.{◌≡◌, ℕ, zero, suc, ◌+◌, ◌-◌, ◌<◌, ◌≤◌, ◌==◌, true, false, cond, List, length, get_or, drop, count_by, refl, sym, ◌∙◌, inl, inr, arith}
use Rattle.std.proofs.lemmas.Bool.{cases_lt, eq-eqb, ne_eqb}
use Rattle.std.proofs.lemmas.List.Sums.{sum_by-drop_more}
use Rattle.std.proofs.Math.Seq.{drop-length}
use Rattle.braid_word.specs.Words.{Letter, letter}
use Rattle.handle_find.specs.Handles.{at}
use Rattle.handle_find.specs.LetterRuns.{HasRuns, Surveyed}
use Rattle.handle_find.proofs.CursorLemmas.{hop-within, hop-above}

-- how many letters from a place on have this index
abbrev pub counted : List Letter → ℕ → ℕ → ℕ
counted w i k = count_by (λ (x : Letter). x.index == i) (drop k w)

-- whether a letter has it, as a number
abbrev once : ℕ → Letter → ℕ
once i x = cond (x.index == i) 1 0

-- the letter at a place is counted
counted-raised
    : (w : List Letter) (i k : ℕ)
    → k < length w
    → (at w k).index ≡ i
    → counted w i k ≡ 1 + counted w i (k + 1)
counted-raised w i k within own =
    let test : ((at w k).index == i) ≡ true = eq-eqb _ _ own in
    let step = sum_by-drop_more _ w k (letter 0 false) within in
    step ∙ rw test refl

-- or isn't
counted-other
    : (w : List Letter) (i k : ℕ)
    → k < length w
    → i < (at w k).index
    → counted w i k ≡ counted w i (k + 1)
counted-other w i k within above =
    let test : ((at w k).index == i) ≡ false = ne_eqb _ _ (λ e. absurd (omega arith)) in
    let none : once i (at w k) ≡ 0 = rw test refl in
    let step : counted w i k ≡ once i (at w k) + counted w i (k + 1)
    = sum_by-drop_more (once i) w k (letter 0 false) within in
    omega arith

-- higher letters aren't
pub counted-skip
    : (w : List Letter) (i k n : ℕ)
    → k + n ≤ length w
    → ((m : ℕ) → k ≤ m → m < k + n → i < (at w m).index)
    → counted w i k ≡ counted w i (k + n)
counted-skip w i k zero within higher =
    let same : k + 0 ≡ k = omega arith in
    rw same refl
counted-skip w i k (suc n) within higher =
    let place : k + 1 + n ≡ k + suc n = omega arith in
    let rest : counted w i (k + 1) ≡ counted w i (k + 1 + n)
    = counted-skip w i (k + 1) n (omega arith) (λ m from to. higher m (omega arith) (omega arith)) in
    counted-other w i k (omega arith) (higher k (omega arith) (omega arith)) ∙ rw (← place) rest

-- at the end nothing is counted
pub Surveyed-begin
    : (w : List Letter) (i k low : ℕ)
    → k ≡ length w
    → Surveyed w k i 0 k low
Surveyed-begin w i k low is =
    rw is (record {
      below = omega arith;
      within = omega arith;
      count = rw (drop-length w) refl;
      least = λ m from to. absurd (omega arith);
    })

-- a letter that is counted
pub Surveyed-raised
    : (w : List Letter) (i k raised from low any : ℕ)
    → Surveyed w k i raised from low
    → 0 < k
    → (at w (k - 1)).index ≡ i
    → Surveyed w (k - 1) i (raised + 1) (k - 1) any
Surveyed-raised w i k raised from low any h some own =
    let below = h.below in
    let within = h.within in
    let place : k - 1 + 1 ≡ k = omega arith in
    let step : counted w i (k - 1) ≡ 1 + counted w i k
    = rw place at (counted-raised w i (k - 1) (omega arith) own) in
    let count : raised ≡ counted w i k = h.count in
    record {
      below = omega arith;
      within = omega arith;
      count = omega arith;
      least = λ m from to. absurd (omega arith);
    }

-- one that isn't, and its run
pub Surveyed-skip
    : (w : List Letter) (ns : List ℕ) (i k n raised from low found least : ℕ)
    → HasRuns ns w
    → Surveyed w k i raised from low
    → 0 < k
    → n ≡ get_or ns (k - 1) 0
    → found ≡ (at w (k - 1)).index
    → i < found
    → least ≤ low
    → least ≤ found
    → Surveyed w (k - (1 + n)) i raised from least
Surveyed-skip w ns i k n raised from low found least runs h some read is above under_low under_found =
    let below = h.below in
    let within = h.within in
    let fits = hop-within w ns k n runs (omega arith) some read in
    let passed : (m : ℕ) → k - (1 + n) ≤ m → m < k → found ≤ (at w m).index
    = λ m from to.
    let p = hop-above w ns k n runs (omega arith) some read m from to in
    omega arith in
    let place : k - (1 + n) + (1 + n) ≡ k = omega arith in
    let skip : counted w i (k - (1 + n)) ≡ counted w i k
    = rw place at (counted-skip w i (k - (1 + n)) (1 + n) (omega arith)
    (λ m from to. let p = passed m from (omega arith) in omega arith)) in
    record {
      below = omega arith;
      within = within;
      count = h.count ∙ sym skip;
      least = λ m from to. elim (cases_lt m k) [
        | inl under ↦
            let p = passed m from under in
            (omega arith, omega arith)
        | inr after ↦
            let old = h.least m after to in
            (omega (arith, old.0), old.1)
      ];
    }

-- a hop over higher letters doesn't reach a lower one
pub hop-start
    : (w : List Letter) (ns : List ℕ) (start k n : ℕ)
    → HasRuns ns w
    → k ≤ length w
    → start + 1 < k
    → n ≡ get_or ns (k - 1) 0
    → (at w start).index < (at w (k - 1)).index
    → start + 1 ≤ k - (1 + n)
hop-start w ns start k n runs within after read lower =
    let fits = hop-within w ns k n runs within (omega arith) read in
    elim (cases_lt start (k - (1 + n))) [
      | inl before ↦ omega arith
      | inr reached ↦
          let passed = hop-above w ns k n runs within (omega arith) read start reached (omega arith) in
          absurd (omega arith)
    ]
