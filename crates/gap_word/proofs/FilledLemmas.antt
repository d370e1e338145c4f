-- Which places are full after a write or a move, and how the row is then cut.
use Rattle.std.proofs.Common.{◌≡◌, ℕ, ◌+◌, ◌-◌, ◌<◌, ◌≤◌, min, max, Bool, false, List, length, Option, IsNone, subst, ◌∙◌, inl, inr, arith, ⊎_elim}
use Rattle.core.specs.Mem.Slots.Ownership.{Filled, SameOutside}
use Rattle.core.proofs.str.Laws.{order}
use Rattle.std.specs.Global.{Global}
use Rattle.gap_word.specs.Parts.{IsLaid, IsBuffer, HeldBy, items_of, filled_of}
use Rattle.gap_word.specs.declared.block.Block.{Block}
use Rattle.gap_word.specs.declared.held.Places.{Places}

-- places that are full stay so below a move
kept-below
    : (fs gs : List Bool) (low high i j : ℕ)
    → Filled fs low high → SameOutside false fs gs i j → high ≤ i → Filled gs low high
kept-below fs gs low high i j full same a k p q = same k (inl (omega arith)) ∙ full k p q

-- and above it
kept-above
    : (fs gs : List Bool) (low high i j : ℕ)
    → Filled fs low high → SameOutside false fs gs i j → j ≤ low → Filled gs low high
kept-above fs gs low high i j full same a k p q = same k (inr (omega arith)) ∙ full k p q

-- full places beside full places
joined : (fs : List Bool) (low mid high : ℕ) → Filled fs low mid → Filled fs mid high → Filled fs low high
joined fs low mid high below above k p q = ⊎_elim (λ u. below k p u) (λ u. above k u q) (order k mid)

module _ {X : Type 0} {xs : List X} {fs : List Bool} {low high end start n : ℕ}
    (laid : IsLaid xs fs low high end start n) where
  -- the last of the high ones is no more of left
  pub laid-pops_high : high < end → IsLaid xs fs low high (end - 1) start n
  laid-pops_high some = record {
    low_high = laid.low_high;
    high_end = omega arith;
    end_start = omega arith;
    start_all = laid.start_all;
    places = laid.places;
    marks = laid.marks;
    low_full = laid.low_full;
    high_full = λ k p q. laid.high_full k p (omega arith);
    right_full = laid.right_full;
  }

  -- nor is the last of the low ones: the hole joins the room between
  pub laid-pops_low : 0 < low → IsLaid xs fs (low - 1) (low - 1) (low - 1) start n
  laid-pops_low some = record {
    low_high = omega arith;
    high_end = omega arith;
    end_start = omega arith;
    start_all = laid.start_all;
    places = laid.places;
    marks = laid.marks;
    low_full = λ k p q. laid.low_full k p (omega arith);
    high_full = λ k p q. absurd (omega arith);
    right_full = laid.right_full;
  }

  -- the first of right is no more of right
  pub laid-pops_right : start < n → IsLaid xs fs low high end (start + 1) n
  laid-pops_right some = record {
    low_high = laid.low_high;
    high_end = laid.high_end;
    end_start = omega arith;
    start_all = omega arith;
    places = laid.places;
    marks = laid.marks;
    low_full = laid.low_full;
    high_full = laid.high_full;
    right_full = λ k p q. laid.right_full k (omega arith) q;
  }

  module _ {ys : List X} {gs : List Bool}
      (long : length ys ≡ length xs) (marked : length gs ≡ length fs) where
    -- high ones that move down to the low ones close the hole
    pub laid-closes
        : Filled gs low (low + (end - high)) → SameOutside false fs gs (min high low)
        (max high low + (end - high))
        → IsLaid ys gs low low (low + (end - high)) start n
    laid-closes full same = record {
      low_high = omega arith;
      high_end = omega arith;
      end_start = omega arith;
      start_all = laid.start_all;
      places = long ∙ laid.places;
      marks = marked ∙ laid.marks;
      low_full = kept-below fs gs 0 low _ _ laid.low_full same (omega arith);
      high_full = full;
      right_full = kept-above fs gs start n _ _ laid.right_full same (omega arith);
    }

    -- the item above the hole is removed
    pub laid-removes_high
        : (k : ℕ) → low ≤ k → k < low + (end - high)
        → Filled gs low (low + (k - low)) → SameOutside false fs gs (min high low) (max high low + (k - low))
        → IsLaid ys gs k (high + (k - low + 1)) end start n
    laid-removes_high k more less full same =
        let sum : low + (k - low) ≡ k = omega arith in record {
          low_high = omega arith;
          high_end = omega arith;
          end_start = laid.end_start;
          start_all = laid.start_all;
          places = long ∙ laid.places;
          marks = marked ∙ laid.marks;
          low_full = joined gs 0 low k (kept-below fs gs 0 low _ _ laid.low_full same (omega arith))
              (subst (Filled gs low) sum full);
          high_full = kept-above fs gs _ end _ _ (λ j p q. laid.high_full j (omega arith) q) same
              (omega arith);
          right_full = kept-above fs gs start n _ _ laid.right_full same (omega arith);
        }

    -- the item below the hole is removed
    pub laid-removes_low
        : (k : ℕ) → k < low
        → Filled gs (high - (low - k - 1)) (high - (low - k - 1) + (low - k - 1))
        → SameOutside false fs gs (min (k + 1) (high - (low - k - 1)))
        (max (k + 1) (high - (low - k - 1)) + (low - k - 1))
        → IsLaid ys gs k (high - (low - k - 1)) end start n
    laid-removes_low k less full same =
        let sum : high - (low - k - 1) + (low - k - 1) ≡ high = omega arith in record {
          low_high = omega arith;
          high_end = omega arith;
          end_start = laid.end_start;
          start_all = laid.start_all;
          places = long ∙ laid.places;
          marks = marked ∙ laid.marks;
          low_full = kept-below fs gs 0 k _ _ (λ j p q. laid.low_full j p (omega arith)) same (omega arith);
          high_full = joined gs _ high end (subst (Filled gs _) sum full)
              (kept-above fs gs high end _ _ laid.high_full same (omega arith));
          right_full = kept-above fs gs start n _ _ laid.right_full same (omega arith);
        }

    -- the cursor moves on
    pub laid-up
        : (count : ℕ) → start + count ≤ n
        → Filled gs end (end + count) → SameOutside false fs gs (min start end) (max start end + count)
        → IsLaid ys gs low high (end + count) (start + count) n
    laid-up count fits full same = record {
      low_high = laid.low_high;
      high_end = omega arith;
      end_start = omega arith;
      start_all = fits;
      places = long ∙ laid.places;
      marks = marked ∙ laid.marks;
      low_full = kept-below fs gs 0 low _ _ laid.low_full same (omega arith);
      high_full = joined gs high end (end + count)
          (kept-below fs gs high end _ _ laid.high_full same (omega arith)) full;
      right_full = kept-above fs gs _ n _ _ (λ j p q. laid.right_full j (omega arith) q) same (omega arith);
    }

    -- the cursor moves back, over the high ones
    pub laid-down
        : (from count : ℕ) → high ≤ from → from + count ≡ end
        → Filled gs (start - count) (start - count + count)
        → SameOutside false fs gs (min from (start - count)) (max from (start - count) + count)
        → IsLaid ys gs low high from (start - count) n
    laid-down from count fits all full same =
        let sum : start - count + count ≡ start = omega arith in record {
          low_high = laid.low_high;
          high_end = fits;
          end_start = omega arith;
          start_all = omega arith;
          places = long ∙ laid.places;
          marks = marked ∙ laid.marks;
          low_full = kept-below fs gs 0 low _ _ laid.low_full same (omega arith);
          high_full = kept-below fs gs high _ _ _ (λ j p q. laid.high_full j p (omega arith)) same
              (omega arith);
          right_full = joined gs _ start n (subst (Filled gs _) sum full)
              (kept-above fs gs start n _ _ laid.right_full same (omega arith));
        }

  -- low ones alone may be counted as high ones, from any place on
  pub laid-cut : (k : ℕ) → k ≤ low → end ≤ high → IsLaid xs fs k k low start n
  laid-cut k less none = record {
    low_high = omega arith;
    high_end = less;
    end_start = omega arith;
    start_all = laid.start_all;
    places = laid.places;
    marks = laid.marks;
    low_full = λ j p q. laid.low_full j p (omega arith);
    high_full = λ j p q. laid.low_full j (omega arith) q;
    right_full = laid.right_full;
  }

  -- room that is opened is places that are all between
  pub laid-opens : {ys : List X} {gs : List Bool} (m : ℕ) → n ≤ 0 → length ys ≡ m → length gs ≡ m
      → IsLaid ys gs low high end m m
  laid-opens m none long marked = record {
    low_high = laid.low_high;
    high_end = laid.high_end;
    end_start = omega arith;
    start_all = omega arith;
    places = long;
    marks = marked;
    low_full = λ k p q. absurd (omega arith);
    high_full = λ k p q. absurd (omega arith);
    right_full = λ k p q. absurd (omega arith);
  }

module _ {X : Type 0} {alloc : Global} {room : Option (Block X Global)} {old new : Option (Places X)}
    {low high end start low' high' end' start' cells rest : ℕ} where
  -- a buffer whose items moved in its row is one where they are laid out again
  pub keeps-memory
      : IsBuffer alloc room old low high end start cells rest
      → ((a : Global) → HeldBy a old → HeldBy a new) → (IsNone old → IsNone new)
      → IsLaid (items_of new) (filled_of new) low' high' end' start' cells
      → IsBuffer alloc room new low' high' end' start' cells rest
  keeps-memory was held none laid = record {
    laid = laid;
    held = held alloc was.held;
    kept = was.kept;
    unopened = λ some. ((was.unopened some).0, none (was.unopened some).1);
    small = was.small;
  }
