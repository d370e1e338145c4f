-- What each call makes of the two lists that a caller sees.
use Rattle.std.proofs.Common.{◌≡◌, ℕ, ◌+◌, ◌-◌, ◌<◌, ◌≤◌, Bool, List, [], ◌∷◌, ◌++◌, length, take, drop, Option, None, Some, IsNone, true≢false, slice_get, refl, sym, ap, subst, ◌∙◌, arith}
use lib.ListN.{get_or, set, take-append-drop}
use Rattle.std.proofs.lemmas.Option.{slice_get_read, slice_get_past}
use Rattle.core.specs.List.{remove}
use Rattle.std_alloc.proofs.vec.Slotted.{Moved}
use Rattle.gap_word.specs.Gap.{Gap, gap, room, PopsLeft, PopsRight, StepsLeft, StepsRight}
use Rattle.gap_word.specs.declared.held.Places.{Places}
use Rattle.gap_word.specs.Parts.{left_of, right_of, seen, IsLaid, items_of}
use Rattle.gap_word.specs.declared.TheConstants.{MAX_ROOM}
use Rattle.gap_word.proofs.LaidLemmas.{length-left, length-right, read-low, read-high, read-right, left-put, left-kept, right-put, right-kept, left-last_high, left-last_low, right-first, left-closed, right-moved, left-removed_low, left-removed_high, left-up, right-up, left-down, right-down, left-cut}
use Rattle.gap_word.proofs.FilledLemmas.{laid-cut}

module _ {X : Type 0} where
  -- buffers with the same lists and as much room are the same
  alike : {l l' r r' : List X} {s s' : ℕ} → l ≡ l' → r ≡ r' → s ≡ s' → gap l r s ≡ gap l' r' s'
  alike p q t = λ i. gap (p i) (q i) (t i)

  -- a list without a length is empty
  empty : (xs : List X) → length xs ≡ 0 → xs ≡ []
  empty [] e = refl
  empty (x ∷ xs) e = absurd (omega arith)

  -- without places there is no cell
  pub no_cells : (row : Option (Places X)) (n : ℕ) → IsNone row → length (items_of row) ≡ n → n ≤ 0
  no_cells None n none all = omega arith
  no_cells (Some row) n none all = absurd (true≢false none)

  -- a new buffer is empty
  pub fresh : (n : ℕ) → seen {X = X} [] 0 0 0 0 n ≡ gap [] [] n
  unfolding left_of right_of
  fresh n = alike refl refl (omega arith)

module _ {X : Type 0} {xs : List X} {fs : List Bool} {low high end start n : ℕ}
    (laid : IsLaid xs fs low high end start n) where
  -- left ends in the row
  within : end ≤ length xs
  within = omega arith

  -- how many items left has
  left_count : length (left_of xs low high end) ≡ low + (end - high)
  left_count = length-left xs low high end laid.low_high laid.high_end within

  -- and right
  right_count : length (right_of xs start) ≡ n - start
  right_count = length-right xs start ∙ ap (λ k. k - start) laid.places

  module _ (rest : ℕ) {v : Gap X} (is : seen xs low high end start rest ≡ v) where
    -- ---- Lengths and reads ----

    -- the length of left
    pub left_len : low + (end - high) ≡ length v.left
    left_len = subst (λ w. low + (end - high) ≡ length w.left) is (sym left_count)

    -- the length of right
    pub right_len : n - start ≡ length v.right
    right_len = subst (λ w. n - start ≡ length w.right) is (sym right_count)

    -- the spare room
    pub spare_room : high - low + (start - end) + rest ≡ v.spare
    spare_room = ap (λ w. w.spare) is

    -- all together is the row and what is still to come
    pub room_within : n + rest ≤ MAX_ROOM → room v ≤ MAX_ROOM
    room_within small =
        let l = left_len in let r = right_len in let s = spare_room in
        omega arith

    -- a low one, read where it is counted
    pub reads_low : (k : ℕ) (x : X) → k < low → x ≡ get_or xs k x → Some x ≡ slice_get v.left k
    reads_low k x less read =
        subst (λ w. Some x ≡ slice_get w.left k) is
        (sym (slice_get_read (left_of xs low high end) (low + (end - high)) k x (sym left_count) (omega arith)
        (read ∙ sym (read-low xs low high end k x (omega (arith, within)) less))))

    -- a high one, read behind the hole
    pub reads_high
        : (k : ℕ) (x : X) → low ≤ k → k - low < end - high → x ≡ get_or xs (high + (k - low)) x
        → Some x ≡ slice_get v.left k
    reads_high k x more less read =
        subst (λ w. Some x ≡ slice_get w.left k) is
        (sym (slice_get_read (left_of xs low high end) (low + (end - high)) k x (sym left_count) (omega arith)
        (read ∙ sym (read-high xs low high end k x laid.low_high laid.high_end within more (omega arith)))))

    -- past the end of left nothing is
    pub reads_past : (k : ℕ) → low ≤ k → end - high ≤ k - low → None ≡ slice_get v.left k
    reads_past k more past =
        let count = left_count in
        subst (λ w. None ≡ slice_get w.left k) is
        (sym (slice_get_past (left_of xs low high end) k (omega arith)))

    -- an item of right, read behind its start
    pub reads_right
        : (k : ℕ) (x : X) → k < n - start → x ≡ get_or xs (start + k) x
        → Some x ≡ slice_get v.right k
    reads_right k x less read =
        subst (λ w. Some x ≡ slice_get w.right k) is
        (sym (slice_get_read (right_of xs start) (n - start) k x (sym right_count) less
        (read ∙ sym (read-right xs start k x))))

    -- past the end of right nothing is
    pub reads_right_past : (k : ℕ) → n - start ≤ k → None ≡ slice_get v.right k
    reads_right_past k past =
        let count = right_count in
        subst (λ w. None ≡ slice_get w.right k) is (sym (slice_get_past (right_of xs start) k (omega arith)))

    -- ---- Items that are put in ----

    -- an item that is written behind left is its last one
    pub puts_left
        : {ys : List X} (x : X) → end < start → ys ≡ set xs end x
        → seen ys low high (end + 1) start rest ≡ gap (v.left ++ x ∷ []) v.right (v.spare - 1)
    puts_left {ys} x free e =
        let lt : end < length xs = omega arith in
        subst (λ w. seen ys low high (end + 1) start rest ≡ gap (w.left ++ x ∷ []) w.right (w.spare - 1)) is
        (ap (λ zs. seen zs low high (end + 1) start rest) e
        ∙ alike (left-put xs low high end x laid.low_high laid.high_end lt) (right-kept xs start end x free)
        (omega arith))

    -- an item that is written in front of right is its first one
    pub puts_right
        : {ys : List X} (x : X) → end < start → ys ≡ set xs (start - 1) x
        → seen ys low high end (start - 1) rest ≡ gap v.left (x ∷ v.right) (v.spare - 1)
    puts_right {ys} x free e =
        let on : start - 1 + 1 ≡ start = omega arith in
        let lt : start - 1 < length xs = omega arith in
        subst (λ w. seen ys low high end (start - 1) rest ≡ gap w.left (x ∷ w.right) (w.spare - 1)) is
        (ap (λ zs. seen zs low high end (start - 1) rest) e
        ∙ alike (left-kept xs low high end (start - 1) x laid.low_high laid.high_end (omega arith))
        (right-put xs (start - 1) x lt ∙ ap (λ k. x ∷ right_of xs k) on) (omega arith))

    -- room that is opened is spare as before
    pub opens
        : (ys : List X) → n ≤ 0 → length ys ≡ rest
        → seen ys low high end rest 0 ≡ v
    opens ys none long =
        let count = left_count in let count' = right_count in
        let left' = length-left ys low high end laid.low_high laid.high_end (omega arith) in
        let right' = length-right ys rest in
        alike (empty _ (left' ∙ omega arith) ∙ sym (empty _ (omega arith)))
        (empty _ (right' ∙ omega arith) ∙ sym (empty _ (omega arith))) (omega arith) ∙ is

    -- high ones that move down to the low ones close the hole, and nothing else changes
    pub closes
        : {ys : List X} → length ys ≡ length xs → Moved xs ys high low (end - high)
        → seen ys low low (low + (end - high)) start rest ≡ v
    closes {ys} long m =
        alike (left-closed xs ys low high end laid.low_high laid.high_end within long m)
        (right-moved xs ys start high low (end - high) long (omega arith) m) (omega arith) ∙ is

    -- and then there is room between
    pub closed_room : start ≤ end → rest ≤ 0 → 0 < v.spare → low + (end - high) < start
    closed_room full none free = let s = spare_room in omega arith

    -- ---- Items that are taken out ----

    -- the last of the high ones is the last of left
    pub pops_high
        : (x : X) → high < end → x ≡ get_or xs (end - 1) x
        → PopsLeft v x (seen xs low high (end - 1) start rest)
    pops_high x some read =
        let on : end - 1 + 1 ≡ end = omega arith in
        let last = left-last_high xs low high (end - 1) x laid.low_high (omega arith)
        (omega (arith, within)) in
        subst (λ w. PopsLeft w x (seen xs low high (end - 1) start rest)) is (record {
          left = ap (λ k. left_of xs low high k) (sym on) ∙ last
              ∙ ap (λ y. left_of xs low high (end - 1) ++ y ∷ []) (sym read);
          right = refl;
          spare = omega arith;
        })

    -- where there is none, the last of the low ones is
    pub pops_low
        : (x : X) → end ≤ high → 0 < low → x ≡ get_or xs (low - 1) x
        → PopsLeft v x (seen xs (low - 1) (low - 1) (low - 1) start rest)
    pops_low x none some read =
        let on : low - 1 + 1 ≡ low = omega arith in
        let same : high ≡ end = omega arith in
        let last = left-last_low xs (low - 1) high x (omega (arith, within)) in
        subst (λ w. PopsLeft w x (seen xs (low - 1) (low - 1) (low - 1) start rest)) is (record {
          left = (λ i. left_of xs (sym on i) high (sym same i)) ∙ last
              ∙ ap (λ y. left_of xs (low - 1) (low - 1) (low - 1) ++ y ∷ []) (sym read);
          right = refl;
          spare = omega arith;
        })

    -- the item at the start of right is its first one
    pub pops_right
        : (x : X) → start < n → x ≡ get_or xs start x
        → PopsRight v x (seen xs low high end (start + 1) rest)
    pops_right x some read =
        subst (λ w. PopsRight w x (seen xs low high end (start + 1) rest)) is (record {
          left = refl;
          right = right-first xs start x (omega arith) ∙ ap (λ y. y ∷ right_of xs (start + 1)) (sym read);
          spare = omega arith;
        })

    -- without high and low ones left is empty
    pub left_empty : end ≤ high → low ≤ 0 → v.left ≡ []
    left_empty none none' = let count = left_len in empty v.left (omega arith)

    -- where right starts at the end of the row it is empty
    pub right_empty : n ≤ start → v.right ≡ []
    right_empty none = let count = right_len in empty v.right (omega arith)

    -- ---- Removal ----

    -- the item is below the hole
    pub removes_low
        : {ys : List X} (k : ℕ) → k < low → length ys ≡ length xs
        → Moved xs ys (k + 1) (high - (low - k - 1)) (low - k - 1)
        → seen ys k (high - (low - k - 1)) end start rest ≡ gap (remove v.left k) v.right (v.spare + 1)
    removes_low {ys} k less long m =
        subst (λ w. seen ys k (high - (low - k - 1)) end start rest ≡ gap (remove w.left k) w.right
        (w.spare + 1)) is
        (alike (left-removed_low xs ys low high end k laid.low_high laid.high_end within long less m)
        (right-moved xs ys start (k + 1) (high - (low - k - 1)) (low - k - 1) long (omega arith) m)
        (omega arith))

    -- the item is above the hole
    pub removes_high
        : {ys : List X} (k : ℕ) → low ≤ k → k < low + (end - high) → length ys ≡ length xs
        → Moved xs ys high low (k - low)
        → seen ys k (high + (k - low + 1)) end start rest ≡ gap (remove v.left k) v.right (v.spare + 1)
    removes_high {ys} k more less long m =
        let by : high + (k - low + 1) ≡ high + (k - low) + 1 = omega arith in
        subst (λ w. seen ys k (high + (k - low + 1)) end start rest ≡ gap (remove w.left k) w.right
        (w.spare + 1)) is
        (alike (ap (λ j. left_of ys k j end) by
        ∙ left-removed_high xs ys low high end k laid.low_high laid.high_end within long more less m)
        (right-moved xs ys start high low (k - low) long (omega arith) m) (omega arith))

    -- ---- The cursor moves ----

    -- the cursor moves on, past the end of left
    pub moves_up
        : {ys : List X} (k : ℕ) → low + (end - high) ≤ k → k ≤ length v.left + length v.right → length ys
        ≡ length xs
        → Moved xs ys start end (k - (low + (end - high)))
        → seen ys low high (end + (k - (low + (end - high)))) (start + (k - (low + (end - high)))) rest
        ≡ gap (take k (v.left ++ v.right)) (drop k (v.left ++ v.right)) v.spare
    moves_up {ys} k more less long m =
        let l = left_len in let r = right_len in
        let count = k - (low + (end - high)) in
        let items = left_of xs low high end ++ right_of xs start in
        let sum : low + (end - high) + count ≡ k = omega arith in
        let fits : start + count ≤ length xs = omega arith in
        subst (λ w. seen ys low high (end + count) (start + count) rest
        ≡ gap (take k (w.left ++ w.right)) (drop k (w.left ++ w.right)) w.spare) is
        (alike (left-up xs ys low high end start count laid.low_high laid.high_end laid.end_start fits long m
        ∙ ap (λ j. take j items) sum)
        (right-up xs ys low high end start count laid.low_high laid.high_end laid.end_start fits long m ∙ ap
        (λ j. drop j items) sum) (omega arith))

    -- the cursor moves back, over high ones
    pub moves_down
        : {ys : List X} (k from count : ℕ)
        → high ≤ from → from + count ≡ end → k ≡ low + (from - high) → length ys ≡ length xs
        → Moved xs ys from (start - count) count
        → seen ys low high from (start - count) rest
        ≡ gap (take k (v.left ++ v.right)) (drop k (v.left ++ v.right)) v.spare
    moves_down {ys} k from count fits sum at long m =
        let items = left_of xs low high end ++ right_of xs start in
        let all : start ≤ length xs = omega arith in
        subst (λ w. seen ys low high from (start - count) rest
        ≡ gap (take k (w.left ++ w.right)) (drop k (w.left ++ w.right)) w.spare) is
        (alike (left-down xs ys low high end start from count laid.low_high fits sum laid.end_start all long m
        ∙ ap (λ j. take j items) (sym at))
        (right-down xs ys low high end start from count laid.low_high fits sum laid.end_start all long m
        ∙ ap (λ j. drop j items) (sym at))
        (omega arith))

    -- low ones alone may be counted as high ones, from any place on
    cuts : (k : ℕ) → k ≤ low → end ≤ high → seen xs k k low start rest ≡ v
    cuts k less none =
        let same : high ≡ end = omega arith in
        alike (left-cut xs low high k less (omega (arith, within)) ∙ ap
        (λ j. left_of xs low high j) same) refl (omega arith)
        ∙ is

module _ {X : Type 0} {xs ys zs : List X} {fs gs : List Bool} {low high end start n : ℕ}
    (laid : IsLaid xs fs low high end start n) (rest : ℕ) {v : Gap X}
    (is : seen xs low high end start rest ≡ v)
    (laid' : IsLaid ys gs low high high (start - (end - high)) n) where
  -- the cursor moves back over all high ones, and over low ones
  pub moves_under
      : (k : ℕ) → k ≤ low → length ys ≡ length xs → length zs ≡ length ys
      → Moved xs ys high (start - (end - high)) (end - high)
      → Moved ys zs k (start - (end - high) - (low - k)) (low - k)
      → seen zs k k k (start - (end - high) - (low - k)) rest
      ≡ gap (take k (v.left ++ v.right)) (drop k (v.left ++ v.right)) v.spare
  moves_under k less long long' m m' =
      let items = v.left ++ v.right in
      let whole = take-append-drop low items in
      let above = moves_down laid rest is low high (end - high) (omega arith) (omega arith)
      (omega arith) long m in
      let cut = cuts laid' rest above k less (omega arith) in
      moves_down (laid-cut laid' k less (omega arith)) rest cut k k (low - k) (omega arith) (omega arith)
      (omega arith) long' m'
      ∙ (λ i. gap (take k (whole i)) (drop k (whole i)) v.spare)

module _ {X : Type 0} where
  -- an item that is taken out of left and put in front of right: the cursor has stepped
  pub steps_left
      : {u v w : Gap X} {x : X} → PopsLeft v x w → u ≡ gap w.left (x ∷ w.right) (w.spare - 1) → StepsLeft v u
  steps_left {v = v} {w = w} {x = x} pops put =
      subst (λ g. StepsLeft v g) (sym put) (record {
        item = x;
        left = pops.left;
        right = ap (λ ys. x ∷ ys) pops.right;
        spare = let s = pops.spare in omega arith;
      })

  -- and the other way round
  pub steps_right
      : {u v w : Gap X} {x : X} → PopsRight v x w → u ≡ gap (w.left ++ x ∷ []) w.right (w.spare - 1)
      → StepsRight v u
  steps_right {v = v} {w = w} {x = x} pops put =
      subst (λ g. StepsRight v g) (sym put) (record {
        item = x;
        left = ap (λ ys. ys ++ x ∷ []) pops.left;
        right = pops.right;
        spare = let s = pops.spare in omega arith;
      })
