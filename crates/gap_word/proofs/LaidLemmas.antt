-- What is left and right in a row of places, and what a write or a move makes of them.
use Rattle.std.proofs.Common.{◌≡◌, ℕ, ◌+◌, ◌-◌, ◌<◌, ◌≤◌, List, [], ◌∷◌, ◌++◌, length, take, drop, refl, sym, ap, ◌∙◌, arith, ⊎_elim}
use lib.ListN.{get_or, set, length-set, length-drop}
use lib.Seq.{get_or-set_same, get_or-set_other}
use Rattle.core.specs.List.{remove}
use Rattle.core.proofs.slice.Writes.{same_lists}
use Rattle.core.proofs.slice.Indexed.{places, remove_places}
use Rattle.core.proofs.str.Laws.{order}
use Rattle.std.proofs.lemmas.List.{append-nil, drop_more, take_more}
use Rattle.std_alloc.proofs.vec.Slotted.{Moved}
use Rattle.gap_word.specs.Parts.{left_of, right_of}

module _ {X : Type 0} where
  -- left has the low ones and the high ones
  pub length-left
      : (xs : List X) (low high end : ℕ)
      → low ≤ high → high ≤ end → end ≤ length xs
      → length (left_of xs low high end) ≡ low + (end - high)
  unfolding left_of
  length-left xs low high end a b c = grind (arith, places)

  -- right has the places from its start on
  pub length-right : (xs : List X) (start : ℕ) → length (right_of xs start) ≡ length xs - start
  unfolding right_of
  length-right xs start = length-drop start xs

  -- a low one stands where it is counted
  pub read-low
      : (xs : List X) (low high end k : ℕ) (d : X)
      → low ≤ length xs → k < low
      → get_or (left_of xs low high end) k d ≡ get_or xs k d
  unfolding left_of
  read-low xs low high end k d a b = grind (arith, places)

  -- a high one stands behind the hole
  pub read-high
      : (xs : List X) (low high end k : ℕ) (d : X)
      → low ≤ high → high ≤ end → end ≤ length xs → low ≤ k → k < low + (end - high)
      → get_or (left_of xs low high end) k d ≡ get_or xs (high + (k - low)) d
  unfolding left_of
  read-high xs low high end k d a b c e f = grind (arith, places)

  -- an item of right stands behind its start
  pub read-right
      : (xs : List X) (start k : ℕ) (d : X)
      → get_or (right_of xs start) k d ≡ get_or xs (start + k) d
  unfolding right_of
  read-right xs start k d = grind (arith, places)

  -- an item that is put behind left is its last one
  pub left-put
      : (xs : List X) (low high end : ℕ) (x : X)
      → low ≤ high → high ≤ end → end < length xs
      → left_of (set xs end x) low high (end + 1) ≡ left_of xs low high end ++ x ∷ []
  unfolding left_of
  left-put xs low high end x a b c =
      same_lists _ _ (grind (arith, places, length-set)) (λ k d l. ⊎_elim
      (λ u. grind (arith, places, get_or-set_other))
      (λ u. grind (arith, places, get_or-set_same, get_or-set_other))
      (order k low))

  -- a write behind left leaves it alone
  pub left-kept
      : (xs : List X) (low high end i : ℕ) (x : X)
      → low ≤ high → high ≤ end → end ≤ i
      → left_of (set xs i x) low high end ≡ left_of xs low high end
  unfolding left_of
  left-kept xs low high end i x a b c =
      same_lists _ _ (grind (arith, places, length-set)) (λ k d l. ⊎_elim
      (λ u. grind (arith, places, get_or-set_other))
      (λ u. grind (arith, places, get_or-set_other))
      (order k low))

  -- a write in front of right leaves it alone
  pub right-kept
      : (xs : List X) (start i : ℕ) (x : X)
      → i < start
      → right_of (set xs i x) start ≡ right_of xs start
  unfolding right_of
  right-kept xs start i x a =
      same_lists _ _ (grind (arith, places, length-set)) (λ k d l. grind (arith, places, get_or-set_other))

  -- an item that is put in front of right is its first one
  pub right-put
      : (xs : List X) (start : ℕ) (x : X)
      → start < length xs
      → right_of (set xs start x) start ≡ x ∷ right_of xs (start + 1)
  unfolding right_of
  right-put xs start x a =
      drop_more (set xs start x) start x (omega (arith, length-set xs start x))
      ∙ (λ i. get_or-set_same xs start x x a i ∷ right-kept xs (start + 1) start x (omega arith) i)

  -- the last of the high ones is the last of left
  pub left-last_high
      : (xs : List X) (low high end : ℕ) (d : X)
      → low ≤ high → high ≤ end → end < length xs
      → left_of xs low high (end + 1) ≡ left_of xs low high end ++ get_or xs end d ∷ []
  unfolding left_of
  left-last_high xs low high end d a b c =
      same_lists _ _ (grind (arith, places)) (λ k e l. ⊎_elim
      (λ u. grind (arith, places))
      (λ u. grind (arith, places))
      (order k low))

  -- without high ones, the last of the low ones is
  pub left-last_low
      : (xs : List X) (low high : ℕ) (d : X)
      → low < length xs
      → left_of xs (low + 1) high high ≡ left_of xs low low low ++ get_or xs low d ∷ []
  unfolding left_of
  left-last_low xs low high d a =
      let none : high - high ≡ 0 = omega arith in
      let none' : low - low ≡ 0 = omega arith in
      rw none (rw none' (append-nil _ ∙ take_more xs low d a ∙ ap (λ ys. ys ++ get_or xs low d ∷ [])
      (sym (append-nil _))))

  -- the first of right
  pub right-first
      : (xs : List X) (start : ℕ) (d : X)
      → start < length xs
      → right_of xs start ≡ get_or xs start d ∷ right_of xs (start + 1)
  unfolding right_of
  right-first xs start d a = drop_more xs start d a

  -- high ones that move down to the low ones close the hole
  pub left-closed
      : (xs ys : List X) (low high end : ℕ)
      → low ≤ high → high ≤ end → end ≤ length xs → length ys ≡ length xs
      → Moved xs ys high low (end - high)
      → left_of ys low low (low + (end - high)) ≡ left_of xs low high end
  unfolding left_of
  left-closed xs ys low high end a b c len m =
      same_lists _ _ (grind (arith, places)) (λ k d l. ⊎_elim
      (λ u. let e = m.below k d u in grind (arith, places))
      (λ u. let e = m.inside k d u (grind (arith, places)) in grind (arith, places))
      (order k low))

  -- a move below right leaves it alone
  pub right-moved
      : (xs ys : List X) (start from to count : ℕ)
      → length ys ≡ length xs → to + count ≤ start
      → Moved xs ys from to count
      → right_of ys start ≡ right_of xs start
  unfolding right_of
  right-moved xs ys start from to count len a m =
      same_lists _ _ (grind (arith, places))
      (λ k d l. let e = m.above (start + k) d (omega arith) in grind (arith, places))

  -- behind an item that is removed, each stands one place nearer
  behind : (xs : List X) (k i : ℕ) (d : X) → k < length xs → k ≤ i → get_or (remove xs k) i d ≡ get_or xs
      (i + 1) d
  behind xs k i d a b = (remove_places xs (remove xs k) (length xs) refl k a refl).1 i d b

  -- the item below the hole is removed: those behind it move up to the hole
  pub left-removed_low
      : (xs ys : List X) (low high end k : ℕ)
      → low ≤ high → high ≤ end → end ≤ length xs → length ys ≡ length xs → k < low
      → Moved xs ys (k + 1) (high - (low - k - 1)) (low - k - 1)
      → left_of ys k (high - (low - k - 1)) end ≡ remove (left_of xs low high end) k
  unfolding left_of
  left-removed_low xs ys low high end k a b c len less m =
      let to = high - (low - k - 1) in
      let all = length-left xs low high end a b c in
      let kept = length-left ys k to end (omega arith) (omega arith) (omega arith) in
      same_lists _ _ (grind (arith, places)) (λ i d l. ⊎_elim
      (λ u. let e = m.below i d (omega arith) in grind (arith, places))
      (λ u.
      let next = behind (left_of xs low high end) k i d (omega arith) u in
      let here = read-high ys k to end i d (omega arith) (omega arith) (omega arith) u (omega arith) in
      ⊎_elim
      (λ v.
      let from : k + 1 + (to + (i - k) - to) ≡ i + 1 = omega arith in
      here ∙ m.inside (to + (i - k)) d (omega arith) (omega arith) ∙ ap (λ j. get_or xs j d) from
      ∙ sym (read-low xs low high end (i + 1) d (omega arith) (omega arith)) ∙ sym next)
      (λ v.
      let from : to + (i - k) ≡ high + (i + 1 - low) = omega arith in
      here ∙ m.above (to + (i - k)) d (omega arith) ∙ ap (λ j. get_or xs j d) from
      ∙ sym (read-high xs low high end (i + 1) d a b c (omega arith) (omega arith)) ∙ sym next)
      (order i (low - 1)))
      (order i k))

  -- the item above the hole is removed: those before it move down to the hole
  pub left-removed_high
      : (xs ys : List X) (low high end k : ℕ)
      → low ≤ high → high ≤ end → end ≤ length xs → length ys ≡ length xs → low ≤ k → k < low + (end - high)
      → Moved xs ys high low (k - low)
      → left_of ys k (high + (k - low) + 1) end ≡ remove (left_of xs low high end) k
  unfolding left_of
  left-removed_high xs ys low high end k a b c len more within m =
      let to = high + (k - low) + 1 in
      let all = length-left xs low high end a b c in
      let kept = length-left ys k to end (omega arith) (omega arith) (omega arith) in
      same_lists _ _ (grind (arith, places)) (λ i d l. ⊎_elim
      (λ u. let e = m.below i d u in grind (arith, places))
      (λ u. ⊎_elim
      (λ v. let e = m.inside i d u (omega arith) in grind (arith, places))
      (λ v.
      let from : to + (i - k) ≡ high + (i + 1 - low) = omega arith in
      read-high ys k to end i d (omega arith) (omega arith) (omega arith) v (omega arith)
      ∙ m.above (to + (i - k)) d (omega arith) ∙ ap (λ j. get_or xs j d) from
      ∙ sym (read-high xs low high end (i + 1) d a b c (omega arith) (omega arith))
      ∙ sym (behind (left_of xs low high end) k i d (omega arith) v))
      (order i k))
      (order i low))

  -- the first ones of right move down to left
  pub left-up
      : (xs ys : List X) (low high end start count : ℕ)
      → low ≤ high → high ≤ end → end ≤ start → start + count ≤ length xs → length ys ≡ length xs
      → Moved xs ys start end count
      → left_of ys low high (end + count)
      ≡ take (low + (end - high) + count) (left_of xs low high end ++ right_of xs start)
  unfolding left_of right_of
  left-up xs ys low high end start count a b c e len m =
      same_lists _ _ (grind (arith, places)) (λ k d l. ⊎_elim
      (λ u. let e = m.below k d (omega arith) in grind (arith, places))
      (λ u. ⊎_elim
      (λ v. let e = m.below (high + (k - low)) d (omega arith) in grind (arith, places))
      (λ v. let e = m.inside (high + (k - low)) d (omega arith) (grind (arith, places)) in grind
      (arith, places))
      (order k (low + (end - high))))
      (order k low))

  -- and right starts behind them
  pub right-up
      : (xs ys : List X) (low high end start count : ℕ)
      → low ≤ high → high ≤ end → end ≤ start → start + count ≤ length xs → length ys ≡ length xs
      → Moved xs ys start end count
      → right_of ys (start + count)
      ≡ drop (low + (end - high) + count) (left_of xs low high end ++ right_of xs start)
  unfolding left_of right_of
  right-up xs ys low high end start count a b c e len m =
      same_lists _ _ (grind (arith, places)) (λ k d l.
      let e = m.above (start + count + k) d (omega arith) in grind (arith, places))

  -- the last of the high ones move up to right
  pub left-down
      : (xs ys : List X) (low high end start from count : ℕ)
      → low ≤ high → high ≤ from → from + count ≡ end → end ≤ start → start ≤ length xs → length ys
      ≡ length xs
      → Moved xs ys from (start - count) count
      → left_of ys low high from
      ≡ take (low + (from - high)) (left_of xs low high end ++ right_of xs start)
  unfolding left_of right_of
  left-down xs ys low high end start from count a b t c e len m =
      same_lists _ _ (grind (arith, places)) (λ k d l. ⊎_elim
      (λ u. let e = m.below k d (omega arith) in grind (arith, places))
      (λ u. let e = m.below (high + (k - low)) d (grind (arith, places)) in grind (arith, places))
      (order k low))

  -- and right starts with them
  pub right-down
      : (xs ys : List X) (low high end start from count : ℕ)
      → low ≤ high → high ≤ from → from + count ≡ end → end ≤ start → start ≤ length xs → length ys
      ≡ length xs
      → Moved xs ys from (start - count) count
      → right_of ys (start - count)
      ≡ drop (low + (from - high)) (left_of xs low high end ++ right_of xs start)
  unfolding left_of right_of
  right-down xs ys low high end start from count a b t c e len m =
      same_lists _ _ (grind (arith, places)) (λ k d l. ⊎_elim
      (λ u. let e = m.inside (start - count + k) d (omega arith) (omega arith) in grind (arith, places))
      (λ u. let e = m.above (start - count + k) d (omega arith) in grind (arith, places))
      (order k count))

  -- low ones alone may be counted as high ones, from any place on
  pub left-cut
      : (xs : List X) (low high k : ℕ)
      → k ≤ low → low ≤ length xs
      → left_of xs k k low ≡ left_of xs low high high
  unfolding left_of
  left-cut xs low high k a b =
      same_lists _ _ (grind (arith, places)) (λ i d l. ⊎_elim
      (λ u. grind (arith, places))
      (λ u. grind (arith, places))
      (order i k))
