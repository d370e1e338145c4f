-- Letters that are taken back, one after another.
--
-- What was taken back stands in front of right, replaced (`TakenBack`). There is room for what stands for
-- the next letter where there is for all (`room-back`).
use Rattle.std.proofs.Common.{◌≡◌, ℕ, ◌+◌, ◌-◌, ◌<◌, ◌≤◌, Bool, List, [], ◌∷◌, ◌++◌, length, take, drop, flat_map, refl, sym, ap, ◌∙◌, arith, length-append, length-drop, append_assoc}
use Rattle.std.proofs.lemmas.Grind.{flat_map-append}
use Rattle.std.proofs.lemmas.List.{append-nil, take_at, drop_at, drop-append-le}
use Rattle.braid_word.specs.Words.{Letter}
use Rattle.gap_word.specs.Gap.{Gap, gap, room, PopsLeft}
use Rattle.handle_find.specs.Handles.{replaced}
use Rattle.handle_find.proofs.ReductLength.{length-flat_map_replaced}

-- there is room for what stands for the next letter that is taken back
pub room-back
    : (j : ℕ) (e : Bool) (old left left' back right : List Letter) (y : Letter) (from spare places : ℕ)
    → from + length (flat_map (replaced j e) (drop from old)) + length right ≤ places
    → old ≡ left ++ back
    → left ≡ left' ++ y ∷ []
    → from < length left
    → places ≡ length left + spare + length (flat_map (replaced j e) back ++ right)
    → length (replaced j e y) ≤ spare + 1
room-back j e old left left' back right y from spare places fits parts last more sum =
    let cut : drop from old ≡ drop from left' ++ (y ∷ back) =
    rw (parts, last) (dropped from left' back y
    (omega (arith, length-append left' (y ∷ []), ap length last))) in
    let all : length (flat_map (replaced j e) (drop from old))
    ≡ length (flat_map (replaced j e) (drop from left'))
    + (length (replaced j e y) + length (flat_map (replaced j e) back))
    = ap (λ w. length (flat_map (replaced j e) w)) cut ∙ spread (drop from left') back in
    let low : length (drop from left') ≤ length (flat_map (replaced j e) (drop from left'))
    = omega (arith, length-flat_map_replaced j e (drop from left')) in
    let len = length-drop from left' in
    let len' = length-append left' (y ∷ []) in
    let same = ap length last in
    let both = length-append (flat_map (replaced j e) back) right in
    omega arith
  where
    dropped : (from : ℕ) (a back : List Letter) (y : Letter) → from ≤ length a
        → drop from ((a ++ y ∷ []) ++ back) ≡ drop from a ++ (y ∷ back)
    dropped from a back y within = ap (drop from) (append_assoc a (y ∷ []) back)
        ∙ drop-append-le from a (y ∷ back) within

    spread : (a back : List Letter) → length (flat_map (replaced j e) (a ++ (y ∷ back)))
        ≡ length (flat_map (replaced j e) a) +
        (length (replaced j e y) + length (flat_map (replaced j e) back))
    spread a back =
        let one = flat_map-append (replaced j e) a (y ∷ back) in
        let two = length-append (flat_map (replaced j e) a) (flat_map (replaced j e) (y ∷ back)) in
        let three = length-append (replaced j e y) (flat_map (replaced j e) back) in
        let same = ap length one in
        omega arith

-- the letters that were taken back are those from the place on
pub back-is
    : {X : Type 0} (old left back : List X) (from : ℕ)
    → old ≡ left ++ back
    → length left ≡ from
    → (left ≡ take from old) × (back ≡ drop from old)
back-is old left back from parts len =
    (rw parts (sym (take_at left back from len)), rw parts (sym (drop_at left back from len)))

-- some of the letters of left stand in front of right, replaced
pub record TakenBack (j : ℕ) (e : Bool) (old now : Gap Letter) : Type 0 where
  pub back : List Letter
  pub left : old.left ≡ now.left ++ back
  pub right : now.right ≡ flat_map (replaced j e) back ++ old.right
  pub same_room : room now ≡ room old

-- none at first
pub TakenBack-none : (j : ℕ) (e : Bool) (old : Gap Letter) → TakenBack j e old old
TakenBack-none j e old =
    record { back = []; left = sym (append-nil old.left); right = refl; same_room = refl }

-- one more
pub TakenBack-more
    : (j : ℕ) (e : Bool) (old now popped next : Gap Letter) (y : Letter)
    → TakenBack j e old now
    → PopsLeft now y popped
    → length (replaced j e y) ≤ popped.spare
    → next ≡ gap popped.left (replaced j e y ++ popped.right) (popped.spare - length (replaced j e y))
    → TakenBack j e old next
TakenBack-more j e old now popped next y taken pops fits is =
    let last = pops.left in
    let rest = pops.right in
    let parts : old.left ≡ popped.left ++ (y ∷ taken.back)
    = taken.left ∙ rw last (append_assoc popped.left (y ∷ []) taken.back) in
    let put : replaced j e y ++ popped.right ≡ flat_map (replaced j e) (y ∷ taken.back) ++ old.right
    = rw (rest, taken.right) (sym (append_assoc (replaced j e y)
    (flat_map (replaced j e) taken.back) old.right)) in
    let len = length-append popped.left (y ∷ []) in
    let len' = ap length last in
    let behind = length-append (replaced j e y) popped.right in
    let behind' = ap length rest in
    let spare = pops.spare in
    let same = taken.same_room in
    rw is (record {
      back = y ∷ taken.back;
      left = parts;
      right = put;
      same_room = omega arith;
    })
