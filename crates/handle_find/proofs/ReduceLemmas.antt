-- A reduction at the cursor: what is taken back, with the letters that stay, is the reduct.
--
-- The word is left and then right, and the handle ends with the first letter of right. So the letters inside
-- it are those of left after its start, and the reduct is as long as their count says (`length-closed`).
-- Where a part of them stays, none of which is raised, or all are taken back, what is left and what was
-- put in front of right is the reduct (`reduct-stay`, `reduct-back`).
use Rattle.std.proofs.Common.{◌≡◌, ℕ, zero, suc, ◌+◌, ◌-◌, ◌*◌, ◌<◌, ◌≤◌, ◌==◌, ◌⊎◌, Bool, false, List, [], ◌∷◌, ◌++◌, length, get_or, take, drop, flat_map, refl, sym, ap, ◌∙◌, arith, length-append, length-take, length-drop, append_assoc, get_or-drop, get_or-take}
use Rattle.std.specs.List.{remove}
use Rattle.std.proofs.lemmas.Bool.{ne_eqb}
use Rattle.std.proofs.lemmas.Grind.{flat_map-append}
use Rattle.std.proofs.lemmas.List.{take-take, length-take-le, take-append-le, drop-append-le, take_rest, take-append-drop}
use Rattle.std.proofs.Math.Seq.{drop-append-add}
use Rattle.braid_word.specs.Words.{Letter, letter}
use Rattle.handle_find.specs.Handles.{at, IsHandle, inside, replaced, reduct}
use Rattle.handle_find.specs.LetterRuns.{Surveyed, IsBarred}
use Rattle.handle_find.proofs.ReductLength.{length-reduct_by_count, raised_in}
use Rattle.handle_find.proofs.CursorLemmas.{at-left}

-- ---- The parts of the word ----

-- the letters inside a handle that ends at the cursor
inside-closed
    : (l r : List Letter) (p : ℕ)
    → p < length l
    → inside (l ++ r) p (length l) ≡ drop (p + 1) l
inside-closed l r p within =
    let cut : drop (p + 1) (l ++ r) ≡ drop (p + 1) l ++ r = drop-append-le (p + 1) l r (omega arith) in
    let len : length l - (p + 1) ≤ length (drop (p + 1) l) = omega (arith, length-drop (p + 1) l) in
    rw cut (take-append-le (length l - (p + 1)) (drop (p + 1) l) r len ∙ take_rest l (p + 1))

-- the reduct in terms of both sides
pub reduct-closed
    : (l r rest : List Letter) (x first : Letter) (p : ℕ)
    → IsHandle (l ++ r) p (length l)
    → r ≡ x ∷ rest
    → first ≡ at l p
    → reduct (l ++ r) p (length l) ≡ take p l ++
    (flat_map (replaced first.index first.negative) (drop (p + 1) l) ++ rest)
unfolding reduct
reduct-closed l r rest x first p h right is =
    let within : p < length l = h.ordered in
    let start : at (l ++ r) p ≡ first = at-left l r p within ∙ sym is in
    let front : take p (l ++ r) ≡ take p l = take-append-le p l r (omega arith) in
    let between = inside-closed l r p within in
    let behind : drop (length l + 1) (l ++ r) ≡ rest = drop-append-add l r 1 ∙ rw right refl in
    rw (start, front, between, behind) refl

-- its length, by the count of raised letters
pub length-closed
    : (l r : List Letter) (first : Letter) (p i n len : ℕ)
    → IsHandle (l ++ r) p (length l)
    → first ≡ at l p
    → i ≡ first.index
    → n ≡ raised_in (i + 1) (drop (p + 1) l)
    → len ≡ length l + length r
    → len - 2 + 2 * n ≡ length (reduct (l ++ r) p (length l))
length-closed l r first p i n len h is index count sum =
    let within : p < length l = h.ordered in
    let both = length-append l r in
    let between = inside-closed l r p within in
    let start : get_or (l ++ r) p first ≡ at (l ++ r) p =
    get_or_default (l ++ r) p first (letter 0 false) (omega arith) in
    let read : first ≡ get_or (l ++ r) p first = is ∙ sym (at-left l r p within) ∙ sym start in
    let whole : length (l ++ r) - 2 + 2 * n ≡ length (reduct (l ++ r) p (length l))
    = length-reduct_by_count (l ++ r) p (length l) first i n h read index (rw between count) in
    let same : len ≡ length (l ++ r) = omega arith in
    rw same whole
  where
    get_or_default : (w : List Letter) (k : ℕ) (a b : Letter) → k < length w → get_or w k a ≡ get_or w k b
    get_or_default [] k a b within = absurd (omega arith)
    get_or_default (x ∷ w) zero a b within = refl
    get_or_default (x ∷ w) (suc k) a b within = get_or_default w k a b (omega arith)

-- ---- Letters that stay ----

-- higher letters than those that are raised stand for themselves
replaced-none
    : (w : List Letter) (j : ℕ) (e : Bool)
    → ((k : ℕ) → k < length w → j + 1 < (at w k).index)
    → flat_map (replaced j e) w ≡ w
replaced-none [] j e higher = refl
replaced-none (x ∷ w) j e higher =
    let own : j + 1 < x.index = higher 0 (omega arith) in
    let test : (x.index == j + 1) ≡ false = ne_eqb _ _ (λ same. absurd (omega arith)) in
    let rest = replaced-none w j e (λ k below. higher (suc k) (omega arith)) in
    rw (rest, test) refl

-- those between the start and the first that is raised
abbrev between : List Letter → ℕ → ℕ → List Letter
between l p from = drop (p + 1) (take from l)

-- all letters inside are these and those from there on
inside-parts
    : (l : List Letter) (p from : ℕ)
    → p + 1 ≤ from
    → from ≤ length l
    → drop (p + 1) l ≡ between l p from ++ drop from l
inside-parts l p from after within =
    let len : p + 1 ≤ length (take from l) = omega (arith, length-take from l) in
    ap (drop (p + 1)) (sym (take-append-drop from l)) ∙ drop-append-le (p + 1) (take from l) (drop from l) len

-- they stand for themselves
between-stays
    : (l : List Letter) (p j raised from low : ℕ) (e : Bool)
    → Surveyed l (p + 1) (j + 1) raised from low
    → flat_map (replaced j e) (between l p from) ≡ between l p from
between-stays l p j raised from low e h =
    let below = h.below in
    let within = h.within in
    replaced-none (drop (p + 1) (take from l)) j e (λ k here.
    let len = length-drop (p + 1) (take from l) in
    let len' = length-take from l in
    let place : at (drop (p + 1) (take from l)) k ≡ at l (p + 1 + k)
    = get_or-drop (p + 1) (take from l) k (letter 0 false)
    ∙ get_or-take from l (p + 1 + k) (letter 0 false) (omega arith) in
    rw place (h.least (p + 1 + k) (omega arith) (omega arith)).1)

-- ---- Room ----

module _ (l r rest : List Letter) (x first : Letter) (p raised from low : ℕ)
    (h : IsHandle (l ++ r) p (length l)) (right : r ≡ x ∷ rest) (is : first ≡ at l p)
    (found : Surveyed l (p + 1) (first.index + 1) raised from low) where
  -- what stands for letters inside
  abbrev stands : List Letter → List Letter
  stands w = flat_map (replaced first.index first.negative) w

  -- what stands for all of them
  stands-inside : stands (drop (p + 1) l) ≡ between l p from ++ stands (drop from l)
  stands-inside =
      let stays = between-stays l p first.index raised from low first.negative found in
      ap stands (inside-parts l p from found.below found.within)
      ∙ flat_map-append (replaced first.index first.negative) (between l p from) (drop from l)
      ∙ ap (λ w. w ++ stands (drop from l)) stays

  -- how many these are
  length-stands : length (reduct (l ++ r) p (length l)) + 1 ≡ from
      + length (stands (drop from l)) + length rest
  length-stands =
      let below = found.below in
      let within = found.within in
      let closed = reduct-closed l r rest x first p h right is in
      let parts = length-append (take p l) (stands (drop (p + 1) l) ++ rest) in
      let back = length-append (stands (drop (p + 1) l)) rest in
      let inner = ap length stands-inside in
      let two = length-append (between l p from) (stands (drop from l)) in
      let low_part = length-take p l in
      let part = length-drop (p + 1) (take from l) in
      let cut = length-take from l in
      let whole : length (reduct (l ++ r) p (length l))
      ≡ length (take p l ++ (stands (drop (p + 1) l) ++ rest)) = ap length closed in
      omega arith

  -- what is left of the word, and what was put in front of the rest, where the letters before the first
  -- that is raised stay
  pub reduct-stay
      : (left now : List Letter)
      → left ≡ take from l
      → now ≡ remove left p
      → now ++ (stands (drop from l) ++ rest) ≡ reduct (l ++ r) p (length l)
  reduct-stay left now cut gone =
      let below = found.below in
      let front : take p (take from l) ≡ take p l = take-take p from l (omega arith) in
      let place : suc p ≡ p + 1 = omega arith in
      let kept : now ≡ take p l ++ between l p from = rw (gone, cut, front, place) refl in
      rw (kept, reduct-closed l r rest x first p h right is, stands-inside)
      (append_assoc (take p l) (between l p from) (stands (drop from l) ++ rest)
      ∙ ap (λ w. take p l ++ w) (sym (append_assoc (between l p from) (stands (drop from l)) rest)))

  -- and where they are taken back too
  pub reduct-back
      : (left short now : List Letter)
      → left ≡ take from l
      → short ≡ take (p + 1) left
      → now ≡ take p short
      → now ++ (stands (drop (p + 1) left) ++ (stands (drop from l) ++ rest)) ≡ reduct (l ++ r) p (length l)
  reduct-back left short now cut cut' last =
      let below = found.below in
      let stays = between-stays l p first.index raised from low first.negative found in
      let front : take p (take (p + 1) (take from l)) ≡ take p l
      = take-take p (p + 1) (take from l) (omega arith) ∙ take-take p from l (omega arith) in
      let kept : now ≡ take p l = rw (last, cut', cut, front) refl in
      rw (kept, cut, stays, reduct-closed l r rest x first p h right is, stands-inside)
      (ap (λ w. take p l ++ w) (sym (append_assoc (between l p from) (stands (drop from l)) rest)))

  -- there is room for the letters that are taken back first, beside the first letter of the handle
  pub room-first
      : (places : ℕ)
      → length (reduct (l ++ r) p (length l)) < places
      → from + length (stands (drop from l)) + length rest ≤ places
  room-first places fits = let many = length-stands in omega arith

  -- and for the others
  pub room-second
      : (left behind : List Letter) (places : ℕ)
      → length (reduct (l ++ r) p (length l)) < places
      → left ≡ take from l
      → behind ≡ stands (drop from l) ++ rest
      → p + 1 + length (stands (drop (p + 1) left)) + length behind ≤ places
  room-second left behind places fits cut put =
      let below = found.below in
      let within = found.within in
      let many = length-stands in
      let stays = between-stays l p first.index raised from low first.negative found in
      let len : length (stands (drop (p + 1) left)) ≡ length (drop (p + 1) (take from l)) =
      rw cut (ap length stays) in
      let part = length-drop (p + 1) (take from l) in
      let len' = length-take from l in
      let sum : length behind ≡ length (stands (drop from l) ++ rest) = ap length put in
      let both = length-append (stands (drop from l)) rest in
      omega arith

-- where the letter before the start is lower than all that stay, the start can go
pub IsBarred-start
    : (l left : List Letter) (first : Letter) (p raised from low : ℕ)
    → Surveyed l (p + 1) (first.index + 1) raised from low
    → first ≡ at l p
    → left ≡ take from l
    → (p ≡ 0) ⊎ ((at left (p - 1)).index < low)
    → IsBarred left p low
IsBarred-start l left first p raised from low found is cut before =
    let below = found.below in
    let within = found.within in
    let len : length left ≡ from = ap length cut ∙ length-take-le from l within in
    let here : (m : ℕ) → m < from → at left m ≡ at l m
    = λ m under. rw cut (get_or-take from l m (letter 0 false) under) in
    let start : (at left p).index ≡ first.index =
    ap (λ (y : Letter). y.index) (here p (omega arith) ∙ sym is) in
    record {
      within = omega arith;
      before = before;
      after = λ m above under.
          let same : (at left m).index ≡ (at l m).index =
          ap (λ (y : Letter). y.index) (here m (omega arith)) in
          let bounds = found.least m (omega arith) (omega arith) in
          (omega (arith, bounds.0), omega (arith, bounds.1));
    }
