-- A word with a cursor before which no handle ends.
--
-- It is seen as a buffer of letters: those to the left of the cursor, those to its right, and the spare
-- room. Places of letters count from 0 in the whole word, which is left and then right.
-- Source: this project's. What a search for the leftmost handle has passed needs no second look.
--
--   whole s                 the word: left, and then right
--   places s                how many letters there may be in all
--   IsHandleAtCursor s p    the letters from place p to the first of right are a handle
--   reduct_at_cursor s p    the word with that handle reduced
--   Advances s answer t     what `advance` answers, and what it makes of s
--
-- The laws stand in `proofs/CursorLemmas.antt`, `FrontLemmas.antt` and `ReduceLemmas.antt`.
use Rattle.std.specs.Prelude.{◌≡◌, ℕ, List, [], ◌++◌, length}
use Rattle.braid_word.specs.Words.{Letter}
use Rattle.gap_word.specs.Gap.{Gap, room, StepsRight}
use Rattle.handle_find.specs.Handles.{IsHandle, reduct}
use Rattle.handle_find.specs.declared.scan.Advance.{Advance}
use Rattle.handle_find.specs.declared.scan.Advance.TheVariants.{End, Closes, Kept}

-- The whole word.
abbrev pub whole : Gap Letter → List Letter
whole s = s.left ++ s.right

-- How many letters there may be.
abbrev pub places : Gap Letter → ℕ
places s = room s

-- The letters from this place to the first one of right are a handle.
abbrev pub IsHandleAtCursor : Gap Letter → ℕ → Type 0
IsHandleAtCursor s p = IsHandle (whole s) p (length s.left)

-- The word with that handle reduced.
abbrev pub reduct_at_cursor : Gap Letter → ℕ → List Letter
reduct_at_cursor s p = reduct (whole s) p (length s.left)

-- The first letter of right is looked at: right has none, or the letter ends a handle from place p on, or it
-- ends none and goes to left.
abbrev pub Advances : Gap Letter → Advance → Gap Letter → Type 0
Advances old End new = (old.right ≡ []) × (new ≡ old)
Advances old (Closes p) new = IsHandleAtCursor old p × (new ≡ old)
Advances old Kept new = StepsRight old new × ((p : ℕ) → IsHandleAtCursor old p → ⊥)
