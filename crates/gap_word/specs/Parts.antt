-- How the items lie in one row of places. No public clause cites this module.
--
-- The row is cut by four places: `low`, `high`, `end` and `start`. Left is below `low` and from `high` to
-- `end`, with a hole between them; right is from `start` on, and between `end` and `start` nothing is.
--
--     low ones | hole | high ones | between | right
--              low    high        end       start
--
--   left_of xs low high end             the items of left in the row xs
--   right_of xs start                   those of right
--   seen xs low high end start rest     the two lists with the spare room
--   IsLaid xs fs low high end start n   xs has n places that are so cut, and fs says which are full
--   items_of, filled_of                 the values of the places, and which are full; first there are none
--   HeldBy a row                        the places were taken from the allocator a
--   IsRoom a n room                     so was the room, which is for n items
--   IsBuffer a room row ..              all of it together
use Rattle.std.specs.Prelude.{◌≡◌, ℕ, ◌+◌, ◌-◌, ◌<◌, ◌≤◌, Bool, List, [], ◌++◌, length, take, drop, IsSome, IsNone}
use Rattle.std.specs.Global.{Global}
use Rattle.std.specs.declared.option.Option.{Option}
use Rattle.std.specs.declared.option.Option.TheVariants.{None, Some}
use Rattle.core.specs.Mem.Slots.{slots_items, slots_filled}
use Rattle.core.specs.Mem.Slots.Ownership.{Filled}
use Rattle.gap_word.specs.Gap.{Gap, gap}
use Rattle.gap_word.specs.declared.TheConstants.{MAX_ROOM}
use Rattle.gap_word.specs.declared.block.Block.{Block}
use Rattle.gap_word.specs.declared.held.Places.{Places}

module _ {X : Type 0} where
  -- The low ones, and then the high ones.
  unfoldable pub left_of : List X → ℕ → ℕ → ℕ → List X
  left_of xs low high end = take low xs ++ take (end - high) (drop high xs)

  -- From `start` on.
  unfoldable pub right_of : List X → ℕ → List X
  right_of xs start = drop start xs

  -- What a caller sees: there is room in the hole, in between, and for the places that are still to come.
  abbrev pub seen : List X → ℕ → ℕ → ℕ → ℕ → ℕ → Gap X
  seen xs low high end start rest =
      gap (left_of xs low high end) (right_of xs start) (high - low + (start - end) + rest)

  -- The four places cut the row, and each place of left and right is full.
  pub record IsLaid (xs : List X) (fs : List Bool) (low high end start n : ℕ) : Type 0 where
    pub low_high : low ≤ high
    pub high_end : high ≤ end
    pub end_start : end ≤ start
    pub start_all : start ≤ n
    pub places : length xs ≡ n
    pub marks : length fs ≡ n
    pub low_full : Filled fs 0 low
    pub high_full : Filled fs high end
    pub right_full : Filled fs start n

  -- The values that the places hold, or held last.
  abbrev pub items_of : Option (Places X) → List X
  items_of None = []
  items_of (Some row) = slots_items row.slots

  -- Which of the places hold one.
  abbrev pub filled_of : Option (Places X) → List Bool
  filled_of None = []
  filled_of (Some row) = slots_filled row.slots

  -- The places, where there are any, are this allocator's.
  abbrev pub HeldBy : Global → Option (Places X) → Type 0
  HeldBy a None = Unit {0}
  HeldBy a (Some row) = row.deed.heap ≡ a

  -- The room, where there is any, is this allocator's, and for so many items.
  abbrev pub IsRoom : Global → ℕ → Option (Block X Global) → Type 0
  IsRoom a n None = Unit {0}
  IsRoom a n (Some block) = (block.len ≡ n) × (block.heap ≡ a)

  -- What a buffer keeps to: the items are laid out in its row of places, and its memory is its allocator's.
  pub record IsBuffer (a : Global) (room : Option (Block X Global)) (row : Option (Places X))
      (low high end start cells rest : ℕ) : Type 0 where
    pub laid : IsLaid (items_of row) (filled_of row) low high end start cells
    pub held : HeldBy a row
    pub kept : IsRoom a rest room
    pub unopened : 0 < rest → IsSome room × IsNone row
    pub small : cells + rest ≤ MAX_ROOM
