-- A buffer with a cursor, as its callers see it: the items to the left of the cursor, those to the right of
-- it, and how many more there may be.
--
-- Places count from 0, in each list from its front. Where the items lie is in no clause.
--
--   gap l r s               the buffer with the lists l and r, and spare room for s more items
--   room g                  how many items there may be in all
--   PopsLeft g x h          the last of left is taken out: it is x, and h is left
--   PopsRight g x h         the same for the first of right
--   StepsLeft g h           the last of left goes to the front of right
--   StepsRight g h          the first of right goes to the end of left
use Rattle.std.specs.Prelude.{◌≡◌, ℕ, ◌+◌, List, [], ◌∷◌, ◌++◌, length, refl}
use Rattle.std.specs.Coded.{Coded, code_by, coded×, coded_list, coded_ℕ}

-- The items on both sides of the cursor, and the spare room.
pub record Gap (X : Type 0) : Type 0 where
  pub left : List X
  pub right : List X
  pub spare : ℕ

module _ {X : Type 0} where
  -- The buffer with these lists and this spare room.
  abbrev pub gap : List X → List X → ℕ → Gap X
  gap l r s = record { left = l; right = r; spare = s }

  -- It is told from others by its parts.
  abbrev pub gap_code : Coded X → Coded (Gap X)
  gap_code c =
      code_by (List X × (List X × ℕ)) (coded× (coded_list c) (coded× (coded_list c) coded_ℕ))
      (λ g. (g.left, (g.right, g.spare))) (λ p. gap p.0 p.1.0 p.1.1) (λ _. refl)

  -- How many items there may be: no call changes it.
  abbrev pub room : Gap X → ℕ
  room g = length g.left + g.spare + length g.right

  -- ---- Items that are taken out ----

  -- The last of left is taken out: of `1 2 | 3` the item 2, and `1 | 3` is left.
  pub record PopsLeft (old : Gap X) (item : X) (new : Gap X) : Type 0 where
    pub left : old.left ≡ new.left ++ item ∷ []
    pub right : new.right ≡ old.right
    pub spare : new.spare ≡ old.spare + 1

  -- The first of right is taken out: of `1 2 | 3` the item 3, and `1 2 |` is left.
  pub record PopsRight (old : Gap X) (item : X) (new : Gap X) : Type 0 where
    pub left : new.left ≡ old.left
    pub right : old.right ≡ item ∷ new.right
    pub spare : new.spare ≡ old.spare + 1

  -- ---- Steps of the cursor ----

  -- The last of left goes to the front of right: `1 2 | 3` becomes `1 | 2 3`.
  pub record StepsLeft (old new : Gap X) : Type 0 where
    pub item : X
    pub left : old.left ≡ new.left ++ item ∷ []
    pub right : new.right ≡ item ∷ old.right
    pub spare : new.spare ≡ old.spare

  -- The first of right goes to the end of left: `1 | 2 3` becomes `1 2 | 3`.
  pub record StepsRight (old new : Gap X) : Type 0 where
    pub item : X
    pub left : new.left ≡ old.left ++ item ∷ []
    pub right : old.right ≡ item ∷ new.right
    pub spare : new.spare ≡ old.spare
