-- Free words: elements of a free group as lists of generators, with their product and inverse.
--
-- A free group has a generator x_i for each index i. The indices of the code's generators count from 1,
-- as those of braid words do; the definitions hold for any. A word is a list of generators and of
-- inverses of generators, the first one first. It is reduced where no two neighbours are inverse to each
-- other, and each element of the group has one reduced word.
-- Source: M. Hall, The Theory of Groups, 1959. That generators act on reduced words by `put` is
-- after B. L. van der Waerden, Free products of groups, 1948.
--
--   gen i e              the generator x_i, or its inverse where e is true
--   opposite x           x with its sign turned
--   inverse f            the generators of f from the last to the first, each with its sign turned
--   IsReduced f          no two neighbours of f are inverse to each other
--   cancels x y          whether y is the inverse of x
--   put x f              x in front of f, or f without its first where that is the inverse of x
--   product a f          the generators of a put in front of f, the last one first
--   DeletesOne u v       v is u without two neighbours that are inverse to each other
--   Deletes u v          a chain of such deletions leads from u to v
--   IsReducedForm w f    f is the only reduced word to which deletions lead from w
--
-- The laws stand in `proofs/FreeWordLemmas.antt`. That the product of a and a reduced b is the
-- reduced form of a ++ b stands in `proofs/DeletionLemmas.antt`.
use Rattle.std.specs.Prelude.{◌≡◌, ◌≢◌, ℕ, Bool, not, ◌==◌, ◌&&◌, if◌then◌else◌, List, [], ◌∷◌, ◌++◌}

-- ---- Generators ----

-- A generator of a free group, or the inverse of one.
pub record Gen : Type 0 where
  pub index : ℕ
  pub negative : Bool

-- The generator of this index, or its inverse.
abbrev pub gen : ℕ → Bool → Gen
gen index negative = record { index = index; negative = negative }

-- The inverse of one generator.
abbrev pub opposite : Gen → Gen
opposite x = gen x.index (not x.negative)

-- ---- Words ----

-- The inverse of a word: of `1 2 -3` it is `3 -2 -1`.
abbrev pub inverse : List Gen → List Gen
inverse [] = []
inverse (x ∷ f) = inverse f ++ (opposite x ∷ [])

-- No two neighbours are inverse to each other: `1 2 -1` is reduced, `2 1 -1` isn't.
abbrev pub IsReduced : List Gen → Type 0
IsReduced [] = Unit {0}
IsReduced (x ∷ []) = Unit {0}
IsReduced (x ∷ (y ∷ f)) = (y ≢ opposite x) × IsReduced (y ∷ f)

-- ---- The product ----

-- Whether the second is the inverse of the first.
unfoldable pub cancels : Gen → Gen → Bool
cancels x y = (x.index == y.index) && (if x.negative then not y.negative else y.negative)

-- One generator times a word: of `1` and `2 3` it is `1 2 3`, of `1` and `-1 3` it is `3`.
abbrev pub put : Gen → List Gen → List Gen
put x [] = x ∷ []
put x (y ∷ f) = if cancels x y then f else x ∷ (y ∷ f)

-- The product: of `1 2` and `-2 3` it is `1 3`. It is reduced where the second word is.
abbrev pub product : List Gen → List Gen → List Gen
product [] f = f
product (x ∷ a) f = put x (product a f)

-- ---- Deletions ----

-- Two neighbours that are inverse to each other are deleted.
pub data DeletesOne (u v : List Gen) : Type 0 where
  at_pair : (before after : List Gen) (x : Gen) → u ≡ before ++ (x ∷ (opposite x ∷ after))
      → v ≡ before ++ after → DeletesOne u v

-- Deletions one after another lead from the first word to the second.
pub data Deletes : List Gen → List Gen → Type 0 where
  no_more : {u : List Gen} → Deletes u u
  one_more : {u v w : List Gen} → DeletesOne u v → Deletes v w → Deletes u w

-- f is the only reduced word to which deletions lead from w.
pub record IsReducedForm (w f : List Gen) : Type 0 where
  pub reduced : IsReduced f
  pub reached : Deletes w f
  pub only : (g : List Gen) → Deletes w g → IsReduced g → g ≡ f
