-- Laws of texts that are joined: those of some items, with one space between them.
--
-- They are the text of the first item and those of the others, each behind a space (`join-cons`), which is
-- how they are written.
use Rattle.std.proofs.Common.{◌≡◌, ℕ, ◌-◌, ◌<◌, ◌≤◌, List, [], ◌∷◌, ◌++◌, length, take, drop, get_or, map, flat_map, refl, ap, sym, arith}
use Rattle.std.specs.List.{join_with_byte}
use Rattle.std.proofs.lemmas.List.{append-nil, take_rest, nil_from_length}

module _ {X : Type 0} (text : X → List ℕ) where
  -- The texts of some items, with one space between them.
  abbrev pub joined : List X → List ℕ
  joined xs = join_with_byte 32 (map text xs)

  -- The text of an item, behind a space.
  abbrev pub spaced : X → List ℕ
  spaced x = 32 ∷ text x

  -- the first item and the others, each behind a space
  pub join-cons : (x : X) (xs : List X) → joined (x ∷ xs) ≡ text x ++ flat_map spaced xs
  join-cons x [] = sym (append-nil (text x))
  join-cons x (y ∷ xs) = ap (λ more. text x ++ (32 ∷ more)) (join-cons y xs)

  -- the same of items with a first one, by places
  pub join-first
      : (xs : List X) (x : X)
      → 1 ≤ length xs
      → x ≡ get_or xs 0 x
      → joined xs ≡ text x ++ flat_map spaced (take (length xs - 1) (drop 1 xs))
  join-first [] x some is = absurd (omega arith)
  join-first (y ∷ xs) x some is = rw (take_rest (y ∷ xs) 1, is) (join-cons y xs)

  -- no item has no bytes
  pub join-empty : (xs : List X) → length xs < 1 → joined xs ≡ []
  join-empty xs none = rw (nil_from_length xs (omega arith)) refl
