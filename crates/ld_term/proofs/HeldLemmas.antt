-- Heights in place of terms: what the reader does is what the automaton does.
use Rattle.std.proofs.Common.{◌≡◌, ℕ, ◌+◌, ◌-◌, ◌^◌, min, max, Bool, true, false, List, [], ◌∷◌, ◌++◌, Option, Some, None, refl, ap, arith, sym}
use Rattle.std.proofs.lemmas.List.{same_from_push}
use Rattle.ld_term.specs.Written.{Written, leaf, named, times}
use Rattle.ld_term.specs.Tokens.{open_bracket, close_bracket, star, variable, name}
use Rattle.ld_term.specs.Automaton.{State, expecting, holding}
use Rattle.ld_term.specs.Held.{kept_height, left_height, outer_heights, IsHeld, Moves}
use Rattle.wb_base.proofs.PartLemmas.{Some-injective}
use Rattle.std.proofs.lemmas.Option.{none-some}

-- no list with a last element is empty
snoc_nil : {X : Type 0} (xs : List X) (x : X) → xs ++ (x ∷ []) ≡ [] → ⊥
snoc_nil [] x e = cc
snoc_nil (y ∷ xs) x e = cc

-- ---- Moves ----

-- a bracket opens a level
pub moves-open
    : (strict : Bool) (s : State) (left : Option ℕ) (outer : List (Option ℕ))
    → IsHeld None left outer s
    → Moves strict open_bracket s true None None (outer ++ (left ∷ []))
moves-open strict (expecting k ks) left outer held =
    (expecting None (k ∷ ks), refl, (refl, refl, rw (held.1, held.2) refl))
moves-open strict (holding t k ks) left outer held = absurd (none-some _ held.0)

-- the variable is an atom
pub moves-variable
    : (strict : Bool) (s : State) (left : Option ℕ) (outer : List (Option ℕ))
    → IsHeld None left outer s
    → Moves strict variable s true (Some 0) left outer
moves-variable strict (expecting k ks) left outer held =
    (holding leaf k ks, refl, (refl, held.1, held.2))
moves-variable strict (holding t k ks) left outer held = absurd (none-some _ held.0)

-- a name is an atom
pub moves-name
    : (strict : Bool) (bytes : List ℕ) (place : ℕ) (s : State) (left : Option ℕ) (outer : List (Option ℕ))
    → IsHeld None left outer s
    → Moves strict (name bytes place) s true (Some 0) left outer
moves-name strict bytes place (expecting k ks) left outer held =
    (holding (named bytes place) k ks, refl, (refl, held.1, held.2))
moves-name strict bytes place (holding t k ks) left outer held = absurd (none-some _ held.0)

-- a star stands behind a left part
pub moves-star
    : (strict : Bool) (s : State) (height : ℕ) (outer : List (Option ℕ))
    → IsHeld (Some height) None outer s
    → (strict ≡ true → outer ≡ [] → ⊥)
    → Moves strict star s true None (Some height) outer
moves-star strict (expecting k ks) height outer held loose = absurd (none-some _ (sym held.0))
moves-star strict (holding t (Some a) ks) height outer held loose = absurd (none-some _ held.1)
moves-star true (holding t None []) height outer held loose = absurd (loose refl held.2)
moves-star false (holding t None []) height outer held loose =
    (expecting (Some t) [], refl, (refl, held.0, held.2))
moves-star true (holding t None (k ∷ ks)) height outer held loose =
    (expecting (Some t) (k ∷ ks), refl, (refl, held.0, held.2))
moves-star false (holding t None (k ∷ ks)) height outer held loose =
    (expecting (Some t) (k ∷ ks), refl, (refl, held.0, held.2))

-- the height of a product
kept-times
    : (a b : Written) (left height : ℕ)
    → left ≡ kept_height a
    → height ≡ kept_height b
    → min (max left height + 1) (2 ^ 64 - 1) ≡ kept_height (times a b)
kept-times a b left height one two = omega arith

-- a bracket closes a level
pub moves-close
    : (strict : Bool) (s : State) (height left : ℕ) (k : Option ℕ) (outer : List (Option ℕ))
    → IsHeld (Some height) (Some left) (outer ++ (k ∷ [])) s
    → Moves strict close_bracket s true (Some (min (max left height + 1) (2 ^ 64 - 1))) k outer
moves-close strict (expecting j js) height left k outer held = absurd (none-some _ (sym held.0))
moves-close strict (holding t None js) height left k outer held = absurd (none-some _ (sym held.1))
moves-close strict (holding t (Some a) []) height left k outer held = absurd (snoc_nil outer k held.2)
moves-close strict (holding t (Some a) (j ∷ js)) height left k outer held =
    let (front, last) = same_from_push outer (outer_heights js) k (left_height j) held.2 in (
      holding (times a t) j js,
      refl,
      (ap Some (kept-times a t left height (Some-injective held.1) (Some-injective held.0)), last, front),
    )
