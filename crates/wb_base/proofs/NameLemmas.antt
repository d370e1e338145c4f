-- How names lie in memory, and when two are equal.
--
-- Each name lies in 32 bytes in one way (`stored-new`). So the derived comparison, which goes over the 32
-- bytes and the lengths, holds exactly of equal names (`same_name-true`, `same_name-self`), as that of
-- their bytes does (`same_name-bytes`).
use Rattle.std.proofs.Common.{◌&&◌, ◌∙◌, Bool, ◌≡◌, ℕ, ◌-◌, ◌≤◌, nat_lt, true, List, [], ◌∷◌, ◌++◌, length, take, drop, replicate, refl, sym, subst, arith, length-append}
use Rattle.std.proofs.lemmas.List.{take-append-le, length-replicate, drop-replicate}
use Rattle.std.proofs.Math.Seq.{take-length}
use Rattle.std.proofs.lemmas.Bool.{and_parts, and_from, ltb-true, eqb-true, eq-eqb}
use Rattle.std.proofs.lemmas.Bool.Decides.{same_from_decides}
use Rattle.std.proofs.lemmas.Slice.Eq.{bytes_eq-Decides}
use Rattle.std.proofs.Math.Dec.{eqb}
use Rattle.std.specs.Char.{is_ascii_lowercase}
use Rattle.std.specs.Str.{bytes_eq}
use lib.Pointwise.{pointwise, bytes_decides}
use Rattle.wb_base.specs.Names.{is_name, padded, IsStored}

-- a name has at most 32 bytes
pub length-name : (bytes : List ℕ) → is_name bytes ≡ true → length bytes ≤ 32
length-name [] named = omega arith
length-name (first ∷ rest) named =
    let short : nat_lt (length rest) 32 ≡ true =
    (and_parts (is_ascii_lowercase first) (nat_lt (length rest) 32) (and_parts _ _ named).0).1 in
    omega (arith, ltb-true (length rest) 32 short)

-- the bytes are the front of themselves with zeros behind
take-padded : (bytes : List ℕ) → take (length bytes) (padded bytes) ≡ bytes
take-padded bytes =
    rw (take-append-le (length bytes) bytes (replicate (32 - length bytes) 0) (omega arith))
    (take-length bytes)

-- a name and zeros behind it
pub stored-new
    : (bytes : List ℕ)
    → is_name bytes ≡ true
    → IsStored (bytes ++ drop (length bytes) (replicate 32 0)) (length bytes)
stored-new bytes named =
    let short = length-name bytes named in
    let front = take-padded bytes in
    rw (drop-replicate {X = ℕ} (length bytes) 32 0) record {
      within = short;
      whole = rw (length-append, length-replicate) (omega arith);
      name = rw front named;
      unused = rw front refl;
    }

-- ---- Equality ----

-- Whether two names are equal, by their 32 bytes and their lengths.
abbrev pub same_name : List ℕ → List ℕ → Bool
same_name a b = pointwise eqb (padded a) (padded b) && eqb (length a) (length b)

-- names of which that holds are equal
pub same_name-true : (a b : List ℕ) → same_name a b ≡ true → a ≡ b
same_name-true a b same =
    let (bytes, size) = and_parts _ _ same in
    let one : length a ≡ length b = eqb-true (length a) (length b) size in
    let other : padded a ≡ padded b = (bytes_decides (padded a) (padded b)).0 bytes in
    sym (take-padded a) ∙ (λ i. take (one i) (other i)) ∙ take-padded b

-- it holds of a name and itself
pub same_name-self : (a : List ℕ) → same_name a a ≡ true
same_name-self a =
    and_from _ _ ((bytes_decides (padded a) (padded a)).1 refl) (eq-eqb (length a) (length a) refl)

-- so it is the comparison of their bytes
pub same_name-bytes : (a b : List ℕ) → same_name a b ≡ bytes_eq a b
same_name-bytes a b =
    same_from_decides (same_name a b) (bytes_eq a b)
    (same_name-true a b, λ one. subst (λ z. same_name a z ≡ true) one (same_name-self a))
    (bytes_eq-Decides a b)
