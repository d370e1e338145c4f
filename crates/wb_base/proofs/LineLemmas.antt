-- Laws of the lines of a text.
--
-- Texts without LF that stand as lines one after the other are its lines (`lines_of-flat_map`). There are no
-- more lines than bytes (`length-lines_of`).
use Rattle.std.proofs.Common.{◌≡◌, ◌≢◌, ℕ, suc, zero, ◌+◌, ◌<◌, ◌≤◌, Bool, true, false, cond, nat_eq, List, [], ◌∷◌, ◌++◌, length, get_or, take, drop, ap, refl, ◌∙◌, arith}
use Rattle.std.specs.List.{AllByRecursion, flat_map, onto_first}
use Rattle.std.proofs.lemmas.Bool.{eq-eqb, ne_eqb}
use Rattle.wb_base.specs.Lines.{lines_of, onto_line, cut, line, HasNoLf}

-- a byte that is no LF goes in front of the first line
pub lines_of-cons : (b : ℕ) (bytes : List ℕ) → b ≢ 10 → lines_of (b ∷ bytes) ≡ onto_first b (lines_of bytes)
lines_of-cons b bytes other = rw (ne_eqb b 10 other) refl

-- the first line ends at the first LF
pub lines_of-found
    : (bytes : List ℕ) (i : ℕ)
    → i < length bytes
    → get_or bytes i 0 ≡ 10
    → ((k : ℕ) → k < i → get_or bytes k 0 ≢ 10)
    → lines_of bytes ≡ take i bytes ∷ lines_of (drop (suc i) bytes)
lines_of-found [] i within found none = absurd (omega arith)
lines_of-found (b ∷ bytes) zero within found none = rw found refl
lines_of-found (b ∷ bytes) (suc i) within found none =
    lines_of-cons b bytes (none 0 (omega arith))
    ∙ ap (onto_first b)
    (lines_of-found bytes i (omega arith) found (λ k below. none (suc k) (omega arith)))

-- with no LF all bytes are one line
pub lines_of-last
    : (bytes : List ℕ)
    → 0 < length bytes
    → ((k : ℕ) → k < length bytes → get_or bytes k 0 ≢ 10)
    → lines_of bytes ≡ bytes ∷ []
lines_of-last [] some none = absurd (omega arith)
lines_of-last (b ∷ []) some none = lines_of-cons b [] (none 0 (omega arith))
lines_of-last (b ∷ c ∷ bytes) some none =
    lines_of-cons b (c ∷ bytes) (none 0 (omega arith))
    ∙ ap (onto_first b) (lines_of-last (c ∷ bytes) (omega arith) (λ k below. none (suc k) (omega arith)))

-- ---- Whole lines ----

-- an LF ends a whole line
pub cut-lf : (b : ℕ) (bytes : List ℕ) → b ≡ 10 → cut (b ∷ bytes) ≡ ([] ∷ (cut bytes).0, (cut bytes).1)
cut-lf b bytes is = rw (eq-eqb b 10 is) refl

-- a byte that is no LF goes in front
pub cut-cons : (b : ℕ) (bytes : List ℕ) → b ≢ 10 → cut (b ∷ bytes) ≡ onto_line b (cut bytes)
cut-cons b bytes other = rw (ne_eqb b 10 other) refl

-- ---- Texts as lines ----

-- a text without LF that stands in front as a line is the first line
lines_of-line
    : (text rest : List ℕ)
    → HasNoLf text
    → lines_of (line text ++ rest) ≡ text ∷ lines_of rest
lines_of-line [] rest none = refl
lines_of-line (b ∷ text) rest none =
    lines_of-cons b (line text ++ rest) (none 0 (omega arith))
    ∙ ap (onto_first b) (lines_of-line text rest (λ k below. none (suc k) (omega arith)))

-- texts without LF that stand one after the other, each as a line, are the lines
pub lines_of-flat_map
    : (texts : List (List ℕ))
    → AllByRecursion HasNoLf texts
    → lines_of (flat_map line texts) ≡ texts
lines_of-flat_map [] none = refl
lines_of-flat_map (text ∷ texts) none =
    lines_of-line text (flat_map line texts) none.0
    ∙ ap (λ more. text ∷ more) (lines_of-flat_map texts none.1)

-- ---- Their number ----

-- there are no more lines than bytes
pub length-lines_of : (bytes : List ℕ) → length (lines_of bytes) ≤ length bytes
length-lines_of [] = omega arith
length-lines_of (byte ∷ bytes) = by_test (nat_eq byte 10) (length-lines_of bytes)
  where
    first : (lines : List (List ℕ)) → length (onto_first byte lines) ≤ length lines + 1
    first [] = omega arith
    first (line ∷ lines) = omega arith

    by_test : (b : Bool)
        → length (lines_of bytes) ≤ length bytes
        → length (cond b ([] ∷ lines_of bytes) (onto_first byte (lines_of bytes))) ≤ suc (length bytes)
    by_test true few = omega (arith, few)
    by_test false few = omega (arith, few, first (lines_of bytes))
