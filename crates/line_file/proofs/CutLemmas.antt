-- Laws of the whole lines of some bytes.
--
-- A text without LF goes in front of what is cut behind it (`cut-onto_front`), and where an LF follows it, it
-- is the first line (`cut-line`). The rest has no LF (`rest-no_lf`), so bytes that follow go on from it
-- (`cut-append`).
use Rattle.std.proofs.Common.{◌≡◌, ℕ, suc, zero, Bool, true, false, cond, eqb, List, [], ◌∷◌, ◌++◌, ap, refl, sym, ◌∙◌, arith}
use Rattle.std.proofs.lemmas.Bool.{eqb-false}
use Rattle.std.proofs.lemmas.List.{append-nil}
use Rattle.wb_base.specs.Lines.{onto_line, cut, HasNoLf}
use Rattle.wb_base.proofs.LineLemmas.{cut-cons}
use Rattle.line_file.specs.Pieces.{onto_front}

-- ---- Bytes that follow ----

-- The lines of bytes that follow others go on from the rest of these.
abbrev pub onto_lines : List (List ℕ) → List (List ℕ) × List ℕ → List (List ℕ) × List ℕ
onto_lines ls (more, rest) = (ls ++ more, rest)

-- the rest has no LF
pub rest-no_lf : (bytes : List ℕ) → HasNoLf (cut bytes).1
rest-no_lf [] = λ k below. absurd (omega arith)
rest-no_lf (b ∷ bytes) = go (eqb b 10) refl (cut bytes) (rest-no_lf bytes)
  where
    go
        : (lf : Bool)
        → eqb b 10 ≡ lf
        → (parts : List (List ℕ) × List ℕ)
        → HasNoLf parts.1
        → HasNoLf (cond lf ([] ∷ parts.0, parts.1) (onto_line b parts)).1
    go true test parts none = none
    go false test (l ∷ ls, rest) none = none
    go false test ([], rest) none = in_front
      where
        in_front : HasNoLf (b ∷ rest)
        in_front zero below = eqb-false b 10 test
        in_front (suc k) below = none k (omega arith)

-- no bytes in front change nothing
pub onto_front-none : (parts : List (List ℕ) × List ℕ) → onto_front [] parts ≡ parts
onto_front-none ([], rest) = refl
onto_front-none (l ∷ ls, rest) = refl

-- a text without LF goes in front of what is cut behind it
pub cut-onto_front
    : (text bytes : List ℕ)
    → HasNoLf text
    → cut (text ++ bytes) ≡ onto_front text (cut bytes)
cut-onto_front [] bytes none = sym (onto_front-none (cut bytes))
cut-onto_front (b ∷ text) bytes none =
    cut-cons b (text ++ bytes) (none 0 (omega arith))
    ∙ ap (onto_line b) (cut-onto_front text bytes (λ k below. none (suc k) (omega arith)))
    ∙ one_more (cut bytes)
  where
    one_more
        : (parts : List (List ℕ) × List ℕ)
        → onto_line b (onto_front text parts) ≡ onto_front (b ∷ text) parts
    one_more ([], rest) = refl
    one_more (l ∷ ls, rest) = refl

-- a text without LF is the first line where an LF follows it
pub cut-line
    : (text more : List ℕ)
    → HasNoLf text
    → cut (text ++ 10 ∷ more) ≡ (text ∷ (cut more).0, (cut more).1)
cut-line text more none =
    cut-onto_front text (10 ∷ more) none
    ∙ ap (λ first. (first ∷ (cut more).0, (cut more).1)) (append-nil text)

-- bytes that follow others are cut from the rest of these on
pub cut-append
    : (front back : List ℕ)
    → cut (front ++ back) ≡ onto_lines (cut front).0 (cut ((cut front).1 ++ back))
cut-append [] back = refl
cut-append (b ∷ front) back = go (eqb b 10) refl (cut front) (cut-append front back)
  where
    go
        : (lf : Bool)
        → eqb b 10 ≡ lf
        → (parts : List (List ℕ) × List ℕ)
        → cut (front ++ back) ≡ onto_lines parts.0 (cut (parts.1 ++ back))
        → cond lf ([] ∷ (cut (front ++ back)).0, (cut (front ++ back)).1) (onto_line b (cut (front ++ back)))
        ≡ onto_lines (cond lf ([] ∷ parts.0, parts.1) (onto_line b parts)).0
        (cut ((cond lf ([] ∷ parts.0, parts.1) (onto_line b parts)).1 ++ back))
    go true test (ls, rest) is = ap (λ (all : List (List ℕ) × List ℕ). ([] ∷ all.0, all.1)) is
    go false test (l ∷ ls, rest) is = ap (onto_line b) is
    go false test ([], rest) is = ap (onto_line b) is ∙ sym (cut-cons b (rest ++ back) (eqb-false b 10 test))
