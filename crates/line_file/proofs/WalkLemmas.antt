-- Laws of lines that are walked.
--
-- Lines that follow others are walked from what is due behind these (`walked-append`). Lines that
-- are kept lead to the last state (`AreKept-walked`).
use Rattle.std.proofs.Common.{◌≡◌, ℕ, ◌+◌, ◌-◌, ◌^◌, ◌≤◌, min, List, [], ◌∷◌, ◌++◌, length, Result, Ok, Err, refl, ap, ◌∙◌, arith}
use Rattle.wb_base.specs.Streams.{one_more}
use Rattle.line_file.specs.Formats.{Format, kept_line, walk_on, walked}
use Rattle.line_file.specs.FirstRefusal.{AreKept}

-- ---- Lines that follow ----

-- What is due behind further lines.
abbrev pub walked_more
    : {D W C : Type 0}
    → Format D W C
    → Result (ℕ × D) (ℕ × W)
    → List (List ℕ)
    → Result (ℕ × D) (ℕ × W)
walked_more f (Ok (k, now)) ls = walked f k now ls
walked_more f (Err refusal) ls = Err refusal

-- lines that follow others are walked from there
pub walked-append
    : {D W C : Type 0} (f : Format D W C) (k : ℕ) (now : D) (ls more : List (List ℕ))
    → walked f k now (ls ++ more) ≡ walked_more f (walked f k now ls) more
walked-append f k now [] more = refl
walked-append {D} {W} f k now (line ∷ ls) more =
    go (kept_line f now line) (λ next. walked-append f (one_more k) next ls more)
  where
    go
        : (after : Result D W)
        → ((next : D) → walked f (one_more k) next (ls ++ more)
        ≡ walked_more f (walked f (one_more k) next ls) more)
        → walk_on k after (λ next. walked f (one_more k) next (ls ++ more))
        ≡ walked_more f (walk_on k after (λ next. walked f (one_more k) next ls)) more
    go (Ok next) others = others next
    go (Err why) others = refl

-- ---- Kept lines ----

-- The number of the line behind so many, from line k on.
abbrev pub line_behind : ℕ → ℕ → ℕ
line_behind k n = min (k + n) (2 ^ 64 - 1)

-- lines that are kept are walked
pub AreKept-walked
    : {D W C : Type 0} (f : Format D W C) (k : ℕ) (now : D) (ls : List (List ℕ)) (last : D)
    → k ≤ 2 ^ 64 - 1
    → AreKept f now ls last
    → walked f k now ls ≡ Ok (line_behind k (length ls), last)
AreKept-walked {D} {W} f k now [] last low kept =
    let same : k ≡ line_behind k 0 = omega arith in
    ap (λ d. behind k d) kept ∙ ap (λ m. behind m last) same
  where
    behind : ℕ → D → Result (ℕ × D) (ℕ × W)
    behind m d = Ok (m, d)
AreKept-walked {D} {W} f k now (line ∷ ls) last low (next, first, kept) =
    let same : line_behind (one_more k) (length ls) ≡ line_behind k (length (line ∷ ls)) = omega arith in
    ap (λ after. walk_on k after (λ next. walked f (one_more k) next ls)) first
    ∙ AreKept-walked f (one_more k) next ls last (omega arith) kept
    ∙ ap (λ m. behind m) same
  where
    behind : ℕ → Result (ℕ × D) (ℕ × W)
    behind m = Ok (m, last)
