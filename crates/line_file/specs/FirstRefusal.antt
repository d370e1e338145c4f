-- What a file claims, and its first refusal, in the words of its lines.
--
-- The lines before the refusal can be kept, one after the other, and it can't, for this cause. Where the
-- lines end with no refusal it is what stands behind the last LF that is refused, if anything is.
-- Source: this project's own.
--
--   AreKept f now ls last          each line is kept, and `last` is due behind them
--   IsRefused f now ls rest why    where `now` is due, the first line that is left isn't kept for this cause;
--                                  where none is left, the file may not end so
--   IsClaimed f bytes claim        all lines of the file are kept, and it claims this behind them
--   IsFirstRefusal f bytes k why   line k of the file is the first that is refused, for this cause
--   HasNoRefusal f bytes           no line of the file is refused
--   IsEarlyRefusal f bytes k why   the first refusal, which no bytes behind these can take back
--
-- It is what `checked_of` says: `checked_of-IsClaimed`, `checked_of-IsFirstRefusal` and their converses in
-- `proofs/RefusalLaws.antt`.
use Rattle.std.specs.Prelude.{◌≡◌, ◌⊎◌, ℕ, ◌+◌, ◌-◌, ◌^◌, ◌<◌, min, List, [], ◌∷◌, ◌++◌, length, Some, Ok, Err}
use Rattle.wb_base.specs.Lines.{cut}
use Rattle.line_file.specs.Formats.{Format, kept_line, at_end}

-- Each line is kept, and the next is looked at by what is then due.
abbrev pub AreKept : {D W C : Type 0} → Format D W C → D → List (List ℕ) → D → Type 0
AreKept f now [] last = now ≡ last
AreKept {D} f now (line ∷ ls) last = (next : D) × (kept_line f now line ≡ Ok next) × AreKept f next ls last

-- What is left of the file can't stand there: its first whole line or, without one, the end.
abbrev pub IsRefused : {D W C : Type 0} → Format D W C → D → List (List ℕ) → List ℕ → W → Type 0
IsRefused f now [] rest why = at_end f now rest ≡ Err why
IsRefused f now (line ∷ ls) rest why = kept_line f now line ≡ Err why

-- All lines are kept, the last one is passed behind them, and nothing follows.
pub record IsClaimed {D W C : Type 0} (f : Format D W C) (bytes : List ℕ) (claim : C) : Type 0 where
  pub last : D
  pub kept : AreKept f f.start (cut bytes).0 last
  pub ended : (cut bytes).1 ≡ []
  pub passed : f.passed last ≡ Some claim

-- Lines count from 1, up to the greatest number of 64 bits.
pub record IsFirstRefusal {D W C : Type 0} (f : Format D W C) (bytes : List ℕ) (k : ℕ)
    (why : W) : Type 0 where
  pub before : List (List ℕ)
  pub others : List (List ℕ)
  pub last : D
  pub lines : (cut bytes).0 ≡ before ++ others
  pub number : k ≡ min (length before + 1) (2 ^ 64 - 1)
  pub kept : AreKept f f.start before last
  pub refused : IsRefused f last others (cut bytes).1 why

-- No line of the file is refused, and it may end so.
abbrev pub HasNoRefusal : {D W C : Type 0} → Format D W C → List ℕ → Type 0
HasNoRefusal {D} {W} f bytes = (k : ℕ) (why : W) → IsFirstRefusal f bytes k why → ⊥

-- Whatever follows, a refusal of a whole line stays; one of bytes that no LF ends yet does where they stand
-- behind the last line, or are more than a line may have.
abbrev pub IsSettled : {D W C : Type 0} → Format D W C → D → List (List ℕ) → List ℕ → Type 0
IsSettled {C = C} f now [] rest = ((claim : C) × (f.passed now ≡ Some claim)) ⊎ (f.most < length rest)
IsSettled f now (line ∷ ls) rest = Unit {0}

-- The first refusal of the bytes, which stays whatever follows them.
pub record IsEarlyRefusal {D W C : Type 0} (f : Format D W C) (bytes : List ℕ) (k : ℕ)
    (why : W) : Type 0 where
  pub first : IsFirstRefusal f bytes k why
  pub settled : IsSettled f first.last first.others (cut bytes).1
