-- Formats of files of lines, and what a file claims.
--
-- What was read says which line is due. A line that is kept leads to what is due next; the first that isn't
-- is the refusal of the file. A line ends at a byte LF; lines count from 1, up to the greatest of 64 bits.
-- Source: this project's own.
--
--   Format               what is due first, what a line leads to, and what is claimed behind the last line
--   kept_line f now line what is due after any line, or why it can't be kept
--   at_end f now rest    what a file claims that ends so, or why it may not
--   walked f k now ls    what is due behind the lines, which count from k, or the first that isn't kept
--   checked_of f bytes   what a file claims, or the line and the cause of its first refusal
--
-- The first refusal without the walk is `IsFirstRefusal` in `FirstRefusal.antt`.
use Rattle.std.specs.Prelude.{ℕ, nat_lt, Bool, true, false, if◌then◌else◌, List, [], ◌∷◌, length, Option, Some, None, Result, Ok, Err}
use Rattle.wb_base.specs.Streams.{one_more}
use Rattle.wb_base.specs.Lines.{cut}

-- D is what may be due, W are the causes of refusals, C the claims. `kept` is asked only of a line that is
-- due and has at most `most` bytes, without its LF; `passed` has a claim where the last line was passed.
pub record Format (D W C : Type 0) : Type 0 where
  pub start : D
  pub kept : D → List ℕ → Result D W
  pub passed : D → Option C
  pub most : ℕ
  pub extra : W
  pub long : W
  pub truncated : W

-- ---- One line ----

-- What is due after a line: no line may follow the last one, and none may be too long.
abbrev pub kept_unless : {D W C : Type 0} → Format D W C → Option C → Bool → D → List ℕ → Result D W
kept_unless f (Some claim) long now line = Err f.extra
kept_unless f None true now line = Err f.long
kept_unless f None false now line = f.kept now line

abbrev pub kept_line : {D W C : Type 0} → Format D W C → D → List ℕ → Result D W
kept_line f now line = kept_unless f (f.passed now) (nat_lt f.most (length line)) now line

-- ---- The end ----

-- What is claimed behind the last line, where nothing follows it.
abbrev pub ended : {D W C : Type 0} → Format D W C → Option C → List ℕ → Result C W
ended f (Some claim) [] = Ok claim
ended f (Some claim) (byte ∷ rest) = Err f.extra
ended f None rest = if nat_lt f.most (length rest) then Err f.long else Err f.truncated

-- What a file claims that ends with these bytes behind its last LF.
abbrev pub at_end : {D W C : Type 0} → Format D W C → D → List ℕ → Result C W
at_end f now rest = ended f (f.passed now) rest

-- ---- All lines ----

-- A refusal, at its line.
abbrev pub at_line : {X W : Type 0} → ℕ → Result X W → Result X (ℕ × W)
at_line k (Ok x) = Ok x
at_line k (Err why) = Err (k, why)

-- What is due next goes on; a refusal stays.
abbrev pub walk_on : {X D W : Type 0} → ℕ → Result D W → (D → Result X (ℕ × W)) → Result X (ℕ × W)
walk_on k (Ok next) go_on = go_on next
walk_on k (Err why) go_on = Err (k, why)

-- What is due behind the lines from number k on, with the number of the next line.
abbrev pub walked : {D W C : Type 0} → Format D W C → ℕ → D → List (List ℕ) → Result (ℕ × D) (ℕ × W)
walked f k now [] = Ok (k, now)
walked f k now (line ∷ ls) = walk_on k (kept_line f now line) (λ next. walked f (one_more k) next ls)

-- The end behind lines that were walked.
abbrev pub ended_behind : {D W C : Type 0} → Format D W C → Result (ℕ × D) (ℕ × W) → List ℕ → Result C (ℕ × W)
ended_behind f (Ok (k, now)) rest = at_line k (at_end f now rest)
ended_behind f (Err refusal) rest = Err refusal

-- What a file claims, or its first refusal. Its lines count from 1.
unfoldable pub checked_of : {D W C : Type 0} → Format D W C → List ℕ → Result C (ℕ × W)
checked_of f bytes = ended_behind f (walked f 1 f.start (cut bytes).0) (cut bytes).1
