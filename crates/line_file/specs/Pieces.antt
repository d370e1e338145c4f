-- Files whose bytes come in pieces.
--
-- What a checker holds is a function of the bytes that came, and not of the pieces in which they did: what is
-- due behind their lines, with the bytes behind the last LF, which may begin a line; or the refusal, as soon
-- as it is early (`IsEarlyRefusal` in `FirstRefusal.antt`).
-- Source: this project's own.
--
--   Held                  what a checker may hold: it is reading, it has refused, or memory ran out
--   held_of f bytes       what is held of these bytes
--   fed f held piece      what a piece makes of what is held
--   finished f held       what a file claims of which this is held at its end, or its first refusal
--   length_held held      how many bytes are held of a line that isn't ended
--   Comes new held        this is held, unless memory ran out
--   StandsFor f held bytes  what is held is what is held of these bytes
use Rattle.std.specs.Prelude.{◌≡◌, ◌⊎◌, ℕ, nat_lt, if◌then◌else◌, List, [], ◌∷◌, ◌++◌, length, Option, Some, None, Result, Ok, Err}
use Rattle.wb_base.specs.Lines.{cut}
use Rattle.line_file.specs.Formats.{Format, at_end, at_line, walked}

-- The number of the line that is due and what was read of it, a refused line and its cause, or neither.
pub data Held (D W : Type 0) : Type 0 where
  is_reading : ℕ → D → List ℕ → Held D W
  was_refused : ℕ → W → Held D W
  ran_out : Held D W

-- What is held where all lines were kept, of the bytes behind the last LF: behind the last line there may be
-- none, and else at most as many as a line may have.
abbrev pub held_behind : {D W C : Type 0} → Format D W C → Option C → ℕ → D → List ℕ → Held D W
held_behind f (Some claim) k now [] = is_reading k now []
held_behind f (Some claim) k now (byte ∷ rest) = was_refused k f.extra
held_behind f None k now rest =
    if nat_lt f.most (length rest) then was_refused k f.long else is_reading k now rest

-- What is held of lines that were walked and of the bytes behind them.
abbrev pub held_by : {D W C : Type 0} → Format D W C → Result (ℕ × D) (ℕ × W) → List ℕ → Held D W
held_by f (Ok (k, now)) rest = held_behind f (f.passed now) k now rest
held_by f (Err (k, why)) rest = was_refused k why

unfoldable pub held_of : {D W C : Type 0} → Format D W C → List ℕ → Held D W
held_of f bytes = held_by f (walked f 1 f.start (cut bytes).0) (cut bytes).1

-- ---- Pieces ----

-- Lines, and bytes behind them, with bytes in front of all.
abbrev pub onto_front : List ℕ → List (List ℕ) × List ℕ → List (List ℕ) × List ℕ
onto_front front ([], rest) = ([], front ++ rest)
onto_front front (text ∷ texts, rest) = ((front ++ text) ∷ texts, rest)

-- What is held of the lines and the bytes behind them, from line k on.
abbrev pub held_from : {D W C : Type 0} → Format D W C → ℕ → D → List (List ℕ) × List ℕ → Held D W
held_from f k now (ls, rest) = held_by f (walked f k now ls) rest

abbrev pub fed : {D W C : Type 0} → Format D W C → Held D W → List ℕ → Held D W
fed f (is_reading k now rest) piece = held_from f k now (onto_front rest (cut piece))
fed f (was_refused k why) piece = was_refused k why
fed f ran_out piece = ran_out

abbrev pub finished : {D W C : Type 0} → Format D W C → Held D W → Option (Result C (ℕ × W))
finished f (is_reading k now rest) = Some (at_line k (at_end f now rest))
finished f (was_refused k why) = Some (Err (k, why))
finished f ran_out = None

abbrev pub length_held : {D W : Type 0} → Held D W → ℕ
length_held (is_reading k now rest) = length rest
length_held (was_refused k why) = 0
length_held ran_out = 0

-- ---- What a checker holds ----

-- Want of memory is free.
abbrev pub Comes : {D W : Type 0} → Held D W → Held D W → Type 0
Comes new held = (new ≡ held) ⊎ (new ≡ ran_out)

-- A checker that ran out of memory stands for no bytes.
abbrev pub StandsFor : {D W C : Type 0} → Format D W C → Held D W → List ℕ → Type 0
StandsFor f held bytes = held ≡ held_of f bytes
