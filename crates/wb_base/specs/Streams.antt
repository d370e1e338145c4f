-- Streams of bytes: what a call takes from a source or gives to a sink, and what its faults leave.
--
-- A source may tell the bytes that it has left, a sink the bytes that it has taken; None is said of one
-- that doesn't tell. Each has a count of faults, which never falls and stops at the greatest u64.
-- Source: this project's own.
--
--   Rose before now              the count of faults rose, or stands at its greatest value
--   HasCause before now r        the count didn't fall, and where r is Failed it rose
--   CountsErrors before now r    the count rose by one where r is an error, and else stayed
--   TakesFront old new r into    r bytes went from the front of a source to the front of `into`
--   GivesFront old new r text    r bytes of the front of `text` went to the end of a sink
--   WaitsAtMost old new r        of the bytes that went to a sink in this call, at most all wait
--   Puts old new r text          all of `text` went to the end of a sink, or at an error a front of it
--   PutsFront old new text       a front of `text` went to the end of a sink
--   ReadsAll old new bytes       `bytes` are all that a source had left
--   Skips old new n              n bytes went from the front of a source
--   Ends                         a source and a sink, as a run over both sees them: what the one has left and
--                                the other has taken, and their counts
use Rattle.std.specs.Prelude.{◌≡◌, ℕ, ◌+◌, ◌-◌, ◌^◌, ◌<◌, ◌≤◌, min, List, ◌++◌, length, take, Option, Result, MatchResult, OnErr}
use Rattle.std.specs.Io.KnownBytes.{prepend_known, append_known, IsAtEnd}

-- ---- Faults ----

-- One more, up to the greatest u64.
abbrev pub one_more : ℕ → ℕ
one_more n = min (n + 1) (2 ^ 64 - 1)

-- The count rose in a call, or had come to its end.
abbrev pub Rose : ℕ → ℕ → Type 0
Rose before now = one_more before ≤ now

-- A fault is answered only where the count rose in this call.
pub record HasCause {T E : Type 0} (before now : ℕ) (result : Result T E) : Type 0 where
  pub later : before ≤ now
  pub failed : OnErr result (Rose before now)

-- Each error raises the count by one, and nothing else does.
abbrev pub CountsErrors : {T E : Type 0} → ℕ → ℕ → Result T E → Type 0
CountsErrors before now result = MatchResult result (λ _. now ≡ before) (λ _. now ≡ one_more before)

-- ---- Calls of a source and of a sink ----

-- The bytes that were given went from the front of those left; none were given to a buffer with room
-- only at the end; a failed call took nothing.
abbrev pub TakesFront : {E : Type 0} → Option (List ℕ) → Option (List ℕ) → Result ℕ E → List ℕ → Type 0
TakesFront old new result into =
    MatchResult result
    (λ n. (old ≡ prepend_known (take n into) new) × (n ≡ 0 → 0 < length into → IsAtEnd old))
    (λ _. new ≡ old)

-- A front of the text was taken, of at least one byte where there is one; a failed call took nothing.
abbrev pub GivesFront : {E : Type 0} → Option (List ℕ) → Option (List ℕ) → Result ℕ E → List ℕ → Type 0
GivesFront old new result text =
    MatchResult result (λ n. (new ≡ append_known old (take n text)) × (0 < length text → 0 < n))
    (λ _. new ≡ old)

-- How many bytes wait in a sink after it took some.
abbrev pub WaitsAtMost : {E : Type 0} → ℕ → ℕ → Result ℕ E → Type 0
WaitsAtMost old new result = MatchResult result (λ n. new ≤ old + n) (λ _. new ≤ old)

-- ---- Whole texts ----

-- A front of the text was taken, and no other byte.
abbrev pub PutsFront : Option (List ℕ) → Option (List ℕ) → List ℕ → Type 0
PutsFront old new text =
    (front : List ℕ) × (rest : List ℕ) × (text ≡ front ++ rest) × (new ≡ append_known old front)

-- The whole text was taken, or at an error a front of it.
abbrev pub Puts : {T E : Type 0} → Option (List ℕ) → Option (List ℕ) → Result T E → List ℕ → Type 0
Puts old new result text = MatchResult result (λ _. new ≡ append_known old text) (λ _. PutsFront old new text)

-- These bytes were all that was left.
pub record ReadsAll (old new : Option (List ℕ)) (bytes : List ℕ) : Type 0 where
  pub taken : old ≡ prepend_known bytes new
  pub ended : IsAtEnd new

-- Some bytes were taken from the front, this many.
abbrev pub Skips : Option (List ℕ) → Option (List ℕ) → ℕ → Type 0
Skips old new n = (front : List ℕ) × (length front ≡ n) × (old ≡ prepend_known front new)

-- ---- Both ends of a run ----

pub record Ends : Type 0 where
  pub left : Option (List ℕ)
  pub reads : ℕ
  pub calls : ℕ
  pub taken : Option (List ℕ)
  pub waiting : ℕ
  pub writes : ℕ
