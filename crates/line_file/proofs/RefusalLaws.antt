-- Laws of what a file claims and of its first refusal.
--
-- The check of a file claims something exactly where all its lines are kept (`checked_of-IsClaimed`,
-- `IsClaimed-checked_of`), and refuses it exactly by its first refusal (`checked_of-IsFirstRefusal`,
-- `IsFirstRefusal-checked_of`). So a file has one claim or one first refusal (`IsFirstRefusal-unique`), and
-- none exactly where it claims something (`HasNoRefusal-IsClaimed`).
use Rattle.std.proofs.Common.{◌≡◌, ◌↔◌, ℕ, ◌-◌, ◌^◌, ◌≤◌, Bool, true, false, cond, ltb, List, [], ◌∷◌, ◌++◌, length, Option, Some, None, Result, Ok, Err, refl, sym, ap, ◌∙◌, subst, arith}
use Rattle.wb_base.specs.Streams.{one_more}
use Rattle.wb_base.specs.Lines.{cut}
use Rattle.wb_base.proofs.PartLemmas.{Ok-injective}
use Rattle.line_file.specs.Formats.{Format, kept_line, at_end, at_line, ended, walk_on, walked, ended_behind, checked_of}
use Rattle.line_file.specs.FirstRefusal.{AreKept, IsRefused, IsClaimed, IsFirstRefusal, HasNoRefusal}
use Rattle.line_file.proofs.WalkLemmas.{walked_more, walked-append, line_behind, AreKept-walked}

-- ---- Refusals ----

-- What one refusal is where it is another.
record AreOne {W : Type 0} (k m : ℕ) (w why : W) : Type 0 where
  line : k ≡ m
  cause : w ≡ why

-- one refusal is of one line, for one cause
AreOne-Err
    : {X W : Type 0} (k m : ℕ) (w why : W)
    → ◌≡◌ {A = Result X (ℕ × W)} (Err (k, w)) (Err (m, why))
    → AreOne k m w why
AreOne-Err {W = W} k m w why is =
    let same : ◌≡◌ {A = ℕ × W} (k, w) (m, why) = cc in
    record { line = ap (λ (r : ℕ × W). r.0) same; cause = ap (λ (r : ℕ × W). r.1) same }

-- an end that is refused
at_line-Err
    : {X W : Type 0} (k m : ℕ) (why : W) (r : Result X W)
    → at_line k r ≡ Err (m, why)
    → (k ≡ m) × (r ≡ Err why)
at_line-Err k m why (Ok x) is = absurd (cc)
at_line-Err k m why (Err w) is =
    let one = AreOne-Err k m w why is in (one.line, ap (λ w. Err w) one.cause)

-- an end that is passed
at_line-Ok
    : {X W : Type 0} (k : ℕ) (x : X) (r : Result X W)
    → ◌≡◌ {A = Result X (ℕ × W)} (at_line k r) (Ok x)
    → r ≡ Ok x
at_line-Ok k x (Ok y) is = ap (λ y. Ok y) (Ok-injective _ _ is)
at_line-Ok k x (Err w) is = absurd (cc)

-- ---- The lines of a file ----

-- What is found of lines, from line k on, and of the bytes behind them.
record IsStopped {D W C : Type 0} (f : Format D W C) (k : ℕ) (now : D) (ls : List (List ℕ)) (rest : List ℕ)
    (m : ℕ) (why : W) : Type 0 where
  before : List (List ℕ)
  others : List (List ℕ)
  last : D
  lines : ls ≡ before ++ others
  number : m ≡ line_behind k (length before)
  kept : AreKept f now before last
  refused : IsRefused f last others rest why

record IsPassed {D W C : Type 0} (f : Format D W C) (now : D) (ls : List (List ℕ)) (rest : List ℕ)
    (claim : C) : Type 0 where
  last : D
  kept : AreKept f now ls last
  ended : at_end f last rest ≡ Ok claim

-- the first line of all that is refused
IsStopped-here
    : {D W C : Type 0} (f : Format D W C) (k : ℕ) (now : D) (ls : List (List ℕ)) (rest : List ℕ) (m : ℕ)
    (w why : W)
    → k ≤ 2 ^ 64 - 1
    → IsRefused f now ls rest w
    → AreOne k m w why
    → IsStopped f k now ls rest m why
IsStopped-here f k now ls rest m w why low refused one = record {
  before = [];
  others = ls;
  last = now;
  lines = refl;
  number = omega (arith, one.line);
  kept = refl;
  refused = subst (IsRefused f now ls rest) one.cause refused;
}

-- lines that are refused have a first refusal
walked-IsStopped
    : {D W C : Type 0} (f : Format D W C) (k : ℕ) (now : D) (ls : List (List ℕ)) (rest : List ℕ) (m : ℕ)
    (why : W)
    → k ≤ 2 ^ 64 - 1
    → ended_behind f (walked f k now ls) rest ≡ Err (m, why)
    → IsStopped f k now ls rest m why
walked-IsStopped f k now [] rest m why low is =
    let (line, cause) = at_line-Err k m why (at_end f now rest) is in
    IsStopped-here f k now [] rest m why why low cause (record { line = line; cause = refl })
walked-IsStopped {D} {W} f k now (text ∷ ls) rest m why low is =
    go (kept_line f now text) refl is
    (λ next is. walked-IsStopped f (one_more k) next ls rest m why (omega arith) is)
  where
    go
        : (after : Result D W)
        → kept_line f now text ≡ after
        → ended_behind f (walk_on k after (λ next. walked f (one_more k) next ls)) rest ≡ Err (m, why)
        → ((next : D) → ended_behind f (walked f (one_more k) next ls) rest ≡ Err (m, why)
        → IsStopped f (one_more k) next ls rest m why)
        → IsStopped f k now (text ∷ ls) rest m why
    go (Ok next) after is others =
        let more = others next is in
        record {
          before = text ∷ more.before;
          others = more.others;
          last = more.last;
          lines = ap (λ ls. text ∷ ls) more.lines;
          number = omega (arith, more.number);
          kept = (next, after, more.kept);
          refused = more.refused;
        }
    go (Err w) after is others =
        IsStopped-here f k now (text ∷ ls) rest m w why low after (AreOne-Err k m w why is)

-- lines that claim something are all kept
walked-IsPassed
    : {D W C : Type 0} (f : Format D W C) (k : ℕ) (now : D) (ls : List (List ℕ)) (rest : List ℕ) (claim : C)
    → ended_behind f (walked f k now ls) rest ≡ Ok claim
    → IsPassed f now ls rest claim
walked-IsPassed f k now [] rest claim is =
    record { last = now; kept = refl; ended = at_line-Ok k claim (at_end f now rest) is }
walked-IsPassed {D} {W} f k now (text ∷ ls) rest claim is =
    go (kept_line f now text) refl is
    (λ next is. walked-IsPassed f (one_more k) next ls rest claim is)
  where
    go
        : (after : Result D W)
        → kept_line f now text ≡ after
        → ended_behind f (walk_on k after (λ next. walked f (one_more k) next ls)) rest ≡ Ok claim
        → ((next : D) → ended_behind f (walked f (one_more k) next ls) rest ≡ Ok claim
        → IsPassed f next ls rest claim)
        → IsPassed f now (text ∷ ls) rest claim
    go (Ok next) after is others =
        let more = others next is in
        record { last = more.last; kept = (next, after, more.kept); ended = more.ended }
    go (Err w) after is others = absurd (cc)

-- a refusal of what is left is one
IsRefused-walked
    : {D W C : Type 0} (f : Format D W C) (k : ℕ) (now : D) (ls : List (List ℕ)) (rest : List ℕ) (why : W)
    → IsRefused f now ls rest why
    → ended_behind f (walked f k now ls) rest ≡ Err (k, why)
IsRefused-walked f k now [] rest why refused = ap (at_line k) refused
IsRefused-walked f k now (text ∷ ls) rest why refused =
    ap (λ after. ended_behind f (walk_on k after (λ next. walked f (one_more k) next ls)) rest) refused

-- ---- A whole file ----

-- a file that claims something has all its lines kept
pub checked_of-IsClaimed
    : {D W C : Type 0} (f : Format D W C) (bytes : List ℕ) (claim : C)
    → checked_of f bytes ≡ Ok claim
    → IsClaimed f bytes claim
unfolding checked_of
checked_of-IsClaimed {D} {W} {C} f bytes claim is =
    let passed = walked-IsPassed f 1 f.start (cut bytes).0 (cut bytes).1 claim is in
    let (none, last) = go (f.passed passed.last) (cut bytes).1 passed.ended in
    record { last = passed.last; kept = passed.kept; ended = none; passed = last }
  where
    unfinished
        : (long : Bool)
        → ◌≡◌ {A = Result C W} (cond long (Err f.long) (Err f.truncated)) (Ok claim)
        → ⊥
    unfinished true is = cc
    unfinished false is = cc

    go : (o : Option C) (rest : List ℕ) → ended f o rest ≡ Ok claim → (rest ≡ []) × (o ≡ Some claim)
    go (Some c) [] is = (refl, ap (λ c. Some c) (Ok-injective _ _ is))
    go (Some c) (byte ∷ rest) is = absurd (cc)
    go None rest is = absurd (unfinished (ltb f.most (length rest)) is)

-- a file whose lines are all kept claims what is passed behind them
pub IsClaimed-checked_of
    : {D W C : Type 0} (f : Format D W C) (bytes : List ℕ) (claim : C)
    → IsClaimed f bytes claim
    → checked_of f bytes ≡ Ok claim
unfolding checked_of
IsClaimed-checked_of f bytes claim claimed =
    ap (λ w. ended_behind f w (cut bytes).1)
    (AreKept-walked f 1 f.start (cut bytes).0 claimed.last (omega arith) claimed.kept)
    ∙ ap (at_line (line_behind 1 (length (cut bytes).0)))
    (ap (at_end f claimed.last) claimed.ended ∙ ap (λ o. ended f o []) claimed.passed)

-- a file that is refused is refused first there
pub checked_of-IsFirstRefusal
    : {D W C : Type 0} (f : Format D W C) (bytes : List ℕ) (k : ℕ) (why : W)
    → checked_of f bytes ≡ Err (k, why)
    → IsFirstRefusal f bytes k why
unfolding checked_of
checked_of-IsFirstRefusal f bytes k why is =
    let stopped = walked-IsStopped f 1 f.start (cut bytes).0 (cut bytes).1 k why (omega arith) is in
    record {
      before = stopped.before;
      others = stopped.others;
      last = stopped.last;
      lines = stopped.lines;
      number = omega (arith, stopped.number);
      kept = stopped.kept;
      refused = stopped.refused;
    }

-- what is refused first is refused
pub IsFirstRefusal-checked_of
    : {D W C : Type 0} (f : Format D W C) (bytes : List ℕ) (k : ℕ) (why : W)
    → IsFirstRefusal f bytes k why
    → checked_of f bytes ≡ Err (k, why)
unfolding checked_of
IsFirstRefusal-checked_of f bytes k why first =
    let same : line_behind 1 (length first.before) ≡ k = omega (arith, first.number) in
    ap (λ ls. ended_behind f (walked f 1 f.start ls) (cut bytes).1) first.lines
    ∙ ap (λ w. ended_behind f w (cut bytes).1) (walked-append f 1 f.start first.before first.others)
    ∙ ap (λ w. ended_behind f (walked_more f w first.others) (cut bytes).1)
    (AreKept-walked f 1 f.start first.before first.last (omega arith) first.kept)
    ∙ IsRefused-walked f (line_behind 1 (length first.before)) first.last first.others (cut bytes).1 why
    first.refused
    ∙ ap (λ k. Err (k, why)) same

-- a file has one first refusal at most
pub IsFirstRefusal-unique
    : {D W C : Type 0} (f : Format D W C) (bytes : List ℕ) (k m : ℕ) (w why : W)
    → IsFirstRefusal f bytes k w
    → IsFirstRefusal f bytes m why
    → (k ≡ m) × (w ≡ why)
IsFirstRefusal-unique {D} {W} {C} f bytes k m w why first second =
    let same : ◌≡◌ {A = Result C (ℕ × W)} (Err (k, w)) (Err (m, why))
    = sym (IsFirstRefusal-checked_of f bytes k w first) ∙ IsFirstRefusal-checked_of f bytes m why second in
    let one = AreOne-Err k m w why same in (one.line, one.cause)

-- a file has no refusal exactly where it claims something
pub HasNoRefusal-IsClaimed
    : {D W C : Type 0} (f : Format D W C) (bytes : List ℕ)
    → HasNoRefusal f bytes ↔ ((claim : C) × IsClaimed f bytes claim)
HasNoRefusal-IsClaimed {D} {W} {C} f bytes = (go (checked_of f bytes) refl, none)
  where
    go
        : (file : Result C (ℕ × W))
        → checked_of f bytes ≡ file
        → HasNoRefusal f bytes
        → (claim : C) × IsClaimed f bytes claim
    go (Ok claim) is free = (claim, checked_of-IsClaimed f bytes claim is)
    go (Err (k, why)) is free = absurd (free k why (checked_of-IsFirstRefusal f bytes k why is))

    none : (claim : C) × IsClaimed f bytes claim → HasNoRefusal f bytes
    none (claim, claimed) = λ k why first.
        let claims = IsClaimed-checked_of f bytes claim claimed in
        let refused = IsFirstRefusal-checked_of f bytes k why first in
        cc
