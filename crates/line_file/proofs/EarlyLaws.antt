-- Laws of early refusals.
--
-- What is held of some bytes is a refusal exactly where they have it early (`held_of-IsEarlyRefusal`,
-- `IsEarlyRefusal-held_of`).
use Rattle.std.proofs.Common.{◌≡◌, ℕ, ◌<◌, ◌⊎◌, Bool, true, false, cond, ltb, List, [], ◌∷◌, ◌++◌, length, Option, Some, None, Result, Err, inl, inr, refl, sym, ap, ◌∙◌, arith}
use Rattle.std.proofs.lemmas.Bool.{ltb-true, lt-ltb}
use Rattle.wb_base.specs.Streams.{one_more}
use Rattle.wb_base.specs.Lines.{cut}
use Rattle.wb_base.proofs.PartLemmas.{Some-injective}
use Rattle.line_file.specs.Formats.{Format, ended, walk_on, walked, checked_of}
use Rattle.line_file.specs.FirstRefusal.{AreKept, IsRefused, IsSettled, IsEarlyRefusal}
use Rattle.line_file.specs.Pieces.{is_reading, was_refused, held_behind, held_by, held_of, held_from, finished}
use Rattle.line_file.proofs.WalkLemmas.{walked_more, walked-append, line_behind, AreKept-walked}
use Rattle.line_file.proofs.RefusalLaws.{checked_of-IsFirstRefusal}
use Rattle.line_file.proofs.PieceLaws.{finished-held_of}

-- behind lines that are kept is held what is held of the others
held_of-kept
    : {D W C : Type 0} (f : Format D W C) (bytes : List ℕ) (before others : List (List ℕ)) (last : D)
    → (cut bytes).0 ≡ before ++ others
    → AreKept f f.start before last
    → held_of f bytes ≡ held_from f (line_behind 1 (length before)) last (others, (cut bytes).1)
unfolding held_of
held_of-kept f bytes before others last lines kept =
    ap (λ ls. held_by f (walked f 1 f.start ls) (cut bytes).1) lines
    ∙ ap (λ w. held_by f w (cut bytes).1) (walked-append f 1 f.start before others)
    ∙ ap (λ w. held_by f (walked_more f w others) (cut bytes).1)
    (AreKept-walked f 1 f.start before last (omega arith) kept)

-- of bytes that no LF ends a refusal that is settled is held
held_behind-settled
    : {D W C : Type 0} (f : Format D W C) (o : Option C) (k : ℕ) (now : D) (rest : List ℕ) (why : W)
    → ended f o rest ≡ Err why
    → ((claim : C) × (o ≡ Some claim)) ⊎ (f.most < length rest)
    → held_behind f o k now rest ≡ was_refused k why
held_behind-settled f (Some c) k now [] why refused settled = absurd (cc)
held_behind-settled {W = W} {C = C} f (Some c) k now (byte ∷ rest) why refused settled =
    ap (was_refused k) (cause refused)
  where
    cause : {v w : W} → ◌≡◌ {A = Result C W} (Err v) (Err w) → v ≡ w
    cause is = cc
held_behind-settled f None k now rest why refused (inl (claim, passed)) = absurd (cc)
held_behind-settled {D} {W} {C} f None k now rest why refused (inr long) =
    go (ltb f.most (length rest)) (lt-ltb _ _ long) refused
  where
    cause : {v w : W} → ◌≡◌ {A = Result C W} (Err v) (Err w) → v ≡ w
    cause is = cc

    go
        : (test : Bool)
        → test ≡ true
        → ◌≡◌ {A = Result C W} (cond test (Err f.long) (Err f.truncated)) (Err why)
        → cond test (was_refused k f.long) (is_reading k now rest) ≡ was_refused k why
    go true is refused = ap (was_refused k) (cause refused)
    go false is refused = absurd (cc)

-- and one that is held is settled
settled-held_behind
    : {D W C : Type 0} (f : Format D W C) (o : Option C) (k : ℕ) (now : D) (rest : List ℕ) (m : ℕ) (why : W)
    → held_behind f o k now rest ≡ was_refused m why
    → ((claim : C) × (o ≡ Some claim)) ⊎ (f.most < length rest)
settled-held_behind f (Some c) k now rest m why held = inl (c, refl)
settled-held_behind {D} {W} f None k now rest m why held = inr (go (ltb f.most (length rest)) refl held)
  where
    go
        : (test : Bool)
        → ltb f.most (length rest) ≡ test
        → cond test (was_refused k f.long) (is_reading k now rest) ≡ was_refused m why
        → f.most < length rest
    go true is held = ltb-true _ _ is
    go false is held = absurd (cc)

-- a refusal of what is left is held where it is settled
held_from-settled
    : {D W C : Type 0} (f : Format D W C) (k : ℕ) (now : D) (ls : List (List ℕ)) (rest : List ℕ) (why : W)
    → IsRefused f now ls rest why
    → IsSettled f now ls rest
    → held_from f k now (ls, rest) ≡ was_refused k why
held_from-settled f k now [] rest why refused settled =
    held_behind-settled f (f.passed now) k now rest why refused settled
held_from-settled f k now (line ∷ ls) rest why refused settled =
    ap (λ after. held_by f (walk_on k after (λ next. walked f (one_more k) next ls)) rest) refused

-- and only there
settled-held_from
    : {D W C : Type 0} (f : Format D W C) (k : ℕ) (now : D) (ls : List (List ℕ)) (rest : List ℕ) (m : ℕ)
    (why : W)
    → held_from f k now (ls, rest) ≡ was_refused m why
    → IsSettled f now ls rest
settled-held_from f k now [] rest m why held =
    settled-held_behind f (f.passed now) k now rest m why held
settled-held_from f k now (line ∷ ls) rest m why held = tt

-- a refusal that is held of some bytes is early
pub held_of-IsEarlyRefusal
    : {D W C : Type 0} (f : Format D W C) (bytes : List ℕ) (k : ℕ) (why : W)
    → held_of f bytes ≡ was_refused k why
    → IsEarlyRefusal f bytes k why
held_of-IsEarlyRefusal f bytes k why held =
    let file : checked_of f bytes ≡ Err (k, why)
    = Some-injective (sym (finished-held_of f bytes) ∙ ap (finished f) held) in
    let first = checked_of-IsFirstRefusal f bytes k why file in
    record {
      first = first;
      settled = settled-held_from f _ first.last first.others (cut bytes).1 k why
          (sym (held_of-kept f bytes first.before first.others first.last first.lines first.kept) ∙ held);
    }

-- and one that is early is held
pub IsEarlyRefusal-held_of
    : {D W C : Type 0} (f : Format D W C) (bytes : List ℕ) (k : ℕ) (why : W)
    → IsEarlyRefusal f bytes k why
    → held_of f bytes ≡ was_refused k why
IsEarlyRefusal-held_of f bytes k why early =
    let first = early.first in
    let number : line_behind 1 (length first.before) ≡ k = omega (arith, first.number) in
    held_of-kept f bytes first.before first.others first.last first.lines first.kept
    ∙ held_from-settled f _ first.last first.others (cut bytes).1 why first.refused early.settled
    ∙ ap (λ k. was_refused k why) number
