-- Laws of runs of right reversing with limits.
--
-- Turns of a sum are turns after turns (`turns-add`, `rev_after-add`), and a run that has ended stays
-- (`turns-ended`). How a run stands after t turns is one record (`Stands-rev_after`). So a run isn't running
-- after as many turns as it may make steps (`rev_after-ended`), and what its places and its present word are.
use Rattle.std.proofs.Common.{◌≡◌, ℕ, zero, suc, ◌+◌, ◌-◌, ◌<◌, ◌≤◌, ◌==◌, ltb, Bool, true, false, cond, ◌⊎◌, List, [], ◌∷◌, ◌++◌, length, All, Option, Some, None, refl, sym, ap, ◌∙◌, inl, inr, arith, add-zero, add-suc}
use Rattle.std.proofs.lemmas.Bool.{eqb-true, eqb-false, lt-ltb, ltb-false, ltb-true, cond_both}
use Rattle.std.proofs.lemmas.Option.{none-some}
use Rattle.std.proofs.lemmas.List.{length_push}
use Rattle.std.proofs.lemmas.List.Elements.{All-nil, All-push}
use Rattle.braid_word.specs.Words.{Letter}
use Rattle.word_reverse.specs.Corners.{corner_of, turned_at}
use Rattle.word_reverse.specs.RevRuns.{RevState, judged, begun, reversed, turn_by, turn_of, turns, rev_after}
use Rattle.word_reverse.specs.declared.progress.RevProgress.{RevProgress}
use Rattle.word_reverse.specs.declared.progress.RevProgress.TheVariants.{Running, Done, StepsMet, LengthMet}
use Rattle.word_reverse.proofs.CornerLemmas.{IsCorner-within, corner_of-Some}

-- ---- Turns after turns ----

-- turns of a sum
pub turns-add
    : (steps limit a b : ℕ) (s : RevState)
    → turns steps limit (a + b) s ≡ turns steps limit b (turns steps limit a s)
turns-add steps limit a zero s = rw (add-zero a)
turns-add steps limit a (suc b) s =
    rw (add-suc a b) (ap (turn_of steps limit) (turns-add steps limit a b s))

-- more turns of a run
pub rev_after-add
    : (w : List Letter) (steps limit t n : ℕ) (s : RevState)
    → s ≡ rev_after w steps limit t
    → turns steps limit n s ≡ rev_after w steps limit (t + n)
unfolding rev_after
rev_after-add w steps limit t n s is =
    ap (turns steps limit n) is ∙ sym (turns-add steps limit t n (begun w steps limit))

-- a run that has ended doesn't turn, by its progress
turn_by-ended
    : (steps limit : ℕ) (s : RevState) (p : RevProgress)
    → (p ≡ Running → ⊥)
    → turn_by steps limit s p ≡ s
turn_by-ended steps limit s Running ended = absurd (ended refl)
turn_by-ended steps limit s Done ended = refl
turn_by-ended steps limit s StepsMet ended = refl
turn_by-ended steps limit s LengthMet ended = refl

-- a run that has ended stays at a turn
turn_of-ended
    : (steps limit : ℕ) (s : RevState)
    → (s.progress ≡ Running → ⊥)
    → turn_of steps limit s ≡ s
unfolding turn_of
turn_of-ended steps limit s ended = turn_by-ended steps limit s s.progress ended

-- a run that has ended stays
pub turns-ended
    : (steps limit n : ℕ) (s : RevState)
    → (s.progress ≡ Running → ⊥)
    → turns steps limit n s ≡ s
turns-ended steps limit zero s ended = refl
turns-ended steps limit (suc n) s ended =
    ap (turn_of steps limit) (turns-ended steps limit n s ended) ∙ turn_of-ended steps limit s ended

-- ---- What a word's progress says ----

-- a corner is found
abbrev pub HasCorner : List Letter → Type 0
HasCorner w = (p : ℕ) × (corner_of w ≡ Some p)

-- what the progress says of a word that is reached after some steps
pub record Judged (steps made : ℕ) (w : List Letter) (p : RevProgress) : Type 0 where
  pub below : p ≡ Running → made < steps
  pub goes_on : p ≡ Running → HasCorner w
  pub done : p ≡ Done → corner_of w ≡ None
  pub met : p ≡ StepsMet → made ≡ steps
  pub one_left : p ≡ StepsMet → HasCorner w

-- a run that was stopped by the length
Judged-LengthMet : (steps made : ℕ) (w : List Letter) → Judged steps made w LengthMet
Judged-LengthMet steps made w =
    record {
      below = λ e. cc;
      goes_on = λ e. cc;
      done = λ e. cc;
      met = λ e. cc;
      one_left = λ e. cc;
    }

-- a run that is running wasn't stopped by the length
Running-LengthMet : (p : RevProgress) → p ≡ Running → p ≡ LengthMet → ⊥
Running-LengthMet p running stopped = cc

-- a word with a corner
Judged-Some
    : (steps made : ℕ) (w : List Letter) (p : ℕ) (b : Bool)
    → (made == steps) ≡ b
    → corner_of w ≡ Some p
    → made ≤ steps
    → Judged steps made w (cond b StepsMet Running)
Judged-Some steps made w p true same found within =
    record {
      below = λ e. cc;
      goes_on = λ e. cc;
      done = λ e. cc;
      met = λ e. eqb-true made steps same;
      one_left = λ e. (p, found);
    }
Judged-Some steps made w p false other found within =
    let apart = eqb-false made steps other in
    record {
      below = λ e. omega arith;
      goes_on = λ e. (p, found);
      done = λ e. cc;
      met = λ e. cc;
      one_left = λ e. cc;
    }

-- a word by what is found in it
Judged-judged
    : (steps made : ℕ) (w : List Letter) (o : Option ℕ)
    → corner_of w ≡ o
    → made ≤ steps
    → Judged steps made w (judged steps made o)
Judged-judged steps made w None found within =
    record {
      below = λ e. cc;
      goes_on = λ e. cc;
      done = λ e. found;
      met = λ e. cc;
      one_left = λ e. cc;
    }
Judged-judged steps made w (Some p) found within =
    Judged-Some steps made w p (made == steps) refl found within

-- a word that isn't too long goes on
judged-LengthMet : (steps made : ℕ) (o : Option ℕ) → judged steps made o ≡ LengthMet → ⊥
judged-LengthMet steps made None e = cc
judged-LengthMet steps made (Some p) e =
    cond_both (made == steps) _ _ (λ p. p ≡ LengthMet → ⊥) (λ _ f. cc) (λ _ f. cc) e

-- ---- How a run stands ----

-- A place of a step, counted from 1, is in a word of at most this length.
abbrev pub IsWithin : ℕ → ℕ → Type 0
IsWithin limit p = (1 ≤ p) × (p ≤ limit)

-- The first word too long: the run has ended before its first turn.
pub record IsTooLong (w : List Letter) (limit : ℕ) (s : RevState) : Type 0 where
  pub ended : s.progress ≡ LengthMet
  pub no_step : s.places ≡ []
  pub same : s.present ≡ w
  pub long : limit < length w

-- the next word would be too long
abbrev pub NextTooLong : List Letter → ℕ → Type 0
NextTooLong v limit = (p : ℕ) × (corner_of v ≡ Some p) × (limit < length (turned_at v p))

-- a run of w with these limits after t turns
pub record Stands (w : List Letter) (steps limit t : ℕ) (s : RevState) : Type 0 where
  pub within : length s.places ≤ steps
  pub in_step : s.progress ≡ Running → length s.places ≡ t
  pub judgement : Judged steps (length s.places) s.present s.progress
  pub short : (length s.present ≤ limit) ⊎ IsTooLong w limit s
  pub stopped : s.progress ≡ LengthMet → IsTooLong w limit s ⊎ NextTooLong s.present limit
  pub places : All (IsWithin limit) s.places

-- before the first turn, by the length of the word
Stands-begun_by
    : (w : List Letter) (steps limit : ℕ) (b : Bool)
    → ltb limit (length w) ≡ b
    → Stands w steps limit 0 (record {
      progress = cond b LengthMet (judged steps 0 (corner_of w));
      places = [];
      present = w;
    })
Stands-begun_by w steps limit true test =
    let state : RevState = record { progress = LengthMet; places = []; present = w } in
    let long : IsTooLong w limit state
    = record { ended = refl; no_step = refl; same = refl; long = ltb-true _ _ test } in
    record {
      within = omega arith;
      in_step = λ e. cc;
      judgement = Judged-LengthMet steps 0 w;
      short = inr long;
      stopped = λ e. inl long;
      places = All-nil (IsWithin limit);
    }
Stands-begun_by w steps limit false short =
    record {
      within = omega arith;
      in_step = λ e. refl;
      judgement = Judged-judged steps 0 w (corner_of w) refl (omega arith);
      short = inl (ltb-false _ _ short);
      stopped = λ e. absurd (judged-LengthMet steps 0 (corner_of w) e);
      places = All-nil (IsWithin limit);
    }

-- before the first turn
Stands-begun : (w : List Letter) (steps limit : ℕ) → Stands w steps limit 0 (begun w steps limit)
Stands-begun w steps limit = Stands-begun_by w steps limit (ltb limit (length w)) refl

-- a running word is no longer than the limit
short_while_running
    : (w : List Letter) (steps limit t : ℕ) (s : RevState)
    → Stands w steps limit t s
    → s.progress ≡ Running
    → length s.present ≤ limit
short_while_running w steps limit t s h running = elim h.short [
  | inl short ↦ short
  | inr long ↦ let ended = long.ended in absurd (Running-LengthMet _ running ended)
]

-- the next word is too long
Stands-long
    : (w : List Letter) (steps limit t : ℕ) (s : RevState) (p : ℕ)
    → Stands w steps limit t s
    → s.progress ≡ Running
    → corner_of s.present ≡ Some p
    → limit < length (turned_at s.present p)
    → Stands w steps limit (suc t) (record s { progress = LengthMet })
Stands-long w steps limit t s p h running found long =
    record {
      within = h.within;
      in_step = λ e. cc;
      judgement = Judged-LengthMet steps (length s.places) s.present;
      short = inl (short_while_running w steps limit t s h running);
      stopped = λ e. inr (p, found, long);
      places = h.places;
    }

-- the next word isn't too long
Stands-step
    : (w : List Letter) (steps limit t : ℕ) (s : RevState) (p : ℕ) (next : List Letter)
    → Stands w steps limit t s
    → s.progress ≡ Running
    → corner_of s.present ≡ Some p
    → length next ≤ limit
    → Stands w steps limit (suc t) (record {
      progress = judged steps (length s.places + 1) (corner_of next);
      places = s.places ++ (p + 1) ∷ [];
      present = next;
    })
Stands-step w steps limit t s p next h running found short =
    let made : length (s.places ++ (p + 1) ∷ []) ≡ length s.places + 1 = length_push s.places (p + 1) in
    let below : length s.places < steps = h.judgement.below running in
    let so_far : length s.places ≡ t = h.in_step running in
    let end : p + 1 < length s.present
    = IsCorner-within s.present p (corner_of-Some s.present p found).corner in
    let fits : length s.present ≤ limit = short_while_running w steps limit t s h running in
    let n : ℕ = length s.places + 1 in
    record {
      within = omega arith;
      in_step = λ e. omega arith;
      judgement = rw made (Judged-judged steps n next (corner_of next) refl (omega arith));
      short = inl short;
      stopped = λ e. absurd (judged-LengthMet steps n (corner_of next) e);
      places = All-push (IsWithin limit) s.places (p + 1) h.places (omega arith, omega arith);
    }

-- after one more turn of a running word
Stands-reversed
    : (w : List Letter) (steps limit t : ℕ) (s : RevState) (o : Option ℕ)
    → corner_of s.present ≡ o
    → Stands w steps limit t s
    → s.progress ≡ Running
    → Stands w steps limit (suc t) (reversed steps limit s o)
Stands-reversed w steps limit t s None found h running =
    let (p, some) = h.judgement.goes_on running in absurd (none-some p (sym found ∙ some))
Stands-reversed w steps limit t s (Some p) found h running =
    let next : List Letter = turned_at s.present p in
    cond_both (ltb limit (length next)) _ _ (λ (z : RevState). Stands w steps limit (suc t) z)
    (λ long. Stands-long w steps limit t s p h running found (ltb-true _ _ long))
    (λ short. Stands-step w steps limit t s p next h running found (ltb-false _ _ short))

-- an ended run after one more turn
Stands-more
    : (w : List Letter) (steps limit t : ℕ) (s : RevState)
    → Stands w steps limit t s
    → (s.progress ≡ Running → ⊥)
    → Stands w steps limit (suc t) s
Stands-more w steps limit t s h ended =
    record {
      within = h.within;
      in_step = λ e. absurd (ended e);
      judgement = h.judgement;
      short = h.short;
      stopped = h.stopped;
      places = h.places;
    }

-- after one more turn, by the progress
Stands-turn_by
    : (w : List Letter) (steps limit t : ℕ) (s : RevState) (p : RevProgress)
    → s.progress ≡ p
    → Stands w steps limit t s
    → Stands w steps limit (suc t) (turn_by steps limit s p)
Stands-turn_by w steps limit t s Running is h =
    Stands-reversed w steps limit t s (corner_of s.present) refl h is
Stands-turn_by w steps limit t s Done is h = Stands-more w steps limit t s h (λ e. cc)
Stands-turn_by w steps limit t s StepsMet is h = Stands-more w steps limit t s h (λ e. cc)
Stands-turn_by w steps limit t s LengthMet is h = Stands-more w steps limit t s h (λ e. cc)

-- after any number of turns
Stands-turns
    : (w : List Letter) (steps limit t : ℕ)
    → Stands w steps limit t (turns steps limit t (begun w steps limit))
unfolding turn_of
Stands-turns w steps limit zero = Stands-begun w steps limit
Stands-turns w steps limit (suc t) =
    Stands-turn_by w steps limit t _ _ refl (Stands-turns w steps limit t)

-- how a run stands after t turns
pub Stands-rev_after
    : (w : List Letter) (steps limit t : ℕ)
    → Stands w steps limit t (rev_after w steps limit t)
unfolding rev_after
Stands-rev_after w steps limit t = Stands-turns w steps limit t

-- ---- What follows for a run ----

-- after as many turns as it has steps a run has ended
pub rev_after-ended
    : (w : List Letter) (steps limit : ℕ)
    → (rev_after w steps limit steps).progress ≡ Running
    → ⊥
rev_after-ended w steps limit running =
    let h = Stands-rev_after w steps limit steps in
    let below = h.judgement.below running in
    let made = h.in_step running in
    omega arith

-- more turns than steps change nothing
pub rev_after-past
    : (w : List Letter) (steps limit t : ℕ)
    → steps ≤ t
    → rev_after w steps limit t ≡ rev_after w steps limit steps
rev_after-past w steps limit t past =
    let s = rev_after w steps limit steps in
    let sum : steps + (t - steps) ≡ t = omega arith in
    let more : turns steps limit (t - steps) s ≡ rev_after w steps limit t
    = rw sum at (rev_after-add w steps limit steps (t - steps) s refl) in
    sym more ∙ turns-ended steps limit (t - steps) s (rev_after-ended w steps limit)

-- a run of a word that is too long has met the length
pub rev_after-long
    : (w : List Letter) (steps limit t : ℕ)
    → limit < length w
    → (rev_after w steps limit t).progress ≡ LengthMet
unfolding rev_after
rev_after-long w steps limit t long =
    let start : RevState = begun w steps limit in
    let stands : start.progress ≡ LengthMet = rw (lt-ltb limit (length w) long) refl in
    let over : start.progress ≡ Running → ⊥ = λ running. absurd cc in
    ap (λ (s : RevState). s.progress) (turns-ended steps limit t start over) ∙ stands

-- a run makes no more steps than it may
pub length-places
    : (w : List Letter) (steps limit t : ℕ)
    → length (rev_after w steps limit t).places ≤ steps
length-places w steps limit t = (Stands-rev_after w steps limit t).within

-- a run that is done has reached a word without a corner
pub rev_after-Done
    : (w : List Letter) (steps limit t : ℕ)
    → let s = rev_after w steps limit t in
    s.progress ≡ Done → corner_of s.present ≡ None
rev_after-Done w steps limit t = (Stands-rev_after w steps limit t).judgement.done

-- the present word is no longer than the limit, unless it is the first word
pub length-present
    : (w : List Letter) (steps limit t : ℕ)
    → let s = rev_after w steps limit t in
    (length s.present ≤ limit) ⊎ (s.present ≡ w)
length-present w steps limit t = elim (Stands-rev_after w steps limit t).short [
  | inl short ↦ inl short
  | inr long ↦ inr long.same
]

-- each place is within the limit
pub places-rev_after
    : (w : List Letter) (steps limit t : ℕ)
    → All (IsWithin limit) (rev_after w steps limit t).places
places-rev_after w steps limit t = (Stands-rev_after w steps limit t).places
