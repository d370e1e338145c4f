-- Laws of runs of handle reductions with limits.
--
-- Turns of a sum are turns after turns (`turns-add`, `run_after-add`), and a run that has ended
-- stays (`turns-ended`). How a run stands after t turns is one record (`Stands-run_after`). So a run
-- isn't running after as many turns as it may make reductions (`run_after-ended`), and what its sign,
-- its steps and its present word are.
use Rattle.std.proofs.Common.{◌≡◌, ℕ, zero, suc, ◌+◌, ◌-◌, ◌<◌, ◌≤◌, ◌==◌, ltb, Bool, true, false, cond, ◌⊎◌, List, [], ◌∷◌, ◌++◌, length, All, Option, Some, None, refl, sym, ap, ◌∙◌, inl, inr, arith, add-zero, add-suc}
use Rattle.std.proofs.lemmas.Bool.{eqb-true, eqb-false, lt-ltb, ltb-false, ltb-true, cond_both}
use Rattle.std.proofs.lemmas.Option.{none-some}
use Rattle.std.proofs.lemmas.List.{length_push}
use Rattle.std.proofs.lemmas.List.Elements.{All-nil, All-push}
use Rattle.braid_word.specs.Words.{Letter}
use Rattle.braid_word.specs.Sign.{sign_of}
use Rattle.braid_word.specs.declared.sign.Sign.{Sign}
use Rattle.handle_find.specs.Handles.{HasNoHandle, leftmost_of, reduct}
use Rattle.handle_reduce.specs.Runs.{RunState, judged, begun, reduced, turn_by, turn_of, turns, run_after}
use Rattle.handle_reduce.specs.declared.progress.Progress.{Progress}
use Rattle.handle_reduce.specs.declared.progress.Progress.TheVariants.{Running, Done, HandlesMet, LengthMet}
use Rattle.handle_find.proofs.HandleLemmas.{leftmost_of-Some, leftmost_of-None}

-- ---- Turns after turns ----

-- turns of a sum
pub turns-add
    : (handles limit a b : ℕ) (s : RunState)
    → turns handles limit (a + b) s ≡ turns handles limit b (turns handles limit a s)
turns-add handles limit a zero s = rw (add-zero a)
turns-add handles limit a (suc b) s =
    rw (add-suc a b) (ap (turn_of handles limit) (turns-add handles limit a b s))

-- more turns of a run
pub run_after-add
    : (w : List Letter) (handles limit t n : ℕ) (s : RunState)
    → s ≡ run_after w handles limit t
    → turns handles limit n s ≡ run_after w handles limit (t + n)
unfolding run_after
run_after-add w handles limit t n s is =
    ap (turns handles limit n) is ∙ sym (turns-add handles limit t n (begun w handles limit))

-- a run that has ended doesn't turn, by its progress
turn_by-ended
    : (handles limit : ℕ) (s : RunState) (p : Progress)
    → (p ≡ Running → ⊥)
    → turn_by handles limit s p ≡ s
turn_by-ended handles limit s Running ended = absurd (ended refl)
turn_by-ended handles limit s (Done sign) ended = refl
turn_by-ended handles limit s HandlesMet ended = refl
turn_by-ended handles limit s LengthMet ended = refl

-- a run that has ended stays at a turn
pub turn_of-ended
    : (handles limit : ℕ) (s : RunState)
    → (s.progress ≡ Running → ⊥)
    → turn_of handles limit s ≡ s
unfolding turn_of
turn_of-ended handles limit s ended = turn_by-ended handles limit s s.progress ended

-- a run that has ended stays
pub turns-ended
    : (handles limit n : ℕ) (s : RunState)
    → (s.progress ≡ Running → ⊥)
    → turns handles limit n s ≡ s
turns-ended handles limit zero s ended = refl
turns-ended handles limit (suc n) s ended =
    ap (turn_of handles limit) (turns-ended handles limit n s ended) ∙
    turn_of-ended handles limit s ended

-- ---- What a word's progress says ----

-- a handle is found
abbrev pub HasHandle : List Letter → Type 0
HasHandle w = (r : ℕ × ℕ) × (leftmost_of w ≡ Some r)

-- what the progress says of a word that is reached after some reductions
pub record Judged (handles made : ℕ) (w : List Letter) (p : Progress) : Type 0 where
  pub below : p ≡ Running → made < handles
  pub goes_on : p ≡ Running → HasHandle w
  pub done : (sign : Sign) → p ≡ Done sign → HasNoHandle w × (sign ≡ sign_of w)
  pub met : p ≡ HandlesMet → made ≡ handles
  pub one_left : p ≡ HandlesMet → HasHandle w

-- a run that was stopped by the length
Judged-LengthMet : (handles made : ℕ) (w : List Letter) → Judged handles made w LengthMet
Judged-LengthMet handles made w =
    record {
      below = λ e. cc;
      goes_on = λ e. cc;
      done = λ sign e. cc;
      met = λ e. cc;
      one_left = λ e. cc;
    }

-- a run that is running wasn't stopped by the length
Running-LengthMet : (p : Progress) → p ≡ Running → p ≡ LengthMet → ⊥
Running-LengthMet p running stopped = cc

-- a word with a handle
Judged-Some
    : (handles made : ℕ) (w : List Letter) (r : ℕ × ℕ) (b : Bool)
    → (made == handles) ≡ b
    → leftmost_of w ≡ Some r
    → made ≤ handles
    → Judged handles made w (cond b HandlesMet Running)
Judged-Some handles made w r true same found within =
    record {
      below = λ e. cc;
      goes_on = λ e. cc;
      done = λ sign e. cc;
      met = λ e. eqb-true made handles same;
      one_left = λ e. (r, found);
    }
Judged-Some handles made w r false other found within =
    let apart = eqb-false made handles other in
    record {
      below = λ e. omega arith;
      goes_on = λ e. (r, found);
      done = λ sign e. cc;
      met = λ e. cc;
      one_left = λ e. cc;
    }

-- a word by what is found in it
Judged-judged
    : (handles made : ℕ) (w : List Letter) (o : Option (ℕ × ℕ))
    → leftmost_of w ≡ o
    → made ≤ handles
    → Judged handles made w (judged handles made w o)
Judged-judged handles made w None found within =
    record {
      below = λ e. cc;
      goes_on = λ e. cc;
      done = λ sign e. (leftmost_of-None w found, cc);
      met = λ e. cc;
      one_left = λ e. cc;
    }
Judged-judged handles made w (Some r) found within =
    Judged-Some handles made w r (made == handles) refl found within

-- a word that isn't too long goes on
judged-LengthMet
    : (handles made : ℕ) (w : List Letter) (o : Option (ℕ × ℕ))
    → judged handles made w o ≡ LengthMet
    → ⊥
judged-LengthMet handles made w None e = cc
judged-LengthMet handles made w (Some r) e =
    cond_both (made == handles) _ _ (λ p. p ≡ LengthMet → ⊥) (λ _ f. cc) (λ _ f. cc) e

-- ---- How a run stands ----

-- Both places of a reduction, counted from 1, are in a word of at most this length.
abbrev pub HasPlaces : ℕ → ℕ × ℕ → Type 0
HasPlaces limit (p, q) = (1 ≤ p) × (p < q) × (q ≤ limit)

-- The first word too long: the run has ended before its first turn.
pub record IsTooLong (w : List Letter) (limit : ℕ) (s : RunState) : Type 0 where
  pub ended : s.progress ≡ LengthMet
  pub no_step : s.steps ≡ []
  pub same : s.present ≡ w
  pub long : limit < length w

-- the next word would be too long
abbrev pub NextTooLong : List Letter → ℕ → Type 0
NextTooLong v limit = (r : ℕ × ℕ) × (leftmost_of v ≡ Some r) × (limit < length (reduct v r.0 r.1))

-- a run of w with these limits after t turns
pub record Stands (w : List Letter) (handles limit t : ℕ) (s : RunState) : Type 0 where
  pub within : length s.steps ≤ handles
  pub in_step : s.progress ≡ Running → length s.steps ≡ t
  pub judgement : Judged handles (length s.steps) s.present s.progress
  pub short : (length s.present ≤ limit) ⊎ IsTooLong w limit s
  pub stopped : s.progress ≡ LengthMet → IsTooLong w limit s ⊎ NextTooLong s.present limit
  pub places : All (HasPlaces limit) s.steps

-- before the first turn, by the length of the word
Stands-begun_by
    : (w : List Letter) (handles limit : ℕ) (b : Bool)
    → ltb limit (length w) ≡ b
    → Stands w handles limit 0 (record {
      progress = cond b LengthMet (judged handles 0 w (leftmost_of w));
      steps = [];
      present = w;
    })
Stands-begun_by w handles limit true test =
    let state : RunState = record { progress = LengthMet; steps = []; present = w } in
    let long : IsTooLong w limit state
    = record { ended = refl; no_step = refl; same = refl; long = ltb-true _ _ test } in
    record {
      within = omega arith;
      in_step = λ e. cc;
      judgement = Judged-LengthMet handles 0 w;
      short = inr long;
      stopped = λ e. inl long;
      places = All-nil (HasPlaces limit);
    }
Stands-begun_by w handles limit false short =
    record {
      within = omega arith;
      in_step = λ e. refl;
      judgement = Judged-judged handles 0 w (leftmost_of w) refl (omega arith);
      short = inl (ltb-false _ _ short);
      stopped = λ e. absurd (judged-LengthMet handles 0 w (leftmost_of w) e);
      places = All-nil (HasPlaces limit);
    }

-- before the first turn
Stands-begun
    : (w : List Letter) (handles limit : ℕ)
    → Stands w handles limit 0 (begun w handles limit)
Stands-begun w handles limit = Stands-begun_by w handles limit (ltb limit (length w)) refl

-- a running word is no longer than the limit
short_while_running
    : (w : List Letter) (handles limit t : ℕ) (s : RunState)
    → Stands w handles limit t s
    → s.progress ≡ Running
    → length s.present ≤ limit
short_while_running w handles limit t s h running = elim h.short [
  | inl short ↦ short
  | inr long ↦ let ended = long.ended in absurd (Running-LengthMet _ running ended)
]

-- the next word is too long
Stands-long
    : (w : List Letter) (handles limit t : ℕ) (s : RunState) (p q : ℕ)
    → Stands w handles limit t s
    → s.progress ≡ Running
    → leftmost_of s.present ≡ Some (p, q)
    → limit < length (reduct s.present p q)
    → Stands w handles limit (suc t) (record s { progress = LengthMet })
Stands-long w handles limit t s p q h running found long =
    record {
      within = h.within;
      in_step = λ e. cc;
      judgement = Judged-LengthMet handles (length s.steps) s.present;
      short = inl (short_while_running w handles limit t s h running);
      stopped = λ e. inr ((p, q), found, long);
      places = h.places;
    }

-- the next word isn't too long
Stands-step
    : (w : List Letter) (handles limit t : ℕ) (s : RunState) (p q : ℕ) (next : List Letter)
    → Stands w handles limit t s
    → s.progress ≡ Running
    → leftmost_of s.present ≡ Some (p, q)
    → length next ≤ limit
    → Stands w handles limit (suc t) (record {
      progress = judged handles (length s.steps + 1) next (leftmost_of next);
      steps = s.steps ++ (p + 1, q + 1) ∷ [];
      present = next;
    })
Stands-step w handles limit t s p q next h running found short =
    let step : ℕ × ℕ = (p + 1, q + 1) in
    let made : length (s.steps ++ step ∷ []) ≡ length s.steps + 1 = length_push s.steps step in
    let below : length s.steps < handles = h.judgement.below running in
    let so_far : length s.steps ≡ t = h.in_step running in
    let leftmost = leftmost_of-Some s.present p q found in
    let ordered : p < q = leftmost.handle.ordered in
    let end : q < length s.present = leftmost.handle.within in
    let fits : length s.present ≤ limit = short_while_running w handles limit t s h running in
    let places : HasPlaces limit step = (omega arith, omega arith, omega arith) in
    let n : ℕ = length s.steps + 1 in
    record {
      within = omega arith;
      in_step = λ e. omega arith;
      judgement = rw made (Judged-judged handles n next (leftmost_of next) refl (omega arith));
      short = inl short;
      stopped = λ e. absurd (judged-LengthMet handles n next (leftmost_of next) e);
      places = All-push (HasPlaces limit) s.steps step h.places places;
    }

-- after one more turn of a running word
Stands-reduced
    : (w : List Letter) (handles limit t : ℕ) (s : RunState) (o : Option (ℕ × ℕ))
    → leftmost_of s.present ≡ o
    → Stands w handles limit t s
    → s.progress ≡ Running
    → Stands w handles limit (suc t) (reduced handles limit s o)
Stands-reduced w handles limit t s None found h running =
    let (r, some) = h.judgement.goes_on running in absurd (none-some r (sym found ∙ some))
Stands-reduced w handles limit t s (Some (p, q)) found h running =
    let next : List Letter = reduct s.present p q in
    cond_both (ltb limit (length next)) _ _ (λ (z : RunState). Stands w handles limit (suc t) z)
    (λ long. Stands-long w handles limit t s p q h running found (ltb-true _ _ long))
    (λ short. Stands-step w handles limit t s p q next h running found (ltb-false _ _ short))

-- an ended run after one more turn
Stands-more
    : (w : List Letter) (handles limit t : ℕ) (s : RunState)
    → Stands w handles limit t s
    → (s.progress ≡ Running → ⊥)
    → Stands w handles limit (suc t) s
Stands-more w handles limit t s h ended =
    record {
      within = h.within;
      in_step = λ e. absurd (ended e);
      judgement = h.judgement;
      short = h.short;
      stopped = h.stopped;
      places = h.places;
    }

-- after one more turn, by the progress
Stands-turn_by
    : (w : List Letter) (handles limit t : ℕ) (s : RunState) (p : Progress)
    → s.progress ≡ p
    → Stands w handles limit t s
    → Stands w handles limit (suc t) (turn_by handles limit s p)
Stands-turn_by w handles limit t s Running is h =
    Stands-reduced w handles limit t s (leftmost_of s.present) refl h is
Stands-turn_by w handles limit t s (Done sign) is h = Stands-more w handles limit t s h (λ e. cc)
Stands-turn_by w handles limit t s HandlesMet is h = Stands-more w handles limit t s h (λ e. cc)
Stands-turn_by w handles limit t s LengthMet is h = Stands-more w handles limit t s h (λ e. cc)

-- after any number of turns
Stands-turns
    : (w : List Letter) (handles limit t : ℕ)
    → Stands w handles limit t (turns handles limit t (begun w handles limit))
unfolding turn_of
Stands-turns w handles limit zero = Stands-begun w handles limit
Stands-turns w handles limit (suc t) =
    Stands-turn_by w handles limit t _ _ refl (Stands-turns w handles limit t)

-- how a run stands after t turns
pub Stands-run_after
    : (w : List Letter) (handles limit t : ℕ)
    → Stands w handles limit t (run_after w handles limit t)
unfolding run_after
Stands-run_after w handles limit t = Stands-turns w handles limit t

-- ---- What follows for a run ----

-- after as many turns as it has reductions a run has ended
pub run_after-ended
    : (w : List Letter) (handles limit : ℕ)
    → (run_after w handles limit handles).progress ≡ Running
    → ⊥
run_after-ended w handles limit running =
    let h = Stands-run_after w handles limit handles in
    let below = h.judgement.below running in
    let made = h.in_step running in
    omega arith

-- more turns than reductions change nothing
pub run_after-past
    : (w : List Letter) (handles limit t : ℕ)
    → handles ≤ t
    → run_after w handles limit t ≡ run_after w handles limit handles
run_after-past w handles limit t past =
    let s = run_after w handles limit handles in
    let sum : handles + (t - handles) ≡ t = omega arith in
    let more : turns handles limit (t - handles) s ≡ run_after w handles limit t
    = rw sum at (run_after-add w handles limit handles (t - handles) s refl) in
    sym more ∙ turns-ended handles limit (t - handles) s (run_after-ended w handles limit)

-- a run of a word that is too long has met the length
pub run_after-long
    : (w : List Letter) (handles limit t : ℕ)
    → limit < length w
    → (run_after w handles limit t).progress ≡ LengthMet
unfolding run_after
run_after-long w handles limit t long =
    let start : RunState = begun w handles limit in
    let stands : start.progress ≡ LengthMet = rw (lt-ltb limit (length w) long) refl in
    let over : start.progress ≡ Running → ⊥ = λ running. absurd cc in
    ap (λ (s : RunState). s.progress) (turns-ended handles limit t start over) ∙ stands

-- a run makes no more reductions than it may
pub length-steps
    : (w : List Letter) (handles limit t : ℕ)
    → length (run_after w handles limit t).steps ≤ handles
length-steps w handles limit t = (Stands-run_after w handles limit t).within

-- a run that is done has reached a word without a handle, and has its sign
pub run_after-Done
    : (w : List Letter) (handles limit t : ℕ) (sign : Sign)
    → let s = run_after w handles limit t in
    s.progress ≡ Done sign → HasNoHandle s.present × (sign ≡ sign_of s.present)
run_after-Done w handles limit t sign = (Stands-run_after w handles limit t).judgement.done sign

-- the present word is no longer than the limit, unless it is the first word
pub length-present
    : (w : List Letter) (handles limit t : ℕ)
    → let s = run_after w handles limit t in
    (length s.present ≤ limit) ⊎ (s.present ≡ w)
length-present w handles limit t = elim (Stands-run_after w handles limit t).short [
  | inl short ↦ inl short
  | inr long ↦ inr long.same
]

-- the places of each step are within the limit
pub places-steps
    : (w : List Letter) (handles limit t : ℕ)
    → All (HasPlaces limit) (run_after w handles limit t).steps
places-steps w handles limit t = (Stands-run_after w handles limit t).places
