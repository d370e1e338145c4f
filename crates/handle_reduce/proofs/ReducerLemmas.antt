-- What one step of a reducer makes of its run.
--
-- The premises are the clauses of the calls that the step makes, over plain variables.
use Rattle.std.proofs.Common.{◌≡◌, ℕ, ◌+◌, ◌<◌, ◌≤◌, List, [], ◌∷◌, ◌++◌, length, Option, Some, refl, ap, sym, ◌∙◌, ◌-◌, arith, inl, inr, None}
use Rattle.std.proofs.lemmas.Bool.{lt-ltb, le-ltb, eq-eqb, cases_eq}
use Rattle.braid_word.specs.Words.{Letter}
use Rattle.handle_find.specs.Handles.{IsHandle, leftmost_of, reduct}
use Rattle.braid_word.specs.declared.TheConstants.{MAX_LETTERS}
use Rattle.handle_reduce.specs.Runs.{RunState, LimitedRun, IsRunAfter, judged, turn_of, turned, turns, run_after}
use Rattle.handle_reduce.specs.declared.progress.Progress.{Progress}
use Rattle.handle_reduce.specs.declared.TheConstants.{MAX_BOUND}
use Rattle.handle_reduce.specs.Rooms.{Keeps}
use Rattle.handle_reduce.specs.declared.progress.Progress.TheVariants.{Running, HandlesMet, LengthMet}
use Rattle.handle_find.proofs.HandleLemmas.{leftmost_of-Some}
use Rattle.handle_reduce.proofs.RunLemmas.{turns-add, turns-ended, run_after-add}

-- ---- The begin ----

-- what a reducer is seen as, by its fields
abbrev pub seen : ℕ → ℕ → Progress → List (ℕ × ℕ) → List Letter → LimitedRun
seen handles limit progress steps present = record {
  handles = handles;
  limit = limit;
  run = record { progress = progress; steps = steps; present = present };
}

-- a word that is too long
pub IsRunAfter-long
    : (w present : List Letter) (steps : List (ℕ × ℕ)) (handles limit : ℕ)
    → present ≡ w
    → steps ≡ []
    → limit < length present
    → IsRunAfter w handles limit 0 (seen handles limit LengthMet steps present)
unfolding run_after
IsRunAfter-long w present steps handles limit same none long =
    let test = lt-ltb limit (length w) (rw same at long) in rw (same, none, test) refl

-- a word that isn't
pub IsRunAfter-short
    : (w present : List Letter) (steps : List (ℕ × ℕ)) (handles limit : ℕ) (found : Option (ℕ × ℕ))
    (progress : Progress)
    → present ≡ w
    → steps ≡ []
    → length present ≤ limit
    → found ≡ leftmost_of present
    → progress ≡ judged handles 0 present found
    → IsRunAfter w handles limit 0 (seen handles limit progress steps present)
unfolding run_after
IsRunAfter-short w present steps handles limit found progress same none short is judgement =
    let test = le-ltb limit (length w) (rw same at short) in
    rw (judgement, is, same, none, test) refl

-- a run that goes on may make a reduction
judged-Running
    : (handles : ℕ) (w : List Letter) (found : Option (ℕ × ℕ))
    → judged handles 0 w found ≡ Running
    → 0 < handles
judged-Running handles w None is = absurd cc
judged-Running handles w (Some h) is = elim (cases_eq 0 handles) [
  | inl none ↦ absurd (met (rw (eq-eqb 0 handles none) at is))
  | inr some ↦ omega (arith, some)
]
  where
    met : HandlesMet ≡ Running → ⊥
    met e = absurd cc

-- what a reducer keeps of a word that is too long
pub Keeps-long
    : (left right : List Letter) (steps : List (ℕ × ℕ)) (handles limit room steps_room : ℕ)
    → handles ≤ MAX_BOUND
    → limit ≤ MAX_BOUND
    → length (left ++ right) ≤ MAX_LETTERS
    → steps ≡ []
    → Keeps LengthMet left right steps 0 handles limit room steps_room
Keeps-long left right steps handles limit room steps_room few small short none = record {
  few_handles = few;
  small_limit = small;
  short_word = short;
  few_steps = let count = ap length none in omega (arith, count);
  running = λ is. absurd cc;
}

-- and of one that isn't
pub Keeps-short
    : (left right : List Letter) (steps : List (ℕ × ℕ)) (start handles limit room steps_room : ℕ)
    (progress : Progress)
    → handles ≤ MAX_BOUND
    → limit ≤ MAX_BOUND
    → length (left ++ right) ≤ MAX_LETTERS
    → length (left ++ right) ≤ limit
    → steps ≡ []
    → (progress ≡ Running → leftmost_of (left ++ right) ≡ Some (start, length left))
    → progress ≡ judged handles 0 (left ++ right) (leftmost_of (left ++ right))
    → limit < room
    → handles ≤ steps_room
    → Keeps progress left right steps start handles limit room steps_room
Keeps-short left right steps start handles limit room steps_room progress few small word short none leftmost
    judgement has_room has_steps = record {
      few_handles = few;
      small_limit = small;
      short_word = word;
      few_steps = let count = ap length none in omega (arith, count);
      running = λ is. record {
        leftmost = leftmost is;
        short = short;
        fewer = let count = ap length none in
            let some = judged-Running handles (left ++ right) (leftmost_of (left ++ right)) (sym judgement ∙ is) in
            omega (arith, count, some);
        has_room = has_room;
        steps_have_room = has_steps;
      };
    }

-- ---- A step ----

-- the progress that is kept is that of the run
pub goes_on
    : (r : LimitedRun) (handles limit : ℕ) (now : Progress) (steps : List (ℕ × ℕ)) (present : List Letter)
    → seen handles limit now steps present ≡ r
    → r.run.progress ≡ Running
    → now ≡ Running
goes_on r handles limit now steps present view running =
    ap (λ (s : LimitedRun). s.run.progress) view ∙ running

-- a reduct that is too long isn't taken
pub turned-long
    : (r : LimitedRun) (handles limit : ℕ) (now : Progress) (steps : List (ℕ × ℕ)) (present : List Letter)
    (found : Option (ℕ × ℕ)) (p q : ℕ)
    → seen handles limit now steps present ≡ r
    → r.run.progress ≡ Running
    → found ≡ Some (p, q)
    → found ≡ leftmost_of present
    → limit < length (reduct present p q)
    → seen handles limit LengthMet steps present ≡ turned r 1
unfolding turn_of
turned-long r handles limit now steps present found p q view running some is long =
    let test = lt-ltb limit (length (reduct present p q)) long in
    rw (← view) (rw (goes_on r handles limit now steps present view running, sym is ∙ some, test) refl)

-- any other is
pub turned-short
    : (r : LimitedRun) (handles limit : ℕ) (now : Progress) (steps more : List (ℕ × ℕ))
    (present next : List Letter) (found later : Option (ℕ × ℕ)) (p q made : ℕ) (progress : Progress)
    → seen handles limit now steps present ≡ r
    → r.run.progress ≡ Running
    → found ≡ Some (p, q)
    → found ≡ leftmost_of present
    → length (reduct present p q) ≤ limit
    → next ≡ reduct present p q
    → more ≡ steps ++ (p + 1, q + 1) ∷ []
    → made ≡ length steps + 1
    → later ≡ leftmost_of next
    → progress ≡ judged handles made next later
    → seen handles limit progress more next ≡ turned r 1
unfolding turn_of
turned-short r handles limit now steps more present next found later p q made progress view running some is
    short written pushed count found_next judgement =
    let test = le-ltb limit (length (reduct present p q)) short in
    rw (← view) (rw (
      goes_on r handles limit now steps present view running,
      judgement,
      found_next,
      count,
      written,
      pushed,
      sym is ∙ some,
      test,
    ) refl)

-- ---- What a running reducer knows ----

-- the places that were found are a handle
pub IsHandle-found
    : (present word : List Letter) (found : Option (ℕ × ℕ)) (p q : ℕ)
    → found ≡ leftmost_of present
    → found ≡ Some (p, q)
    → word ≡ present
    → IsHandle word p q
IsHandle-found present word found p q is some same =
    rw same (leftmost_of-Some present p q (sym is ∙ some)).handle

-- its places are small
pub IsHandle-small
    : (present : List Letter) (found : Option (ℕ × ℕ)) (p q : ℕ)
    → found ≡ leftmost_of present
    → found ≡ Some (p, q)
    → length present ≤ MAX_LETTERS
    → (p < q) × (q < MAX_LETTERS)
IsHandle-small present found p q is some short =
    let h = IsHandle-found present present found p q is some refl in (h.ordered, omega (arith, h.within))

-- ---- Turns ----

-- a run that has ended has made all its turns
pub turned-ended
    : (r now : LimitedRun) (t n : ℕ)
    → now ≡ turned r t
    → t ≤ n
    → (now.run.progress ≡ Running → ⊥)
    → now ≡ turned r n
turned-ended r now t n is few ended =
    let sum : t + (n - t) ≡ n = omega arith in
    let run : now.run ≡ turns r.handles r.limit t r.run = ap (λ (s : LimitedRun). s.run) is in
    let more : turns r.handles r.limit n r.run ≡ now.run
    = rw sum at (turns-add r.handles r.limit t (n - t) r.run)
    ∙ rw (← run) (turns-ended r.handles r.limit (n - t) now.run ended) in
    is ∙ ap (λ (s : RunState). record r { run = s }) (sym run ∙ sym more)

-- a run that has ended stays as it is
pub turned-stays
    : (r now : LimitedRun) (t : ℕ)
    → now ≡ turned r t
    → (r.run.progress ≡ Running → ⊥)
    → now ≡ r
turned-stays r now t is ended =
    is ∙ ap (λ (s : RunState). record r { run = s }) (turns-ended r.handles r.limit t r.run ended)

-- a reducer that is the run of a word after some turns is that run after more
pub IsRunAfter-turned
    : (w : List Letter) (handles limit t n : ℕ) (old new : LimitedRun)
    → IsRunAfter w handles limit t old
    → new ≡ turned old n
    → IsRunAfter w handles limit (t + n) new
IsRunAfter-turned w handles limit t n old new is more =
    rw (more, is) (ap (λ (s : RunState). record { handles = handles; limit = limit; run = s })
    (run_after-add w handles limit t n (run_after w handles limit t) refl))
