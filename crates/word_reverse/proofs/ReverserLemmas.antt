-- What one step of a reverser makes of its run.
--
-- The premises are the clauses of the calls that the step makes, over plain variables.
use Rattle.std.proofs.Common.{◌≡◌, ℕ, ◌+◌, ◌-◌, ◌<◌, ◌≤◌, ◌==◌, List, [], ◌∷◌, ◌++◌, length, Option, Some, None, refl, sym, ap, ◌∙◌, arith}
use Rattle.std.proofs.lemmas.Bool.{lt-ltb, le-ltb, eq-eqb, cond_both}
use Rattle.braid_word.specs.Words.{Letter}
use Rattle.braid_word.specs.declared.TheConstants.{MAX_LETTERS}
use Rattle.gap_word.specs.Gap.{Gap, room}
use Rattle.word_reverse.specs.Corners.{corner_of, turned_at}
use Rattle.word_reverse.specs.Fractions.{positive_front}
use Rattle.word_reverse.specs.Cursors.{whole, AtCorner, Keeps}
use Rattle.word_reverse.specs.RevRuns.{RevState, RevRun, IsRevAfter, judged, turn_of, turned, turns, rev_after}
use Rattle.word_reverse.specs.declared.TheConstants.{MAX_BOUND}
use Rattle.word_reverse.specs.declared.progress.RevProgress.{RevProgress}
use Rattle.word_reverse.specs.declared.progress.RevProgress.TheVariants.{Running, Done, StepsMet, LengthMet}
use Rattle.word_reverse.proofs.RevRunLemmas.{turns-add, turns-ended, rev_after-add}

-- ---- The begin ----

-- what a reverser is seen as, by its fields
abbrev pub seen : ℕ → ℕ → RevProgress → List ℕ → List Letter → RevRun
seen steps limit progress places present = record {
  steps = steps;
  limit = limit;
  run = record { progress = progress; places = places; present = present };
}

-- a word that is too long
pub IsRevAfter-long
    : (w present : List Letter) (places : List ℕ) (steps limit : ℕ)
    → present ≡ w
    → places ≡ []
    → limit < length present
    → IsRevAfter w steps limit 0 (seen steps limit LengthMet places present)
unfolding rev_after
IsRevAfter-long w present places steps limit is none long =
    let test = lt-ltb limit (length w) (rw is at long) in rw (is, none, test) refl

-- a word that isn't
pub IsRevAfter-short
    : (w present : List Letter) (places : List ℕ) (steps limit : ℕ) (progress : RevProgress)
    → present ≡ w
    → places ≡ []
    → length present ≤ limit
    → progress ≡ judged steps 0 (corner_of present)
    → IsRevAfter w steps limit 0 (seen steps limit progress places present)
unfolding rev_after
IsRevAfter-short w present places steps limit progress is none short judgement =
    let test = le-ltb limit (length w) (rw is at short) in rw (judgement, is, none, test) refl

-- a run that goes on may make a step more
judged-Running
    : (steps made : ℕ) (found : Option ℕ)
    → judged steps made found ≡ Running
    → made ≡ steps
    → ⊥
judged-Running steps made None is all = absurd cc
judged-Running steps made (Some p) is all =
    let other : StepsMet ≡ Running → ⊥ = λ e. absurd cc in other (rw (eq-eqb made steps all) at is)

-- a run that is done has found no corner
judged-Done : (steps made : ℕ) (found : Option ℕ) → judged steps made found ≡ Done → found ≡ None
judged-Done steps made None is = refl
judged-Done steps made (Some p) is =
    cond_both (made == steps) _ _ (λ z. z ≡ Done → Some p ≡ None) (λ _ e. absurd cc) (λ _ e. absurd cc) is

-- what a reverser keeps of a word that is too long
pub Keeps-long
    : (word : Gap Letter) (places : List ℕ) (steps limit places_room : ℕ)
    → steps ≤ MAX_BOUND
    → limit ≤ MAX_BOUND
    → length (whole word) ≤ MAX_LETTERS
    → length places ≤ steps
    → Keeps LengthMet word places steps limit places_room
Keeps-long word places steps limit places_room few small short fewer = record {
  few_steps = few;
  small_limit = small;
  short_word = short;
  few_places = fewer;
  done = λ is. absurd cc;
  running = λ is. absurd cc;
}

-- and of one that isn't, after so many steps
pub Keeps-short
    : (progress : RevProgress) (word : Gap Letter) (places : List ℕ) (steps limit places_room : ℕ)
    → steps ≤ MAX_BOUND
    → limit ≤ MAX_BOUND
    → length (whole word) ≤ MAX_LETTERS
    → length (whole word) ≤ limit
    → length places ≤ steps
    → (progress ≡ Running → AtCorner word)
    → progress ≡ judged steps (length places) (corner_of (whole word))
    → limit ≤ room word
    → steps ≤ places_room
    → Keeps progress word places steps limit places_room
Keeps-short progress word places steps limit places_room few small word_short short fewer corner judgement
    has_room places_have_room = record {
      few_steps = few;
      small_limit = small;
      short_word = word_short;
      few_places = fewer;
      done = λ is. judged-Done steps (length places) (corner_of (whole word)) (sym judgement ∙ is);
      running = λ is. record {
        corner = corner is;
        short = short;
        fewer = let goes = sym judgement ∙ is in
            let all = judged-Running steps (length places) (corner_of (whole word)) goes in
            omega (arith, fewer, all);
        has_room = has_room;
        places_have_room = places_have_room;
      };
    }

-- ---- A step ----

-- the progress that is kept is that of the run
pub goes_on
    : (r : RevRun) (steps limit : ℕ) (now : RevProgress) (places : List ℕ) (present : List Letter)
    → seen steps limit now places present ≡ r
    → r.run.progress ≡ Running
    → now ≡ Running
goes_on r steps limit now places present view running =
    ap (λ (s : RevRun). s.run.progress) view ∙ running

-- a run that is done has no corner, and its fraction is cut where that of the word that is kept is
pub done_seen
    : (r : RevRun) (steps limit k : ℕ) (now : RevProgress) (places : List ℕ) (present : List Letter)
    → seen steps limit now places present ≡ r
    → (now ≡ Done → corner_of present ≡ None)
    → now ≡ Done
    → k ≡ length (positive_front present)
    → (corner_of r.run.present ≡ None) × (k ≡ length (positive_front r.run.present))
done_seen r steps limit k now places present view none done front =
    let same : present ≡ r.run.present = ap (λ (s : RevRun). s.run.present) view in
    rw (← same) (none done, front)

-- a next word that is too long isn't taken
pub turned-long
    : (r : RevRun) (steps limit : ℕ) (now : RevProgress) (places : List ℕ) (present : List Letter) (p : ℕ)
    → seen steps limit now places present ≡ r
    → r.run.progress ≡ Running
    → corner_of present ≡ Some p
    → limit < length (turned_at present p)
    → seen steps limit LengthMet places present ≡ turned r 1
unfolding turn_of
turned-long r steps limit now places present p view running some long =
    let test = lt-ltb limit (length (turned_at present p)) long in
    rw (← view) (rw (goes_on r steps limit now places present view running, some, test) refl)

-- any other is
pub turned-short
    : (r : RevRun) (steps limit : ℕ) (now : RevProgress) (places more : List ℕ) (present next : List Letter)
    (p made : ℕ) (progress : RevProgress)
    → seen steps limit now places present ≡ r
    → r.run.progress ≡ Running
    → corner_of present ≡ Some p
    → length (turned_at present p) ≤ limit
    → next ≡ turned_at present p
    → more ≡ places ++ (p + 1) ∷ []
    → made ≡ length places + 1
    → progress ≡ judged steps made (corner_of next)
    → seen steps limit progress more next ≡ turned r 1
unfolding turn_of
turned-short r steps limit now places more present next p made progress view running some short is pushed
    count judgement =
    let test = le-ltb limit (length (turned_at present p)) short in
    rw (← view) (rw (
      goes_on r steps limit now places present view running,
      judgement,
      count,
      is,
      pushed,
      some,
      test,
    ) refl)

-- ---- Turns ----

-- a run that has ended has made all its turns
pub turned-ended
    : (r now : RevRun) (t n : ℕ)
    → now ≡ turned r t
    → t ≤ n
    → (now.run.progress ≡ Running → ⊥)
    → now ≡ turned r n
turned-ended r now t n is few ended =
    let sum : t + (n - t) ≡ n = omega arith in
    let run : now.run ≡ turns r.steps r.limit t r.run = ap (λ (s : RevRun). s.run) is in
    let more : turns r.steps r.limit n r.run ≡ now.run
    = rw sum at (turns-add r.steps r.limit t (n - t) r.run)
    ∙ rw (← run) (turns-ended r.steps r.limit (n - t) now.run ended) in
    is ∙ ap (λ (s : RevState). record r { run = s }) (sym run ∙ sym more)

-- a run that has ended stays as it is
pub turned-stays
    : (r now : RevRun) (t : ℕ)
    → now ≡ turned r t
    → (r.run.progress ≡ Running → ⊥)
    → now ≡ r
turned-stays r now t is ended =
    is ∙ ap (λ (s : RevState). record r { run = s }) (turns-ended r.steps r.limit t r.run ended)

-- a reverser that is the run of a word after some turns is that run after more
pub IsRevAfter-turned
    : (w : List Letter) (steps limit t n : ℕ) (old new : RevRun)
    → IsRevAfter w steps limit t old
    → new ≡ turned old n
    → IsRevAfter w steps limit (t + n) new
IsRevAfter-turned w steps limit t n old new is more =
    rw (more, is) (ap (λ (s : RevState). record { steps = steps; limit = limit; run = s })
    (rev_after-add w steps limit t n (rev_after w steps limit t) refl))
