-- Runs and handles of the front of a word, and of a word with one letter more or less.
--
-- A scan stays one where letters are taken off its end (`IsScan-front`), where a letter that ends no handle
-- comes to its end (`IsScan-keep`), and where the lower letter before higher ones goes that nothing before
-- it can pass (`IsScan-remove`).
use Rattle.std.proofs.Common.{◌≡◌, ℕ, ◌+◌, ◌-◌, ◌<◌, ◌≤◌, false, List, [], ◌∷◌, ◌++◌, length, get_or, slice_get, Some, sym, ap, subst, ◌∙◌, inl, inr, arith, length-append, append_assoc}
use Rattle.std.specs.List.{remove}
use Rattle.std.proofs.lemmas.Bool.{cases_eq, cases_lt}
use Rattle.std.proofs.lemmas.List.{get_or_append_left}
use Rattle.std.proofs.lemmas.List.Edits.{get_or-remove_below, get_or-remove_above, length-remove}
use Rattle.std.proofs.lemmas.Option.{slice_get_within}
use Rattle.std.proofs.Math.Seq.{get_or-append_seam}
use Rattle.braid_word.specs.Words.{Letter, letter}
use Rattle.gap_word.specs.Gap.{Gap, gap, room, StepsRight}
use Rattle.handle_find.specs.Handles.{at, IsHandle, HasNoHandle}
use Rattle.handle_find.specs.LetterRuns.{IsRun, HasRuns, IsScan, IsBarred}
use Rattle.handle_find.proofs.CursorLemmas.{at-left}

-- ---- Handles of a front ----

-- a handle that ends in the front is one of the front
pub IsHandle-front
    : (w v : List Letter) (p q : ℕ)
    → IsHandle (w ++ v) p q
    → q < length w
    → IsHandle w p q
IsHandle-front w v p q h below =
    let ordered = h.ordered in
    let last : at (w ++ v) q ≡ at w q = at-left w v q below in
    let first : at (w ++ v) p ≡ at w p = at-left w v p (omega arith) in
    record {
      ordered = ordered;
      within = below;
      one_index = rw (last, first) at h.one_index;
      opposite_signs = rw (last, first) at h.opposite_signs;
      higher_between = λ k above under.
          let inner : at (w ++ v) k ≡ at w k = at-left w v k (omega arith) in
          rw (first, inner) at (h.higher_between k above under);
    }

-- and the other way round
pub IsHandle-longer
    : (w v : List Letter) (p q : ℕ)
    → IsHandle w p q
    → IsHandle (w ++ v) p q
IsHandle-longer w v p q h =
    let ordered = h.ordered in
    let within = h.within in
    let both = length-append w v in
    let last : at (w ++ v) q ≡ at w q = at-left w v q within in
    let first : at (w ++ v) p ≡ at w p = at-left w v p (omega arith) in
    record {
      ordered = ordered;
      within = omega arith;
      one_index = rw (last, first) h.one_index;
      opposite_signs = rw (last, first) h.opposite_signs;
      higher_between = λ k above under.
          let inner : at (w ++ v) k ≡ at w k = at-left w v k (omega arith) in
          rw (first, inner) (h.higher_between k above under);
    }

-- the front of a word without a handle has none
pub HasNoHandle-front : (w v : List Letter) → HasNoHandle (w ++ v) → HasNoHandle w
HasNoHandle-front w v none p q h = none p q (IsHandle-longer w v p q h)

-- a letter that ends no handle
pub HasNoHandle-more
    : (w r rest : List Letter) (x : Letter)
    → HasNoHandle w
    → r ≡ x ∷ rest
    → ((p : ℕ) → IsHandle (w ++ r) p (length w) → ⊥)
    → HasNoHandle (w ++ x ∷ [])
HasNoHandle-more w r rest x none right ends p q h =
    let within = h.within in
    let both = length-append w (x ∷ []) in
    elim (cases_lt q (length w)) [
      | inl before ↦ none p q (IsHandle-front w (x ∷ []) p q h before)
      | inr after ↦
          let last : q ≡ length w = omega arith in
          let own : IsHandle (w ++ x ∷ []) p (length w) = subst (IsHandle (w ++ x ∷ []) p) last h in
          let longer : IsHandle ((w ++ x ∷ []) ++ rest) p (length w) =
          IsHandle-longer (w ++ x ∷ []) rest p (length w) own in
          let same : (w ++ x ∷ []) ++ rest ≡ w ++ r = append_assoc w (x ∷ []) rest
          ∙ ap (λ v. w ++ v) (sym right) in
          ends p (subst (λ v. IsHandle v p (length w)) same longer)
    ]

-- ---- Runs of a front ----

-- a run looks at the letters before its place alone
IsRun-longer : (w v : List Letter) (i k n : ℕ) → IsRun w i k n → k ≤ length w → IsRun (w ++ v) i k n
IsRun-longer w v i k n run within =
    record {
      within = run.within;
      none_lower = λ m near below.
          let here : at (w ++ v) m ≡ at w m = at-left w v m (omega arith) in
          rw here (run.none_lower m near below);
    }

IsRun-shorter : (w v : List Letter) (i k n : ℕ) → IsRun (w ++ v) i k n → k ≤ length w → IsRun w i k n
IsRun-shorter w v i k n run within =
    record {
      within = run.within;
      none_lower = λ m near below.
          let here : at (w ++ v) m ≡ at w m = at-left w v m (omega arith) in
          rw here at (run.none_lower m near below);
    }

-- one letter more with its run
pub HasRuns-more
    : (ns : List ℕ) (w : List Letter) (n : ℕ) (x : Letter)
    → HasRuns ns w
    → IsRun w x.index (length w) n
    → HasRuns (ns ++ n ∷ []) (w ++ x ∷ [])
HasRuns-more ns w n x runs own =
    let alike = runs.alike in
    let numbers = length-append ns (n ∷ []) in
    let letters = length-append w (x ∷ []) in
    record {
      alike = omega arith;
      run = λ k below. elim (cases_lt k (length w)) [
        | inl before ↦
            let here : at (w ++ x ∷ []) k ≡ at w k = at-left w (x ∷ []) k before in
            let number : get_or (ns ++ n ∷ []) k 0 ≡ get_or ns k 0 =
            get_or_append_left ns (n ∷ []) 0 k (omega arith) in
            rw (here, number) (IsRun-longer w (x ∷ []) (at w k).index k (get_or ns k 0) (runs.run k before)
            (omega arith))
        | inr after ↦
            let last : k ≡ length w = omega arith in
            let here : at (w ++ x ∷ []) k ≡ x = rw last (get_or-append_seam w x [] (letter 0 false)) in
            let number : get_or (ns ++ n ∷ []) k 0 ≡ n = rw (last, ← alike) (get_or-append_seam ns n [] 0) in
            rw (here, number) (IsRun-longer w (x ∷ []) x.index k n (rw last own) (omega arith))
      ];
    }

-- the front of letters with their runs
pub HasRuns-front
    : (ns ms : List ℕ) (w v : List Letter)
    → HasRuns (ns ++ ms) (w ++ v)
    → length ns ≡ length w
    → HasRuns ns w
HasRuns-front ns ms w v runs alike =
    let letters = length-append w v in
    record {
      alike = alike;
      run = λ k below.
          let here : at (w ++ v) k ≡ at w k = at-left w v k below in
          let number : get_or (ns ++ ms) k 0 ≡ get_or ns k 0 = get_or_append_left ns ms 0 k (omega arith) in
          IsRun-shorter w v (at w k).index k (get_or ns k 0)
          (rw (here, number) at (runs.run k (omega arith))) (omega arith);
    }

-- ---- Scans ----

-- a scan whose next letter ends no handle has room for its run
pub spare-run
    : (letters : Gap Letter) (runs : Gap ℕ) (x : Letter)
    → IsScan letters runs
    → slice_get letters.right 0 ≡ Some x
    → 0 < runs.spare
spare-run letters runs x scan read =
    let some = slice_get_within letters.right 0 x read in
    let same = scan.same_room in
    let alike = scan.has_runs.alike in
    let none : length runs.right ≡ 0 = ap length scan.alone in
    omega arith

-- and stays one with it
pub IsScan-keep
    : (letters next : Gap Letter) (runs now : Gap ℕ) (n : ℕ) (x : Letter)
    → IsScan letters runs
    → slice_get letters.right 0 ≡ Some x
    → ((p : ℕ) → IsHandle (letters.left ++ letters.right) p (length letters.left) → ⊥)
    → IsRun letters.left x.index (length letters.left) n
    → StepsRight letters next
    → now ≡ gap (runs.left ++ n ∷ []) runs.right (runs.spare - 1)
    → IsScan next now
IsScan-keep letters next runs now n x scan read ends own steps pushed =
    let room_for = spare-run letters runs x scan read in
    let item : x ≡ steps.item = some-is letters.right next.right x steps.item read steps.right in
    let more = HasRuns-more runs.left letters.left n x scan.has_runs own in
    let alone = HasNoHandle-more letters.left letters.right next.right steps.item scan.none steps.right ends
    in
    let same = scan.same_room in
    let letters_left : length next.left ≡ length (letters.left ++ steps.item ∷ []) = ap length steps.left in
    let letters_more = length-append letters.left (steps.item ∷ []) in
    let runs_more = length-append runs.left (n ∷ []) in
    let letters_right : length letters.right ≡ length (steps.item ∷ next.right) = ap length steps.right in
    let spare = steps.spare in
    rw pushed (record {
      has_runs = rw (steps.left, ← item) more;
      alone = scan.alone;
      same_room = omega arith;
      none = rw steps.left alone;
    })
  where
    some-is : (r rest : List Letter) (a b : Letter) → slice_get r 0 ≡ Some a → r ≡ b ∷ rest → a ≡ b
    some-is r rest a b got is = let first : slice_get (b ∷ rest) 0 ≡ Some a = rw is at got in cc

-- letters are taken off the end, and their runs
pub IsScan-front
    : (letters next : Gap Letter) (runs now : Gap ℕ) (back : List Letter) (dropped : List ℕ)
    → IsScan letters runs
    → letters.left ≡ next.left ++ back
    → runs.left ≡ now.left ++ dropped
    → length now.left ≡ length next.left
    → now.right ≡ runs.right
    → room next ≡ room letters
    → room now ≡ room runs
    → IsScan next now
IsScan-front letters next runs now back dropped scan left runs_left alike right letters_room runs_room =
    record {
      has_runs = HasRuns-front now.left dropped next.left back (rw (left, runs_left) at scan.has_runs) alike;
      alone = right ∙ scan.alone;
      same_room = runs_room ∙ scan.same_room ∙ sym letters_room;
      none = HasNoHandle-front next.left back (rw left at scan.none);
    }

-- ---- A letter less ----

-- letters before the one that goes stay where they are
at-remove_below : (w : List Letter) (p k : ℕ) → k < p → p < length w → at (remove w p) k ≡ at w k
at-remove_below w p k below within = get_or-remove_below w p (letter 0 false) k below within

-- and those after it go one place down
at-remove_above : (w : List Letter) (p k : ℕ) → p ≤ k → p < length w → at (remove w p) k ≡ at w (k + 1)
at-remove_above w p k above within = get_or-remove_above w p (letter 0 false) k above within

-- a run before the letter that goes
IsRun-remove_below
    : (w : List Letter) (p k n : ℕ)
    → p < length w
    → k < p
    → IsRun w (at w k).index k n
    → IsRun (remove w p) (at (remove w p) k).index k n
IsRun-remove_below w p k n within below run =
    rw (at-remove_below w p k below within) (record {
      within = run.within;
      none_lower = λ m near under.
          let here : at (remove w p) m ≡ at w m = at-remove_below w p m (omega arith) within in
          rw here (run.none_lower m near under);
    })

-- a run after it doesn't reach it, as it is lower
IsRun-remove_above
    : (w : List Letter) (p k n : ℕ)
    → p < length w
    → p ≤ k
    → (at w p).index < (at w (k + 1)).index
    → IsRun w (at w (k + 1)).index (k + 1) n
    → IsRun (remove w p) (at (remove w p) k).index k n
IsRun-remove_above w p k n within above lower run =
    let short : n ≤ k - p = elim (cases_lt (k - p) n) [
      | inl long ↦
          let reached : (at w (k + 1)).index ≤ (at w p).index =
          run.none_lower p (omega arith) (omega arith) in
          absurd (omega arith)
      | inr fits ↦ fits
    ] in
    rw (at-remove_above w p k above within) (record {
      within = omega arith;
      none_lower = λ m near under.
          let here : at (remove w p) m ≡ at w (m + 1) = at-remove_above w p m (omega arith) within in
          rw here (run.none_lower (m + 1) (omega arith) (omega arith));
    })

-- so the numbers that are left are runs
HasRuns-remove
    : (ns : List ℕ) (w : List Letter) (p low : ℕ)
    → HasRuns ns w
    → IsBarred w p low
    → HasRuns (remove ns p) (remove w p)
HasRuns-remove ns w p low runs bar =
    let within = bar.within in
    let alike = runs.alike in
    let numbers = length-remove ns p (omega arith) in
    let letters = length-remove w p within in
    record {
      alike = omega arith;
      run = λ k below. elim (cases_lt k p) [
        | inl before ↦
            let number : get_or (remove ns p) k 0 ≡ get_or ns k 0 =
            get_or-remove_below ns p 0 k before (omega arith) in
            rw number (IsRun-remove_below w p k (get_or ns k 0) within before (runs.run k (omega arith)))
        | inr after ↦
            let number : get_or (remove ns p) k 0 ≡ get_or ns (k + 1) 0 =
            get_or-remove_above ns p 0 k after (omega arith) in
            let lower = (bar.after (k + 1) (omega arith) (omega arith)).1 in
            rw number (IsRun-remove_above w p k (get_or ns (k + 1) 0) within after lower
            (runs.run (k + 1) (omega arith)))
      ];
    }

-- A handle of what is left lies before the place, or behind it, or goes across. Then it passes the letter
-- before the place, or begins there, and that is lower than all behind.
HasNoHandle-remove
    : (w : List Letter) (p low : ℕ)
    → HasNoHandle w
    → IsBarred w p low
    → HasNoHandle (remove w p)
HasNoHandle-remove w p low none bar start end h =
    let within = bar.within in
    let ordered = h.ordered in
    let ends = h.within in
    let count = length-remove w p within in
    elim (cases_lt end p) [
      | inl before ↦
          let last = at-remove_below w p end before within in
          let first = at-remove_below w p start (omega arith) within in
          none start end (record {
            ordered = ordered;
            within = omega arith;
            one_index = rw (last, first) at h.one_index;
            opposite_signs = rw (last, first) at h.opposite_signs;
            higher_between = λ k above under.
                let inner = at-remove_below w p k (omega arith) within in
                rw (first, inner) at (h.higher_between k above under);
          })
      | inr after ↦ elim (cases_lt start p) [
        | inl across ↦
            let last : (at (remove w p) end).index ≡ (at w (end + 1)).index
            = ap (λ (x : Letter). x.index) (at-remove_above w p end after within) in
            let high = (bar.after (end + 1) (omega arith) (omega arith)).0 in
            let one_index = h.one_index in
            elim bar.before [
              | inl front ↦ absurd (omega arith)
              | inr bound ↦
                  let here : (at (remove w p) (p - 1)).index ≡ (at w (p - 1)).index
                  = ap (λ (x : Letter). x.index) (at-remove_below w p (p - 1) (omega arith) within) in
                  elim (cases_eq start (p - 1)) [
                    | inl same ↦
                        let e : (at (remove w p) start).index ≡ (at (remove w p) (p - 1)).index
                        = ap (λ j. (at (remove w p) j).index) same in
                        omega arith
                    | inr other ↦
                        let passed : (at (remove w p) start).index < (at (remove w p) (p - 1)).index
                        = h.higher_between (p - 1) (omega arith) (omega arith) in
                        omega arith
                  ]
            ]
        | inr behind ↦
            let last = at-remove_above w p end after within in
            let first = at-remove_above w p start behind within in
            none (start + 1) (end + 1) (record {
              ordered = omega arith;
              within = omega arith;
              one_index = rw (last, first) at h.one_index;
              opposite_signs = rw (last, first) at h.opposite_signs;
              higher_between = λ k above under.
                  let place : k - 1 + 1 ≡ k = omega arith in
                  let inner : at (remove w p) (k - 1) ≡ at w k =
                  rw place at (at-remove_above w p (k - 1) (omega arith) within) in
                  rw (first, inner) at (h.higher_between (k - 1) (omega arith) (omega arith));
            })
      ]
    ]

-- a scan without such a letter
pub IsScan-remove
    : (letters next : Gap Letter) (runs now : Gap ℕ) (p low : ℕ)
    → IsScan letters runs
    → IsBarred letters.left p low
    → next ≡ gap (remove letters.left p) letters.right (letters.spare + 1)
    → now ≡ gap (remove runs.left p) runs.right (runs.spare + 1)
    → IsScan next now
IsScan-remove letters next runs now p low scan bar next_is now_is =
    let alike = scan.has_runs.alike in
    let within = bar.within in
    let same = scan.same_room in
    let letters_less = length-remove letters.left p within in
    let runs_less = length-remove runs.left p (omega arith) in
    rw (next_is, now_is) (record {
      has_runs = HasRuns-remove runs.left letters.left p low scan.has_runs bar;
      alone = scan.alone;
      same_room = omega arith;
      none = HasNoHandle-remove letters.left p low scan.none bar;
    })
