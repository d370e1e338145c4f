-- What a command leaves of each job.
use Rattle.std.proofs.Common.{◌≡◌, ℕ, true, false, cond, List, [], ◌∷◌, ◌++◌, Some, None, is_some, refl, ap, sym, subst, ◌∙◌, inl, inr, true≢false}
use Rattle.std.proofs.lemmas.Bool.{cases_Bool}
use Rattle.std.proofs.lemmas.Slice.Eq.{bytes_eq-Decides}
use Rattle.std.specs.Str.{bytes_eq}
use Rattle.session_run.specs.declared.command.Command.{Command}
use Rattle.session_run.specs.declared.command.Command.TheVariants as command
use Rattle.session_run.specs.Jobs.{Job, more_turns, find_job, turn_job, close_job, Opening, twice, full, too_long, free, opening_of, opened, after, is_on, lives}

-- ---- Names ----

-- names that aren't equal differ also from each other's equals
differs_from
    : (name own other : List ℕ)
    → bytes_eq name own ≡ false
    → bytes_eq own other ≡ true
    → bytes_eq name other ≡ false
differs_from name own other differs same =
    subst (λ z. bytes_eq name z ≡ false) ((bytes_eq-Decides own other).0 same) differs

same_as
    : (name own other : List ℕ)
    → bytes_eq name own ≡ true
    → bytes_eq own other ≡ bytes_eq name other
same_as name own other same =
    subst (λ z. bytes_eq z other ≡ bytes_eq name other) ((bytes_eq-Decides name own).0 same) refl

-- ---- Other names ----

find_job-turn
    : (name own : List ℕ) (count : ℕ) (jobs : List Job)
    → bytes_eq name own ≡ false
    → find_job name (turn_job own count jobs) ≡ find_job name jobs
find_job-turn name own count [] differs = refl
find_job-turn name own count (j ∷ jobs) differs = elim (cases_Bool (bytes_eq own j.name)) [
  | inl same ↦ let other = differs_from name own j.name differs same in
      rw (same, other) (find_job-turn name own count jobs differs)
  | inr apart ↦ elim (cases_Bool (bytes_eq name j.name)) [
    | inl here ↦ rw (apart, here) refl
    | inr other ↦ rw (apart, other) (find_job-turn name own count jobs differs)
  ]
]

find_job-close
    : (name own : List ℕ) (jobs : List Job)
    → bytes_eq name own ≡ false
    → find_job name (close_job own jobs) ≡ find_job name jobs
find_job-close name own [] differs = refl
find_job-close name own (j ∷ jobs) differs = elim (cases_Bool (bytes_eq own j.name)) [
  | inl same ↦ let other = differs_from name own j.name differs same in
      rw (same, other) (find_job-close name own jobs differs)
  | inr apart ↦ elim (cases_Bool (bytes_eq name j.name)) [
    | inl here ↦ rw (apart, here) refl
    | inr other ↦ rw (apart, other) (find_job-close name own jobs differs)
  ]
]

find_job-append
    : (name : List ℕ) (new : Job) (jobs : List Job)
    → bytes_eq name new.name ≡ false
    → find_job name (jobs ++ new ∷ []) ≡ find_job name jobs
find_job-append name new [] differs = rw differs refl
find_job-append name new (j ∷ jobs) differs = elim (cases_Bool (bytes_eq name j.name)) [
  | inl here ↦ rw here refl
  | inr other ↦ rw other (find_job-append name new jobs differs)
]

find_job-opened
    : (opening : Opening) (name : List ℕ) (new : Job) (jobs : List Job)
    → bytes_eq name new.name ≡ false
    → find_job name (opened opening new jobs) ≡ find_job name jobs
find_job-opened twice name new jobs differs = refl
find_job-opened full name new jobs differs = refl
find_job-opened too_long name new jobs differs = refl
find_job-opened free name new jobs differs = find_job-append name new jobs differs

-- a command leaves the jobs of other names
pub find_job-other
    : (jobs : List Job) (c : Command) (name : List ℕ)
    → is_on name c ≡ false
    → find_job name (after jobs c) ≡ find_job name jobs
find_job-other jobs (command.Begin own handles limit left right) name other =
    find_job-opened (opening_of jobs own left right) name _ jobs other
find_job-other jobs (command.Turn own count) name other = find_job-turn name own count jobs other
find_job-other jobs (command.Show own) name other = refl
find_job-other jobs (command.Take own) name other = refl
find_job-other jobs (command.Close own) name other = find_job-close name own jobs other
find_job-other jobs command.List name other = refl

-- ---- The own name ----

own_turn
    : (name own : List ℕ) (count : ℕ) (jobs : List Job) (j : Job)
    → bytes_eq name own ≡ true
    → find_job name jobs ≡ Some j
    → find_job name (turn_job own count jobs) ≡ Some (more_turns count j)
own_turn name own count [] j same found = absurd cc
own_turn name own count (k ∷ jobs) j same found = elim (cases_Bool (bytes_eq name k.name)) [
  | inl here ↦
      let test : bytes_eq own k.name ≡ true = same_as name own k.name same ∙ here in
      let first : Some k ≡ Some j = rw here at found in
      let one : k ≡ j = cc in
      rw (test, here, one) refl
  | inr other ↦
      let test : bytes_eq own k.name ≡ false = same_as name own k.name same ∙ other in
      rw (test, other) (own_turn name own count jobs j same (rw other at found))
]

own_close
    : (name own : List ℕ) (jobs : List Job)
    → bytes_eq name own ≡ true
    → find_job name (close_job own jobs) ≡ None
own_close name own [] same = refl
own_close name own (k ∷ jobs) same = elim (cases_Bool (bytes_eq name k.name)) [
  | inl here ↦
      let test : bytes_eq own k.name ≡ true = same_as name own k.name same ∙ here in
      rw test (own_close name own jobs same)
  | inr other ↦
      let test : bytes_eq own k.name ≡ false = same_as name own k.name same ∙ other in
      rw (test, other) (own_close name own jobs same)
]

own_begin
    : (name own : List ℕ) (jobs : List Job) (j new : Job) (rest : Opening)
    → bytes_eq name own ≡ true
    → find_job name jobs ≡ Some j
    → find_job name (opened (cond (is_some (find_job own jobs)) twice rest) new jobs) ≡ Some j
own_begin name own jobs j new rest same found =
    let names : name ≡ own = (bytes_eq-Decides name own).0 same in
    let opens : is_some (find_job own jobs) ≡ true =
    subst (λ z. is_some (find_job z jobs) ≡ true) names (ap is_some found) in
    rw opens found

-- the job of an open name after a command on this name
pub find_job-own
    : (jobs : List Job) (c : Command) (name : List ℕ) (j : Job)
    → find_job name jobs ≡ Some j
    → is_on name c ≡ true
    → find_job name (after jobs c) ≡ lives j c
find_job-own jobs (command.Begin own handles limit left right) name j found on =
    own_begin name own jobs j _ _ on found
find_job-own jobs (command.Turn own count) name j found on = own_turn name own count jobs j on found
find_job-own jobs (command.Show own) name j found on = found
find_job-own jobs (command.Take own) name j found on = found
find_job-own jobs (command.Close own) name j found on = own_close name own jobs on
find_job-own jobs command.List name j found on = absurd (true≢false (sym on))
