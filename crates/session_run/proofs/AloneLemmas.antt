-- The commands on one name alone.
--
-- Beside all jobs stands a list that has the job of this name alone, if it is open (`alone_of`). A command on
-- this name that isn't answered `full` is answered the same by both, and leaves them so. So the replies to
-- the commands on a name (`own_replies-lines`), and its job after all commands (`own_job-lines`), are those
-- of these commands alone.
use Rattle.std.proofs.Common.{◌≡◌, ◌≢◌, ℕ, nat_lt, Bool, true, false, cond, List, [], ◌∷◌, ◌++◌, length, Option, Some, None, refl, ap, sym, subst, ◌∙◌, inl, inr, true≢false}
use Rattle.std.proofs.lemmas.Bool.{cases_Bool}
use Rattle.std.proofs.lemmas.Slice.Eq.{bytes_eq-Decides}
use Rattle.std.specs.Str.{bytes_eq}
use Rattle.braid_word.specs.Words.{Letter, quotient}
use Rattle.braid_word.specs.declared.TheConstants.{MAX_LETTERS}
use Rattle.session_run.specs.declared.TheConstants.{MAX_JOBS}
use Rattle.session_run.specs.declared.command.Command.{Command}
use Rattle.session_run.specs.declared.command.Command.TheVariants as command
use Rattle.session_run.specs.declared.reply.Reply.TheVariants as reply
use Rattle.session_run.specs.Jobs.{Job, is_of, find_job, turn_job, close_job, Opening, twice, full, too_long, free, opening_of, opened, after, after_all, is_on}
use Rattle.session_run.specs.Replies.{opening_reply, reply_to, replies}
use Rattle.session_run.specs.OwnLines.{own_lines, own_replies, NoneFull}
use Rattle.session_run.proofs.CommandLemmas.{find_job-other, find_job-own}

-- the job alone, if it is open
abbrev pub alone_of : Option Job → List Job
alone_of None = []
alone_of (Some j) = j ∷ []

-- a job that is found has the name
found_name : (name : List ℕ) (jobs : List Job) (j : Job) → find_job name jobs ≡ Some j → is_of name j ≡ true
found_name name [] j found = absurd cc
found_name name (k ∷ jobs) j found = elim (cases_Bool (bytes_eq name k.name)) [
  | inl here ↦
      let first : Some k ≡ Some j = rw here at found in
      let one : k ≡ j = cc in
      ap (is_of name) (sym one) ∙ here
  | inr other ↦ found_name name jobs j (rw other at found)
]

-- no job of a name: none behind a turn or a close of it
none_turned
    : (name : List ℕ) (count : ℕ) (jobs : List Job)
    → find_job name jobs ≡ None
    → find_job name (turn_job name count jobs) ≡ None
none_turned name count [] none = refl
none_turned name count (k ∷ jobs) none = elim (cases_Bool (bytes_eq name k.name)) [
  | inl here ↦ let never : Some k ≡ None = rw here at none in absurd cc
  | inr other ↦ rw (other, other) (none_turned name count jobs (rw other at none))
]

none_closed : (name : List ℕ) (jobs : List Job) → find_job name (close_job name jobs) ≡ None
none_closed name [] = refl
none_closed name (k ∷ jobs) = elim (cases_Bool (bytes_eq name k.name)) [
  | inl here ↦ rw here (none_closed name jobs)
  | inr other ↦ rw (other, other) (none_closed name jobs)
]

-- a job that is put last is found, where the name was closed
found_last
    : (name : List ℕ) (jobs : List Job) (j : Job)
    → is_of name j ≡ true
    → find_job name jobs ≡ None
    → find_job name (jobs ++ j ∷ []) ≡ Some j
found_last name [] j own none = rw own refl
found_last name (k ∷ jobs) j own none = elim (cases_Bool (bytes_eq name k.name)) [
  | inl here ↦ let never : Some k ≡ None = rw here at none in absurd cc
  | inr other ↦ rw other (found_last name jobs j own (rw other at none))
]

-- what a command on the name makes of both
record Goes (name : List ℕ) (jobs alone : List Job) (c : Command) : Type 0 where
  pub same : reply_to jobs c ≡ reply_to alone c
  pub next : after alone c ≡ alone_of (find_job name (after jobs c))

-- how an opening goes on from none of this name
opened_alone
    : (name : List ℕ) (jobs : List Job) (j : Job) (o : Opening)
    → is_of name j ≡ true
    → find_job name jobs ≡ None
    → o ≢ twice
    → o ≢ full
    → opened o j [] ≡ alone_of (find_job name (opened o j jobs))
opened_alone name jobs j twice own none once room = absurd (once refl)
opened_alone name jobs j full own none once room = absurd (room refl)
opened_alone name jobs j too_long own none once room = rw none refl
opened_alone name jobs j free own none once room = rw (found_last name jobs j own none) refl

-- the size of a quotient isn't met as an open name, nor as the greatest number of jobs
size_once : (b : Bool) → cond b too_long free ≢ twice
size_once true e = absurd cc
size_once false e = absurd cc

size_room : (b : Bool) → cond b too_long free ≢ full
size_room true e = absurd cc
size_room false e = absurd cc

-- what an opening of a closed name meets: as of no job, where it doesn't meet the greatest number
begin_goes
    : (name : List ℕ) (jobs : List Job) (handles limit : ℕ) (u v : List Letter)
    → find_job name jobs ≡ None
    → bytes_eq name name ≡ true
    → reply_to jobs (command.Begin name handles limit u v) ≢ reply.Full
    → Goes name jobs [] (command.Begin name handles limit u v)
begin_goes name jobs handles limit u v none self room = elim (cases_Bool (nat_lt (length jobs) MAX_JOBS)) [
  | inl fewer ↦
      let long = nat_lt MAX_LETTERS (length (quotient u v)) in
      let here : opening_of jobs name u v ≡ cond long too_long free = rw (none, fewer) refl in
      let there : opening_of [] name u v ≡ cond long too_long free = refl in
      record {
        same = ap (λ o. opening_reply o name u v) (here ∙ sym there);
        next = rw here (opened_alone name jobs _ (cond long too_long free) self none (size_once long)
            (size_room long));
      }
  | inr more ↦
      let here : opening_of jobs name u v ≡ full = rw (none, more) refl in
      absurd (room (ap (λ o. opening_reply o name u v) here))
]

-- a command on the name where no job of it is open
goes_closed
    : (name : List ℕ) (jobs : List Job) (c : Command)
    → find_job name jobs ≡ None
    → is_on name c ≡ true
    → reply_to jobs c ≢ reply.Full
    → Goes name jobs [] c
goes_closed name jobs (command.Begin own handles limit u v) none on room =
    let names : name ≡ own = (bytes_eq-Decides name own).0 on in
    subst (λ z. reply_to jobs (command.Begin z handles limit u v) ≢ reply.Full
    → Goes name jobs [] (command.Begin z handles limit u v)) names
    (begin_goes name jobs handles limit u v none ((bytes_eq-Decides name name).1 refl)) room
goes_closed name jobs (command.Turn own count) none on room =
    let names : name ≡ own = (bytes_eq-Decides name own).0 on in
    subst (λ z. Goes name jobs [] (command.Turn z count)) names
    (record { same = rw none refl; next = rw (none_turned name count jobs none) refl })
goes_closed name jobs (command.Show own) none on room =
    let names : name ≡ own = (bytes_eq-Decides name own).0 on in
    subst (λ z. Goes name jobs [] (command.Show z)) names
    (record { same = rw none refl; next = rw none refl })
goes_closed name jobs (command.Take own) none on room =
    let names : name ≡ own = (bytes_eq-Decides name own).0 on in
    subst (λ z. Goes name jobs [] (command.Take z)) names
    (record { same = rw none refl; next = rw none refl })
goes_closed name jobs (command.Close own) none on room =
    let names : name ≡ own = (bytes_eq-Decides name own).0 on in
    subst (λ z. Goes name jobs [] (command.Close z)) names
    (record { same = rw none refl; next = rw (none_closed name jobs) refl })
goes_closed name jobs command.List none on room = absurd (true≢false (sym on))

-- a command on the name where its job is open
goes_own
    : (name : List ℕ) (jobs : List Job) (j : Job) (c : Command)
    → find_job name jobs ≡ Some j
    → is_of name j ≡ true
    → is_on name c ≡ true
    → find_job name (after jobs c) ≡ find_job name (after (j ∷ []) c)
goes_own name jobs j c found own on =
    let alone : find_job name (j ∷ []) ≡ Some j = rw own refl in
    find_job-own jobs c name j found on ∙ sym (find_job-own (j ∷ []) c name j alone on)

goes_open
    : (name : List ℕ) (jobs : List Job) (j : Job) (c : Command)
    → find_job name jobs ≡ Some j
    → is_of name j ≡ true
    → is_on name c ≡ true
    → Goes name jobs (j ∷ []) c
goes_open name jobs j (command.Begin own handles limit u v) found test on =
    let names : name ≡ own = (bytes_eq-Decides name own).0 on in
    subst (λ z. Goes name jobs (j ∷ []) (command.Begin z handles limit u v)) names
    (record { same = rw (found, test) refl; next = rw (found, test, found) refl })
goes_open name jobs j (command.Turn own count) found test on =
    let names : name ≡ own = (bytes_eq-Decides name own).0 on in
    let now = goes_own name jobs j (command.Turn name count) found test
    ((bytes_eq-Decides name name).1 refl) in
    subst (λ z. Goes name jobs (j ∷ []) (command.Turn z count)) names
    (record { same = rw (found, test) refl; next = rw now (rw (test, test) refl) })
goes_open name jobs j (command.Show own) found test on =
    let names : name ≡ own = (bytes_eq-Decides name own).0 on in
    subst (λ z. Goes name jobs (j ∷ []) (command.Show z)) names
    (record { same = rw (found, test) refl; next = rw found refl })
goes_open name jobs j (command.Take own) found test on =
    let names : name ≡ own = (bytes_eq-Decides name own).0 on in
    subst (λ z. Goes name jobs (j ∷ []) (command.Take z)) names
    (record { same = rw (found, test) refl; next = rw found refl })
goes_open name jobs j (command.Close own) found test on =
    let names : name ≡ own = (bytes_eq-Decides name own).0 on in
    subst (λ z. Goes name jobs (j ∷ []) (command.Close z)) names
    (record { same = rw (found, test) refl; next = rw (none_closed name jobs, test) refl })
goes_open name jobs j command.List found test on = absurd (true≢false (sym on))

goes_by
    : (name : List ℕ) (jobs : List Job) (c : Command) (f : Option Job)
    → find_job name jobs ≡ f
    → is_on name c ≡ true
    → reply_to jobs c ≢ reply.Full
    → Goes name jobs (alone_of f) c
goes_by name jobs c None found on room = goes_closed name jobs c found on room
goes_by name jobs c (Some j) found on room = goes_open name jobs j c found (found_name name jobs j found) on

-- the replies to the commands on a name, from any jobs on
own_replies-alone
    : (name : List ℕ) (jobs alone : List Job) (cs : List Command)
    → alone ≡ alone_of (find_job name jobs)
    → NoneFull jobs cs
    → own_replies name jobs cs ≡ replies alone (own_lines name cs)
own_replies-alone name jobs alone [] is room = refl
own_replies-alone name jobs alone (c ∷ cs) is room = elim (cases_Bool (is_on name c)) [
  | inl on ↦
      let goes : Goes name jobs alone c = rw is (goes_by name jobs c (find_job name jobs) refl on room.0) in
      rw (on, goes.same)
      (ap (λ rest. reply_to alone c ∷ rest)
      (own_replies-alone name (after jobs c) (after alone c) cs goes.next room.1))
  | inr other ↦
      let same : alone ≡ alone_of (find_job name (after jobs c)) =
      is ∙ ap alone_of (sym (find_job-other jobs c name other)) in
      rw other (own_replies-alone name (after jobs c) alone cs same room.1)
]

pub own_replies-lines
    : (name : List ℕ) (cs : List Command)
    → NoneFull [] cs
    → own_replies name [] cs ≡ replies [] (own_lines name cs)
own_replies-lines name cs room = own_replies-alone name [] [] cs refl room

-- ---- The job ----

-- in the list of one job, or of none, its job is found
alone_found
    : (name : List ℕ) (f : Option Job)
    → ((j : Job) → f ≡ Some j → is_of name j ≡ true)
    → find_job name (alone_of f) ≡ f
alone_found name None own = refl
alone_found name (Some j) own = rw (own j refl) refl

-- the job of a name after all commands, from any jobs on
own_job-alone
    : (name : List ℕ) (jobs alone : List Job) (cs : List Command)
    → alone ≡ alone_of (find_job name jobs)
    → NoneFull jobs cs
    → find_job name (after_all alone (own_lines name cs)) ≡ find_job name (after_all jobs cs)
own_job-alone name jobs alone [] is room =
    ap (find_job name) is ∙ alone_found name (find_job name jobs) (λ j found. found_name name jobs j found)
own_job-alone name jobs alone (c ∷ cs) is room = elim (cases_Bool (is_on name c)) [
  | inl on ↦
      let goes : Goes name jobs alone c = rw is (goes_by name jobs c (find_job name jobs) refl on room.0) in
      rw on (own_job-alone name (after jobs c) (after alone c) cs goes.next room.1)
  | inr other ↦
      let same : alone ≡ alone_of (find_job name (after jobs c)) =
      is ∙ ap alone_of (sym (find_job-other jobs c name other)) in
      rw other (own_job-alone name (after jobs c) alone cs same room.1)
]

-- so its job is that which these commands alone make
pub own_job-lines
    : (name : List ℕ) (cs : List Command)
    → NoneFull [] cs
    → find_job name (after_all [] (own_lines name cs)) ≡ find_job name (after_all [] cs)
own_job-lines name cs room = own_job-alone name [] [] cs refl room
