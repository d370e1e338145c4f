-- What a reply to a command can be.
use Rattle.std.proofs.Common.{◌≡◌, ◌≢◌, ◌⊎◌, ℕ, true, false, List, Option, Some, None, refl, ap, sym, ◌∙◌, inl, inr, true≢false}
use Rattle.std.proofs.lemmas.Bool.{cases_Bool}
use Rattle.braid_word.specs.Words.{Letter, quotient}
use Rattle.braid_word.specs.declared.sign.Sign.TheVariants.{Empty, Positive, Negative, Mixed}
use Rattle.handle_reduce.specs.declared.progress.Progress.{Progress}
use Rattle.handle_reduce.specs.declared.progress.Progress.TheVariants as progress
use Rattle.handle_reduce.specs.Runs.{run_after}
use Rattle.handle_reduce.proofs.SignOfReduced.{run_after-Mixed}
use Rattle.session_run.specs.declared.command.Command.{Command}
use Rattle.session_run.specs.declared.command.Command.TheVariants as command
use Rattle.session_run.specs.declared.reply.Reply.{Reply}
use Rattle.session_run.specs.declared.reply.Reply.TheVariants as reply
use Rattle.session_run.specs.Jobs.{Job, state_of, more_turns, find_job, Opening, twice, full, too_long, free, opening_of, after, is_on, lives}
use Rattle.session_run.specs.Replies.{is_done, opening_reply, state_reply, turn_reply, take_reply, close_reply, reply_to, IsBegin}
use Rattle.session_run.specs.ReplyText.{IsSayable, HasVerdict, CanPut}
use Rattle.session_run.proofs.CommandLemmas.{find_job-other, find_job-own}

-- ---- States ----

-- a state is that of no run done with a mixed sign
sayable_by
    : (w : List Letter) (handles limit t : ℕ) (p : Progress)
    → (run_after w handles limit t).progress ≡ p
    → IsSayable p
sayable_by w handles limit t progress.Running is = tt
sayable_by w handles limit t (progress.Done Empty) is = tt
sayable_by w handles limit t (progress.Done (Positive i)) is = tt
sayable_by w handles limit t (progress.Done (Negative i)) is = tt
sayable_by w handles limit t (progress.Done (Mixed i)) is = run_after-Mixed w handles limit t i is
sayable_by w handles limit t progress.HandlesMet is = tt
sayable_by w handles limit t progress.LengthMet is = tt

pub IsSayable-state : (j : Job) → IsSayable (state_of j).progress
IsSayable-state j = sayable_by (quotient j.left j.right) j.handles j.limit j.turns _ refl

-- a done run has a verdict
verdict_by
    : (w : List Letter) (handles limit t : ℕ) (p : Progress)
    → (run_after w handles limit t).progress ≡ p
    → is_done p ≡ true
    → HasVerdict p
verdict_by w handles limit t progress.Running is done = absurd (true≢false (sym done))
verdict_by w handles limit t (progress.Done Empty) is done = tt
verdict_by w handles limit t (progress.Done (Positive i)) is done = tt
verdict_by w handles limit t (progress.Done (Negative i)) is done = tt
verdict_by w handles limit t (progress.Done (Mixed i)) is done = run_after-Mixed w handles limit t i is
verdict_by w handles limit t progress.HandlesMet is done = absurd (true≢false (sym done))
verdict_by w handles limit t progress.LengthMet is done = absurd (true≢false (sym done))

pub HasVerdict-state : (j : Job) → is_done (state_of j).progress ≡ true → HasVerdict (state_of j).progress
HasVerdict-state j done = verdict_by (quotient j.left j.right) j.handles j.limit j.turns _ refl done

-- ---- Replies that can be written ----

opening_can
    : (jobs : List Job) (opening : Opening) (name : List ℕ) (u v : List Letter)
    → CanPut jobs (opening_reply opening name u v)
opening_can jobs twice name u v = tt
opening_can jobs full name u v = tt
opening_can jobs too_long name u v = tt
opening_can jobs free name u v = tt

turn_can
    : (jobs : List Job) (name : List ℕ) (count : ℕ) (found : Option Job)
    → CanPut jobs (turn_reply name count found)
turn_can jobs name count None = tt
turn_can jobs name count (Some j) = IsSayable-state (more_turns count j)

show_can : (jobs : List Job) (name : List ℕ) (found : Option Job) → CanPut jobs (state_reply name found)
show_can jobs name None = tt
show_can jobs name (Some j) = IsSayable-state j

close_can : (jobs : List Job) (name : List ℕ) (found : Option Job) → CanPut jobs (close_reply name found)
close_can jobs name None = tt
close_can jobs name (Some j) = tt

take_can
    : (jobs : List Job) (name : List ℕ) (found : Option Job)
    → find_job name jobs ≡ found
    → CanPut jobs (take_reply name found)
take_can jobs name None is = tt
take_can jobs name (Some j) is = elim (cases_Bool (is_done (state_of j).progress)) [
  | inl done ↦ rw (done, is) (HasVerdict-state j done)
  | inr other ↦ rw other (IsSayable-state j)
]

-- the reply to a command can be written behind it
pub CanPut-after : (jobs : List Job) (c : Command) → CanPut (after jobs c) (reply_to jobs c)
CanPut-after jobs (command.Begin name handles limit left right) =
    opening_can _ (opening_of jobs name left right) name left right
CanPut-after jobs (command.Turn name count) = turn_can _ name count (find_job name jobs)
CanPut-after jobs (command.Show name) = show_can jobs name (find_job name jobs)
CanPut-after jobs (command.Take name) = take_can jobs name (find_job name jobs) refl
CanPut-after jobs (command.Close name) = close_can _ name (find_job name jobs)
CanPut-after jobs command.List = tt

-- ---- What a command leaves, also at want of memory ----

pub memory_or : (r : Reply) → (r ≡ reply.Memory) ⊎ (r ≢ reply.Memory)
memory_or (reply.Opened name) = inr (λ e. absurd cc)
memory_or (reply.State j) = inr (λ e. absurd cc)
memory_or (reply.Taken name) = inr (λ e. absurd cc)
memory_or (reply.Closed name) = inr (λ e. absurd cc)
memory_or reply.List = inr (λ e. absurd cc)
memory_or (reply.NoJob name) = inr (λ e. absurd cc)
memory_or (reply.Twice name) = inr (λ e. absurd cc)
memory_or reply.Full = inr (λ e. absurd cc)
memory_or (reply.TooLong count) = inr (λ e. absurd cc)
memory_or reply.Memory = inl refl

lives-begin : (j : Job) (c : Command) → IsBegin c → lives j c ≡ Some j
lives-begin j (command.Begin name handles limit left right) begins = refl
lives-begin j (command.Turn name count) begins = absurd begins
lives-begin j (command.Show name) begins = absurd begins
lives-begin j (command.Take name) begins = absurd begins
lives-begin j (command.Close name) begins = absurd begins
lives-begin j command.List begins = absurd begins

pub others_stay
    : (old new : List Job) (c : Command) (r : Reply)
    → (r ≢ reply.Memory → new ≡ after old c)
    → (r ≡ reply.Memory → IsBegin c × (new ≡ old))
    → (name : List ℕ)
    → is_on name c ≡ false
    → find_job name new ≡ find_job name old
others_stay old new c r done none name other = elim (memory_or r) [
  | inl memory ↦ ap (find_job name) (none memory).1
  | inr reached ↦ ap (find_job name) (done reached) ∙ find_job-other old c name other
]

pub own_lives
    : (old new : List Job) (c : Command) (r : Reply)
    → (r ≢ reply.Memory → new ≡ after old c)
    → (r ≡ reply.Memory → IsBegin c × (new ≡ old))
    → (name : List ℕ) (j : Job)
    → find_job name old ≡ Some j
    → is_on name c ≡ true
    → find_job name new ≡ lives j c
own_lives old new c r done none name j found on = elim (memory_or r) [
  | inl memory ↦ ap (find_job name) (none memory).1 ∙ found ∙ sym (lives-begin j c (none memory).0)
  | inr reached ↦ ap (find_job name) (done reached) ∙ find_job-own old c name j found on
]

pub can_put
    : (old new : List Job) (c : Command) (r : Reply)
    → (r ≢ reply.Memory → r ≡ reply_to old c)
    → (r ≢ reply.Memory → new ≡ after old c)
    → r ≢ reply.Memory
    → CanPut new r
can_put old new c r says done reached = rw (done reached, says reached) (CanPut-after old c)
