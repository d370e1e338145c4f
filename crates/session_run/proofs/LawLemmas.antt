-- What the lines of one name make of its job.
use Rattle.std.proofs.Common.{◌≡◌, ℕ, ◌+◌, ◌≤◌, min, true, false, List, [], ◌∷◌, Some, refl, ap, sym, ◌∙◌, inl, inr, arith, true≢false}
use Rattle.std.proofs.lemmas.Bool.{cases_Bool}
use Rattle.session_run.specs.declared.command.Command.{Command}
use Rattle.session_run.specs.declared.command.Command.TheVariants as command
use Rattle.session_run.specs.Jobs.{Job, find_job, more_turns, after, after_all, is_on, lives}
use Rattle.session_run.specs.OwnLines.{own_count, own_turns, closes, ClosesNone}
use Rattle.session_run.proofs.CommandLemmas.{find_job-other, find_job-own}

-- no turn more
more_turns-none : (j : Job) → j.turns ≤ j.handles → more_turns 0 j ≡ j
more_turns-none j within =
    let same : min j.handles (j.turns + 0) ≡ j.turns = omega arith in
    ap (λ t. record j { turns = t }) same

-- turns after turns
more_turns-add : (j : Job) (a b : ℕ) → more_turns b (more_turns a j) ≡ more_turns (a + b) j
more_turns-add j a b =
    let same : min j.handles (min j.handles (j.turns + a) + b) ≡ min j.handles (j.turns + (a + b)) =
    omega arith in
    ap (λ t. record j { turns = t }) same

-- a command that isn't on a name gives it no turn
own_count-other : (name : List ℕ) (c : Command) → is_on name c ≡ false → own_count name c ≡ 0
own_count-other name (command.Begin own handles limit left right) other = refl
own_count-other name (command.Turn own count) other = rw other refl
own_count-other name (command.Show own) other = refl
own_count-other name (command.Take own) other = refl
own_count-other name (command.Close own) other = refl
own_count-other name command.List other = refl

-- an open job behind a command on its name that doesn't close it
lives-open
    : (name : List ℕ) (j : Job) (c : Command)
    → j.turns ≤ j.handles
    → is_on name c ≡ true
    → closes name c ≡ false
    → lives j c ≡ Some (more_turns (own_count name c) j)
lives-open name j (command.Begin own handles limit left right) within on opens =
    ap Some (sym (more_turns-none j within))
lives-open name j (command.Turn own count) within on opens = rw on refl
lives-open name j (command.Show own) within on opens = ap Some (sym (more_turns-none j within))
lives-open name j (command.Take own) within on opens = ap Some (sym (more_turns-none j within))
lives-open name j (command.Close own) within on opens = absurd (true≢false (sym on ∙ opens))
lives-open name j command.List within on opens = ap Some (sym (more_turns-none j within))

-- an open job behind any command that doesn't close it
open_after
    : (name : List ℕ) (jobs : List Job) (j : Job) (c : Command)
    → find_job name jobs ≡ Some j
    → j.turns ≤ j.handles
    → closes name c ≡ false
    → find_job name (after jobs c) ≡ Some (more_turns (own_count name c) j)
open_after name jobs j c found within opens = elim (cases_Bool (is_on name c)) [
  | inl on ↦ find_job-own jobs c name j found on ∙ lives-open name j c within on opens
  | inr other ↦
      let none : own_count name c ≡ 0 = own_count-other name c other in
      rw none (find_job-other jobs c name other ∙ found ∙ ap Some (sym (more_turns-none j within)))
]

-- and behind such commands
pub find_job-after_all
    : (name : List ℕ) (jobs : List Job) (cs : List Command) (j : Job)
    → find_job name jobs ≡ Some j
    → j.turns ≤ j.handles
    → ClosesNone name cs
    → find_job name (after_all jobs cs) ≡ Some (more_turns (own_turns name cs) j)
find_job-after_all name jobs [] j found within opens = found ∙ ap Some (sym (more_turns-none j within))
find_job-after_all name jobs (c ∷ cs) j found within opens =
    find_job-after_all name (after jobs c) cs (more_turns (own_count name c) j)
    (open_after name jobs j c found within opens.0) (omega arith) opens.1
    ∙ ap Some (more_turns-add j (own_count name c) (own_turns name cs))
