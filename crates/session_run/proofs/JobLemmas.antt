-- Jobs, their runs, and what a turn makes of them.
use Rattle.std.proofs.Common.{◌≡◌, ℕ, ◌+◌, min, List, refl, ap, ◌∙◌, inl, inr, arith}
use Rattle.std.proofs.lemmas.Bool.{cases_lt}
use Rattle.braid_word.specs.Words.{Letter, quotient}
use Rattle.handle_reduce.specs.Runs.{LimitedRun, IsRunAfter, run_after}
use Rattle.handle_reduce.proofs.RunLemmas.{run_after-past}
use Rattle.session_run.specs.Jobs.{Job}
use Rattle.session_run.specs.Keeping.{Works}

-- a run stands after a sum of turns as after the sum cut at its limit of reductions
pub run_after-cut
    : (w : List Letter) (handles limit sum cut : ℕ)
    → cut ≡ min handles sum
    → run_after w handles limit sum ≡ run_after w handles limit cut
run_after-cut w handles limit sum cut is = elim (cases_lt handles sum) [
  | inl past ↦ let same : cut ≡ handles = omega arith in
      rw same (run_after-past w handles limit sum (omega arith))
  | inr within ↦ let same : cut ≡ sum = omega arith in rw same refl
]

-- a job and its reducer after more turns
pub Works-turned
    : (j : Job) (r new : LimitedRun) (count turns : ℕ)
    → Works j r
    → (IsRunAfter (quotient j.left j.right) j.handles j.limit j.turns r
    → IsRunAfter (quotient j.left j.right) j.handles j.limit (j.turns + count) new)
    → turns ≡ min j.handles (j.turns + count)
    → Works (record j { turns = turns }) new
Works-turned j r new count turns works turned is =
    record {
      few_handles = works.few_handles;
      few_turns = omega (arith, is);
      run = turned works.run ∙ ap (λ s. record { handles = j.handles; limit = j.limit; run = s })
          (run_after-cut (quotient j.left j.right) j.handles j.limit (j.turns + count) turns is);
    }
