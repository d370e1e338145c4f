use Rattle.std.proofs.Common.{◌≡◌, Some, None, ap, sym, refl, ◌∙◌}
use Rattle.std.specs.Map.{keys_of}
use Rattle.session_run.specs.Jobs.{find_job, close_job}
use Rattle.session_run.specs.Keeping.{jobs_of}
use Rattle.session_run.proofs.KeepLemmas.{distinct_bytes}
use Rattle.session_run.proofs.ChangeLemmas.{Closed-open, find_job-open, find_job-closed, HasJob-open, close_job-closed}
use Rattle.session_run.proofs.OwnedLemmas.{HasKeys-closed}
use Rattle.session_run.proofs.session.Session.close.Goals as goal

pub remove-requires : goal.remove-requires
remove-requires c =
    HasJob-open c.self.inside.jobs c.self.inside.keys.entries c.args.name c.in-Some.key c.self.invariant
    (sym c.shift_remove.ensures.value ∙ c.in-Some.is)

pub invariant_of-self-in-Some : goal.invariant_of-self-in-Some
invariant_of-self-in-Some c =
    let found = sym c.shift_remove.ensures.value ∙ c.in-Some.is in
    let closed =
    Closed-open c.self.inside.jobs c.remove.new.self c.self.inside.keys.entries c.args.name c.in-Some.key
    _ c.self.invariant found c.remove.ensures.value c.remove.ensures.updates in
    record {
      distinct = distinct_bytes (keys_of c.shift_remove.new.self.entries) c.shift_remove.ensures.unique;
      each = rw c.shift_remove.ensures.entries closed.keeps;
      owned = rw c.shift_remove.ensures.entries
          (HasKeys-closed c.self.inside.jobs c.remove.new.self c.self.inside.keys.entries c.args.name
          c.in-Some.key
          c.self.invariant.distinct c.self.invariant.owned found c.remove.ensures.updates);
    }

pub returns-in-None-clause-reply : goal.returns-in-None-clause-reply
returns-in-None-clause-reply c =
    let none = sym c.shift_remove.ensures.value ∙ c.in-None.is in
    let closed : find_job c.args.name c.args.self.now ≡ None
    = ap (find_job c.args.name) (sym c.self.view_is)
    ∙ find_job-closed c.self.inside.jobs c.self.inside.keys.entries c.args.name c.self.invariant none in
    rw closed refl

pub returns-in-None-clause-jobs : goal.returns-in-None-clause-jobs
returns-in-None-clause-jobs c =
    let none = sym c.shift_remove.ensures.value ∙ c.in-None.is in
    let kept = c.self.inside in
    ap (jobs_of kept.jobs) c.in-None.ensures.unchanged
    ∙ sym (close_job-closed kept.jobs c.args.name kept.keys.entries c.self.invariant.each none)
    ∙ ap (close_job c.args.name) c.self.view_is

pub returns-in-Some-clause-reply : goal.returns-in-Some-clause-reply
returns-in-Some-clause-reply c =
    let found = sym c.shift_remove.ensures.value ∙ c.in-Some.is in
    let at : find_job c.args.name c.args.self.now ≡ Some c.remove.result
    = ap (find_job c.args.name) (sym c.self.view_is)
    ∙ find_job-open c.self.inside.jobs c.self.inside.keys.entries c.args.name c.in-Some.key _
    c.self.invariant found c.remove.ensures.value in
    rw at refl

pub returns-in-Some-clause-jobs : goal.returns-in-Some-clause-jobs
returns-in-Some-clause-jobs c =
    let found = sym c.shift_remove.ensures.value ∙ c.in-Some.is in
    let closed =
    Closed-open c.self.inside.jobs c.remove.new.self c.self.inside.keys.entries c.args.name c.in-Some.key
    _ c.self.invariant found c.remove.ensures.value c.remove.ensures.updates in
    ap (jobs_of c.remove.new.self) c.shift_remove.ensures.entries ∙ closed.jobs
    ∙ ap (close_job c.args.name) c.self.view_is
