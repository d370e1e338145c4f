use Rattle.std.proofs.Common.{ap, sym, ◌∙◌}
use Rattle.std.specs.Option.{option_copied}
use Rattle.session_run.specs.Jobs.{find_job}
use Rattle.session_run.proofs.KeepLemmas.{job_at, find_job-lookup}
use Rattle.session_run.proofs.session.Session.find.Goals as goal

pub returns-in_err-key : goal.returns-in_err-key
returns-in_err-key c =
    let kept = c.self.inside in
    let none = sym c.get.ensures.value ∙ ap option_copied c.in_err-key.was in
    rw c.from_residual.ensures
    (sym (ap (find_job c.args.name) (sym c.self.view_is)
    ∙ find_job-lookup kept.jobs c.args.name kept.keys.entries c.self.invariant.each
    ∙ ap (job_at kept.jobs) none))

pub returns : goal.returns
returns c =
    let kept = c.self.inside in
    let found = sym c.get.ensures.value ∙ ap option_copied c.in_ok-key.was in
    c.get-2.ensures
    ∙ sym (ap (find_job c.args.name) (sym c.self.view_is)
    ∙ find_job-lookup kept.jobs c.args.name kept.keys.entries c.self.invariant.each
    ∙ ap (job_at kept.jobs) found)
