use Rattle.std.proofs.Common.{◌≡◌, Some, None, ap, sym, refl, ◌∙◌}
use Rattle.std.specs.Option.{option_copied}
use Rattle.session_run.specs.Jobs.{Job, find_job, turn_job}
use Rattle.session_run.proofs.ChangeLemmas.{Turned-open, find_job-open, find_job-closed, HasJob-open, turn_job-closed}
use Rattle.session_run.proofs.OwnedLemmas.{HasKeys-turned}
use Rattle.session_run.proofs.session.Session.turn.Goals as goal

pub index_mut-job-requires : goal.index_mut-job-requires
index_mut-job-requires c =
    HasJob-open c.self.inside.jobs c.self.inside.keys.entries c.args.name c.in-Some.key.now c.self.invariant
    (sym c.get.ensures.value ∙ ap option_copied c.in-Some.is)

pub invariant_of-self : goal.invariant_of-self
invariant_of-self c = record {
  distinct = c.self.invariant.distinct;
  each = (Turned-open c.self.inside.jobs c.self.inside.keys.entries c.args.name c.args.count c.in-Some.key.now
      _ _ c.self.invariant
      (sym c.get.ensures.value ∙ ap option_copied c.in-Some.is) c.index_mut-job.ensures.value
      c.turn.ensures).keeps;
  owned = HasKeys-turned c.self.inside.jobs c.self.inside.keys.entries c.in-Some.key.now _ _
      c.self.invariant.owned c.index_mut-job.ensures.value (ap (λ (j : Job). j.name) c.turn.ensures);
}

pub returns-in-None-clause-reply : goal.returns-in-None-clause-reply
returns-in-None-clause-reply c =
    let none = sym c.get.ensures.value ∙ ap option_copied c.in-None.is in
    let closed : find_job c.args.name c.args.self.now ≡ None
    = ap (find_job c.args.name) (sym c.self.view_is)
    ∙ find_job-closed c.self.inside.jobs c.self.inside.keys.entries c.args.name c.self.invariant none in
    rw closed refl

pub returns-in-None-clause-jobs : goal.returns-in-None-clause-jobs
returns-in-None-clause-jobs c =
    let none = sym c.get.ensures.value ∙ ap option_copied c.in-None.is in
    let kept = c.self.inside in
    sym (ap (turn_job c.args.name c.args.count) (sym c.self.view_is)
    ∙ turn_job-closed kept.jobs c.args.name c.args.count kept.keys.entries c.self.invariant.each none
    ∙ c.self.view_is)

pub returns-in-Some-clause-reply : goal.returns-in-Some-clause-reply
returns-in-Some-clause-reply c =
    let found = sym c.get.ensures.value ∙ ap option_copied c.in-Some.is in
    let at : find_job c.args.name c.args.self.now ≡ Some c.index_mut-job.result.now
    = ap (find_job c.args.name) (sym c.self.view_is)
    ∙ find_job-open c.self.inside.jobs c.self.inside.keys.entries c.args.name c.in-Some.key.now _
    c.self.invariant found c.index_mut-job.ensures.value in
    rw (c.line.ensures, c.turn.ensures, at) refl

pub returns-in-Some-clause-jobs : goal.returns-in-Some-clause-jobs
returns-in-Some-clause-jobs c =
    let found = sym c.get.ensures.value ∙ ap option_copied c.in-Some.is in
    (Turned-open c.self.inside.jobs c.self.inside.keys.entries c.args.name c.args.count c.in-Some.key.now _ _
    c.self.invariant found c.index_mut-job.ensures.value c.turn.ensures).jobs
    ∙ ap (turn_job c.args.name c.args.count) c.self.view_is
