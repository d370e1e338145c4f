use Rattle.std.proofs.Common.{◌++◌, ◌∷◌, [], ap, ◌∙◌}
use Rattle.std.specs.Map.{keys_of}
use Rattle.slab.specs.Slab.{Slab}
use Rattle.session_run.specs.Jobs.{Job, find_job}
use Rattle.session_run.proofs.KeepLemmas.{distinct_bytes}
use Rattle.session_run.proofs.ChangeLemmas.{Added-open}
use Rattle.session_run.proofs.session.Session.add.Goals as goal

pub invariant_of-self-2 : goal.invariant_of-self-2
invariant_of-self-2 c =
    let kept = c.self.inside in
    let added = Added-open kept.jobs c.reserve-2.new.self c.insert_reserved-key.new.self c.reserve.new.self
    kept.keys.entries c.insert.new.self.entries c.insert_reserved-key.result
    (record {
      name = c.args.name;
      left = c.args.words.0;
      right = c.args.words.1;
      handles = c.args.handles;
      limit = c.args.limit;
      turns = 0;
    })
    c.self.invariant (ap (λ (s : Slab Job). s.slots) c.reserve-2.ensures.rest_kept) c.reserve.ensures.entries
    (ap (find_job c.args.name) c.self.view_is ∙ c.requires.closed)
    c.insert_reserved-key.ensures.was_vacant (rw c.in_ok-job.ensures at c.insert_reserved-key.ensures.updates)
    c.in-Ok.ensures.entries in
    record {
      distinct = distinct_bytes (keys_of c.insert.new.self.entries) c.insert.ensures.unique;
      each = added.1;
      owned = added.2;
    }

pub returns-clause-ok : goal.returns-clause-ok
returns-clause-ok c =
    let kept = c.self.inside in
    let job : Job =
    record {
      name = c.args.name;
      left = c.args.words.0;
      right = c.args.words.1;
      handles = c.args.handles;
      limit = c.args.limit;
      turns = 0;
    } in
    let added = Added-open kept.jobs c.reserve-2.new.self c.insert_reserved-key.new.self c.reserve.new.self
    kept.keys.entries c.insert.new.self.entries c.insert_reserved-key.result
    job c.self.invariant (ap (λ (s : Slab Job). s.slots) c.reserve-2.ensures.rest_kept)
    c.reserve.ensures.entries
    (ap (find_job c.args.name) c.self.view_is ∙ c.requires.closed)
    c.insert_reserved-key.ensures.was_vacant (rw c.in_ok-job.ensures at c.insert_reserved-key.ensures.updates)
    c.in-Ok.ensures.entries in
    added.0 ∙ ap (λ jobs. jobs ++ job ∷ []) c.self.view_is
