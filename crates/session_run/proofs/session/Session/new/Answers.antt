use Rattle.std.specs.Map.{keys_of}
use Rattle.session_run.proofs.KeepLemmas.{distinct_bytes}
use Rattle.session_run.proofs.OwnedLemmas.{HasKeys-empty}
use Rattle.session_run.proofs.session.Session.new.Goals as goal

pub invariant_of-result : goal.invariant_of-result
invariant_of-result c = record {
  distinct = distinct_bytes (keys_of c.new-2.result.entries) c.new-2.ensures.unique;
  each = rw c.new-2.ensures.empty tt;
  owned = HasKeys-empty c.new.result c.new-2.result.entries c.new.ensures.empty;
}
