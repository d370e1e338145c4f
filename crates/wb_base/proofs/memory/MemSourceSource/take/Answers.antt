use Rattle.std.proofs.Common.{ap}
use Rattle.wb_base.specs.StreamStates.{SourceState}
use Rattle.wb_base.proofs.MemoryLemmas.{takes_part}
use Rattle.wb_base.proofs.memory.MemSourceSource.take.Goals as goal

pub returns-clause-bytes : goal.returns-clause-bytes
returns-clause-bytes c =
    takes_part _ _ _ _ _ _ _ (ap (λ (s : SourceState). s.left) c.self.view_is) c.deref-2.ensures.value
    c.copy_front-n.ensures.count c.copy_front-n.ensures.copied c.self.invariant.1
