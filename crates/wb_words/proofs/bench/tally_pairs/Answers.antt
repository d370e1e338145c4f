use Rattle.std.proofs.Common.{arith}
use Rattle.wb_words.proofs.TallyLemmas.{IsTallied-begin, IsTallied-next, IsTallied-room, IsTallied-done}
use Rattle.wb_words.proofs.bench.tally_pairs.Goals as goal

pub loop-init : goal.loop-init
loop-init c = IsTallied-begin c.args.pairs c.args.count c.args.seed

pub count_pair-requires-clause-room : goal.count_pair-requires-clause-room
count_pair-requires-clause-room c =
    IsTallied-room _ _ c.args.count c.loop.counter _ _ _ (omega arith) c.requires.count c.loop.invariant

pub loop-preserved : goal.loop-preserved
loop-preserved c =
    IsTallied-next _ _ c.loop.counter _ _ _ _ _ (omega arith) c.in_ok-state.ensures.state
    c.in_ok-state.ensures.tally.0 c.in_ok-state.ensures.tally.1 c.loop.invariant

pub returns : goal.returns
returns c = IsTallied-done _ _ c.loop.counter _ _ _ (omega arith) c.loop.invariant
