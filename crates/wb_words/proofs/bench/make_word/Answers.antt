use Rattle.std.proofs.Common.{arith, length, ap, ◌∙◌}
use Rattle.wb_words.proofs.TallyLemmas.{IsMade-begin, IsMade-next, IsMade-done, length-made_word}
use Rattle.wb_words.proofs.bench.make_word.Goals as goal

pub loop-init : goal.loop-init
loop-init c = IsMade-begin c.args.strands c.args.size _ c.args.state c.new-word.ensures

pub loop-preserved : goal.loop-preserved
loop-preserved c =
    IsMade-next _ _ c.loop.counter _ _ _ _ _ _ _ (omega arith) c.in_ok-push.ensures.ok c.letter_at.ensures
    c.next_state-state.ensures c.loop.invariant

pub returns-clause-word : goal.returns-clause-word
returns-clause-word c = (IsMade-done _ _ c.loop.counter _ _ _ _ (omega arith) c.loop.invariant).0

pub returns-clause-state : goal.returns-clause-state
returns-clause-state c = (IsMade-done _ _ c.loop.counter _ _ _ _ (omega arith) c.loop.invariant).1

pub returns-clause-length : goal.returns-clause-length
returns-clause-length c =
    ap length (IsMade-done _ _ c.loop.counter _ _ _ _ (omega arith) c.loop.invariant).0
    ∙ length-made_word c.args.strands c.args.size c.args.state
