-- The letters that are left make the word whole.
use Rattle.std.proofs.Common.{◌-◌}
use Rattle.wb_words.specs.Bench.{made_word, state_after}
use Rattle.wb_words.proofs.TallyLemmas.{IsMade}
use Rattle.wb_words.proofs.bench.make_word.Given as goal

abbrev pub invariant-loop : goal.invariant-loop
invariant-loop l =
    IsMade l.fn.strands (l.fn.size - l.counter) l.word l.state (made_word l.fn.strands l.fn.size l.fn.state)
    (state_after l.fn.size l.fn.state)
