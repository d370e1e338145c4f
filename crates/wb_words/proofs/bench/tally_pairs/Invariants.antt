-- The runs that are left lead to the whole tally.
use Rattle.std.proofs.Common.{◌-◌}
use Rattle.wb_words.specs.Bench.{none_counted, tallied}
use Rattle.wb_words.proofs.TallyLemmas.{IsTallied}
use Rattle.wb_words.proofs.bench.tally_pairs.Given as goal

abbrev pub invariant-loop : goal.invariant-loop
invariant-loop l =
    IsTallied l.fn.pairs (l.fn.count - l.counter) l.counter l.state l.tally
    (tallied l.fn.pairs l.fn.count l.fn.seed none_counted)
