use Rattle.wb_words.proofs.TallyLemmas.{run-small}
use Rattle.wb_words.proofs.bench.run_of.Goals as goal

pub returns-clause-steps : goal.returns-clause-steps
returns-clause-steps c =
    run-small _ c.args.pairs.handles _ _ (c.turn.ensures.run _ _ _ _ c.in_ok-reducer.ensures)
    c.requires.bounded.handles
