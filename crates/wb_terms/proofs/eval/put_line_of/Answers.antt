use Rattle.std.proofs.Common.{refl}
use Rattle.wb_base.proofs.StreamLemmas.{Puts-stopped, Puts-more}
use Rattle.wb_terms.proofs.eval.put_line_of.Goals as goal

pub returns-in_err-put_word-clause-took : goal.returns-in_err-put_word-clause-took
returns-in_err-put_word-clause-took g c =
    Puts-stopped _ _ _ _ _ _ refl c.from_residual.ensures.0 c.in_err-put_word.ensures.took

pub returns-clause-took : goal.returns-clause-took
returns-clause-took g c =
    Puts-more _ _ _ _ _ _ _ refl c.in_ok-put_word.ensures.took c.give_all.ensures.took
