-- The faults of a term, in their order.
use Rattle.std.proofs.Common.{inr, refl, sym, ◌∙◌}
use Rattle.ld_term.specs.TreeTexts.{written}
use Rattle.term_graph.specs.TermFiles.{closing}
use Rattle.term_graph.proofs.LineReadLemmas.{term-refused, line-sound, line-unknown}
use Rattle.term_graph.proofs.term_file.term_at.Goals as goal

pub returns-in-Err-clause-refused : goal.returns-in-Err-clause-refused
returns-in-Err-clause-refused c =
    rw c.fault_at.ensures (term-refused _ _ _ _ c.in-Err.ensures.refused)

pub returns-in-None-clause-sound : goal.returns-in-None-clause-sound
returns-in-None-clause-sound c =
    line-sound _ _ _ (closing (written c.in-Ok.term)) c.in-Ok.ensures.tree c.in-Ok.ensures.small refl
    (sym c.first_unknown.ensures ∙ c.in-None.is)

pub returns-in-Some-clause-refused : goal.returns-in-Some-clause-refused
returns-in-Some-clause-refused c =
    inr (line-unknown _ _ _ (closing (written c.in-Ok.term)) c.in-Ok.ensures.tree _ c.in-Ok.ensures.small refl
    (sym c.first_unknown.ensures ∙ c.in-Some.is))
