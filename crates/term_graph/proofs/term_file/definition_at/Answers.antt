-- The faults of a definition, in their order.
use Rattle.std.proofs.Common.{is_some, inr, sym, ap, ◌∙◌}
use Rattle.ld_term.specs.TreeTexts.{written}
use Rattle.term_graph.specs.TermFiles.{definition}
use Rattle.term_graph.proofs.LineReadLemmas.{definition-refused, line-twice, line-sound, line-unknown, twice-some, twice-none}
use Rattle.term_graph.proofs.term_file.definition_at.Goals as goal

pub returns-in-Err-clause-refused : goal.returns-in-Err-clause-refused
returns-in-Err-clause-refused c =
    rw c.fault_at.ensures (definition-refused _ _ _ _ c.in-Err.ensures.refused)

pub returns-then-is_some-clause-refused : goal.returns-then-is_some-clause-refused
returns-then-is_some-clause-refused c =
    let d = c.in-Ok.definition in
    inr (line-twice _ _ _ (definition d.name d.place (written d.term)) c.in-Ok.ensures.definition _
    c.in-Ok.ensures.small
    (twice-some _ _ d.name d.place (written d.term)
    (ap is_some (sym c.find.ensures) ∙ sym c.is_some.ensures ∙ c.if-is_some.true)))

pub returns-in-None-clause-sound : goal.returns-in-None-clause-sound
returns-in-None-clause-sound c =
    let d = c.in-Ok.definition in
    line-sound _ _ _ (definition d.name d.place (written d.term)) c.in-Ok.ensures.definition
    c.in-Ok.ensures.small
    (twice-none _ _ d.name d.place (written d.term)
    (ap is_some (sym c.find.ensures) ∙ sym c.is_some.ensures ∙ c.if-is_some.false))
    (sym c.first_unknown.ensures ∙ c.in-None.is)

pub returns-in-Some-clause-refused : goal.returns-in-Some-clause-refused
returns-in-Some-clause-refused c =
    let d = c.in-Ok.definition in
    inr (line-unknown _ _ _ (definition d.name d.place (written d.term)) c.in-Ok.ensures.definition _
    c.in-Ok.ensures.small
    (twice-none _ _ d.name d.place (written d.term)
    (ap is_some (sym c.find.ensures) ∙ sym c.is_some.ensures ∙ c.if-is_some.false))
    (sym c.first_unknown.ensures ∙ c.in-Some.is))
