-- A name is unknown where it has no number.
use Rattle.std.proofs.Common.{sym, ap, ◌∙◌}
use Rattle.ld_term.specs.TreeTexts.{written}
use Rattle.term_graph.proofs.RequestLemmas.{unknown-none, unknown-some}
use Rattle.term_graph.proofs.term_file.+first_unknown.Goals as goal

pub returns-in-Some : goal.returns-in-Some
returns-in-Some t c = unknown-none _ _ _ _ _ (ap written c.in-Named.is) (sym c.find.ensures ∙ c.in-Some.is)

pub returns-in-None : goal.returns-in-None
returns-in-None t c = unknown-some _ _ _ _ (ap written c.in-Named.is) (sym c.find.ensures ∙ c.in-None.is)
