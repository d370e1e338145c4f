use Rattle.term_expand.proofs.ExpandLemmas.{IfOk-Expands}
use Rattle.term_expand.proofs.expansion.expand.Goals as goal

pub returns-clause-expands : goal.returns-clause-expands
returns-clause-expands c = IfOk-Expands _ _ _ _ c.expand_at.ensures.term
