use Rattle.ld_term.proofs.RefusalLemmas.{definition_refusal-due}
use Rattle.ld_term.proofs.definition.read_definition.Goals as goal

pub returns-clause-exact : goal.returns-clause-exact
returns-clause-exact c =
    let read = c.read_parts.ensures in
    definition_refusal-due c.args.line.now c.read_parts.result read.definition read.small read.refused
