use Rattle.std.proofs.Common.{false}
use Rattle.ld_term.proofs.RefusalLemmas.{term_refusal-due}
use Rattle.ld_term.proofs.tree.read_term.Goals as goal

pub returns-clause-exact : goal.returns-clause-exact
returns-clause-exact c =
    let read = c.read_from.ensures in
    term_refusal-due false c.args.line.now c.read_from.result read.tree read.small read.refused
