use Rattle.std.proofs.Common.{true}
use Rattle.ld_term.proofs.LawLemmas.{nameless-result}
use Rattle.ld_term.proofs.RefusalLemmas.{term_refusal-due}
use Rattle.ld_term.proofs.StrictReadingLemmas.{strict-read, strict-cause}
use Rattle.ld_term.proofs.tree.read_strict.Goals as goal

pub returns-clause-nameless : goal.returns-clause-nameless
returns-clause-nameless c = nameless-result c.args.bytes.now c.read_from.result c.read_from.ensures.tree

pub returns-clause-term : goal.returns-clause-term
returns-clause-term c = strict-read c.args.bytes.now c.read_from.result c.read_from.ensures.tree

pub returns-clause-cause : goal.returns-clause-cause
returns-clause-cause c = strict-cause c.args.bytes.now c.read_from.result c.read_from.ensures.refused

pub returns-clause-exact : goal.returns-clause-exact
returns-clause-exact c =
    let read = c.read_from.ensures in
    term_refusal-due true c.args.bytes.now c.read_from.result read.tree read.small read.refused
