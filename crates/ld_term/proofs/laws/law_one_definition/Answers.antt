use Rattle.ld_term.specs.Written.{Written}
use Rattle.ld_term.specs.Grammar.{IsDefinitionOf}
use Rattle.ld_term.proofs.LawLemmas.{fault-none}
use Rattle.ld_term.proofs.RefusalLemmas.{definition-unique}
use Rattle.ld_term.proofs.laws.law_one_definition.Goals as goal

pub returns-clause-one : goal.returns-clause-one
returns-clause-one c = λ bytes other at place t u first second.
    let alike = definition-unique _ bytes other at place t u first second in
    (alike.names, alike.places, alike.terms)

pub returns-clause-fault : goal.returns-clause-fault
returns-clause-fault c = λ place fault t text.
    fault-none (λ tokens. (t : Written) × IsDefinitionOf tokens t) _ _ place fault (t, text)
