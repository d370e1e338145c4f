use Rattle.term_graph.proofs.AskLemmas.{Extends-term_at, ask_all-Grants, ask_all-skip}
use Rattle.term_graph.proofs.AskLemmas.{has_term-in}
use Rattle.term_graph.proofs.laws.law_requests.Goals as goal

pub returns-clause-kept : goal.returns-clause-kept
returns-clause-kept c = λ old new requests is n within.
    Extends-term_at (ask_all-Grants old requests new is).extends n within

pub returns-clause-there : goal.returns-clause-there
returns-clause-there c = λ old new requests is k d within.
    (ask_all-Grants old requests new is).has _ (has_term-in requests k d within)

pub returns-clause-skipped : goal.returns-clause-skipped
returns-clause-skipped c = λ old before t after among. ask_all-skip old before t after among
