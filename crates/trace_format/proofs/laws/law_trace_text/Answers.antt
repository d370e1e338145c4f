use Rattle.trace_format.proofs.TraceLaws.{trace_text-injective, term_trace_text-strict_text}
use Rattle.trace_format.proofs.laws.law_trace_text.Goals as goal

pub returns-clause-one : goal.returns-clause-one
returns-clause-one c = λ s t first second same. trace_text-injective s t first second same

pub returns-clause-terms : goal.returns-clause-terms
returns-clause-terms c = λ t u steps verdict witness. term_trace_text-strict_text t u steps verdict witness
