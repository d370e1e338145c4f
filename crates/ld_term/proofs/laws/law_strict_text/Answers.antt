use Rattle.std.proofs.Common.{◌∙◌, ap}
use Rattle.ld_term.specs.StrictTexts.{strict_term_of}
use Rattle.ld_term.proofs.StrictReadingLemmas.{strict_term_of-is, strict_term_of-strict_text}
use Rattle.ld_term.proofs.StrictLemmas.{IsTermText-strict_text, strict_text-inj}
use Rattle.ld_term.proofs.laws.law_strict_text.Goals as goal

pub returns-clause-text : goal.returns-clause-text
returns-clause-text c = λ t. IsTermText-strict_text t

pub returns-clause-one : goal.returns-clause-one
returns-clause-one c = λ t u is. strict_text-inj t u is

pub returns-clause-read : goal.returns-clause-read
returns-clause-read c = λ bytes t. (
  λ read. strict_term_of-is bytes t read,
  λ is. ap strict_term_of is ∙ strict_term_of-strict_text t,
)
