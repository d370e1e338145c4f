use Rattle.laver_table.proofs.FormLemmas.{IsPeriodic-laver, Doubles-laver}
use Rattle.laver_table.proofs.law.law_doubling.Goals as goal

pub returns-clause-periodic : goal.returns-clause-periodic
returns-clause-periodic c = λ n rows p laver row. IsPeriodic-laver n rows p laver row

pub returns-clause-doubles : goal.returns-clause-doubles
returns-clause-doubles c = λ n small large first second. Doubles-laver n small large first second
