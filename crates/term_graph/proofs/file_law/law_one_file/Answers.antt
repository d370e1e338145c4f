use Rattle.term_graph.proofs.FileLemmas.{IsFileRefusal-unique, IsFileRefusal-file, IsTermFile-made, IsTermFile-terms}
use Rattle.term_graph.proofs.file_law.law_one_file.Goals as goal

pub returns-clause-refusal : goal.returns-clause-refusal
returns-clause-refusal c = IsFileRefusal-unique _ _

pub returns-clause-file : goal.returns-clause-file
returns-clause-file c = IsFileRefusal-file _ _

pub returns-clause-made : goal.returns-clause-made
returns-clause-made c = IsTermFile-made _ _

pub returns-clause-last : goal.returns-clause-last
returns-clause-last c = IsTermFile-terms _ _
