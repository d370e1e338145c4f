use Rattle.session_run.proofs.AloneLemmas.{own_replies-lines, own_job-lines}
use Rattle.session_run.proofs.law.law_own_replies.Goals as goal

pub returns-clause-replies : goal.returns-clause-replies
returns-clause-replies c = λ name cs room. own_replies-lines name cs room

pub returns-clause-job : goal.returns-clause-job
returns-clause-job c = λ name cs room. own_job-lines name cs room
