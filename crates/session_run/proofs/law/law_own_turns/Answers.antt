use Rattle.session_run.proofs.LawLemmas.{find_job-after_all}
use Rattle.session_run.proofs.law.law_own_turns.Goals as goal

pub returns : goal.returns
returns c = λ jobs cs j found within opens. find_job-after_all j.name jobs cs j found within opens
