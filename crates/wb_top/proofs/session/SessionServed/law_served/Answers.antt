use Rattle.wb_top.proofs.SessionLemmas.{IsSound-session}
use Rattle.wb_top.proofs.session.SessionServed.law_served.Goals as goal

pub returns : goal.returns
returns c = IsSound-session
