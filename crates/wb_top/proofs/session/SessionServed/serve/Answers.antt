use Rattle.wb_top.proofs.SessionLemmas.{HasRun-session}
use Rattle.wb_top.proofs.session.SessionServed.serve.Goals as goal

pub returns-clause-ran : goal.returns-clause-ran
returns-clause-ran g c =
    HasRun-session _ _ _ _ _ _ _ c.serve.ensures.answer
    (λ is. let (input, all, within, took) = c.serve.ensures.done is in (input, all, within))
    (λ is. let (front, size, taken, took) = c.serve.ensures.limit is in (front, size, taken))
    c.serve.ensures.never.0 c.serve.ensures.never.2 c.serve.ensures.served c.serve.ensures.read_fault
    c.serve.ensures.write_fault c.serve.ensures.read_later c.serve.ensures.write_later c.serve.ensures.waits
    c.serve.ensures.front c.serve.ensures.calls
