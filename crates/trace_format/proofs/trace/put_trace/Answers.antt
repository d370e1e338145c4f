use Rattle.std.proofs.Common.{◌++◌, append_assoc, map}
use Rattle.std.specs.List.{flat_map}
use Rattle.wb_base.proofs.StreamLemmas.{Puts-stopped, Puts-more}
use Rattle.wb_base.proofs.WaitingLemmas.{waits-stopped, waits-more}
use Rattle.trace_format.specs.TraceText.{words, head_text, step_line, handle_step, tail_text, trace_text}
use Rattle.trace_format.proofs.trace.put_trace.Goals as goal

pub returns-in_err-put_head-clause-took : goal.returns-in_err-put_head-clause-took
unfolding trace_text
returns-in_err-put_head-clause-took g c =
    let head = head_text (words c.args.left.now c.args.right.now) in
    let steps = flat_map step_line (map handle_step (g.A.Account.steps c.args.account.now)) in
    let tail = tail_text c.args.verdict (g.A.Account.current c.args.account.now) in
    Puts-stopped _ _ _ _ head (steps ++ tail) (append_assoc head steps tail) c.from_residual.ensures.0
    c.in_err-put_head.ensures.took

pub returns-clause-took : goal.returns-clause-took
unfolding trace_text
returns-clause-took g c =
    let head = head_text (words c.args.left.now c.args.right.now) in
    let steps = flat_map step_line (map handle_step (g.A.Account.steps c.args.account.now)) in
    let tail = tail_text c.args.verdict (g.A.Account.current c.args.account.now) in
    Puts-more _ _ _ _ _ head (steps ++ tail) (append_assoc head steps tail) c.in_ok-put_head.ensures.took
    c.put_body.ensures.took

pub returns-in_err-put_head-clause-waits : goal.returns-in_err-put_head-clause-waits
unfolding trace_text
returns-in_err-put_head-clause-waits g c =
    let head = head_text (words c.args.left.now c.args.right.now) in
    let steps = flat_map step_line (map handle_step (g.A.Account.steps c.args.account.now)) in
    let tail = tail_text c.args.verdict (g.A.Account.current c.args.account.now) in
    waits-stopped _ _ _ head (steps ++ tail) (append_assoc head steps tail)
    c.in_err-put_head.ensures.waits

pub returns-clause-waits : goal.returns-clause-waits
unfolding trace_text
returns-clause-waits g c =
    let head = head_text (words c.args.left.now c.args.right.now) in
    let steps = flat_map step_line (map handle_step (g.A.Account.steps c.args.account.now)) in
    let tail = tail_text c.args.verdict (g.A.Account.current c.args.account.now) in
    waits-more _ _ _ _ head (steps ++ tail) (append_assoc head steps tail)
    c.in_ok-put_head.ensures.waits c.put_body.ensures.waits
