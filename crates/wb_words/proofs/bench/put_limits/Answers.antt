use Rattle.std.proofs.Common.{◌++◌, codes, append_assoc, refl}
use Rattle.wb_base.proofs.StreamLemmas.{Puts-stopped, Puts-stopped_after, Puts-more, append_known-two}
use Rattle.wb_words.specs.Bench.{numbered}
use Rattle.wb_words.proofs.bench.put_limits.Goals as goal

pub returns-in_err-put_numbered_line-clause-took : goal.returns-in_err-put_numbered_line-clause-took
returns-in_err-put_numbered_line-clause-took g c =
    let a = numbered (codes "handles-met ") c.args.tally.now.handles_met in
    let b = numbered (codes "length-met ") c.args.tally.now.length_met in
    let d = numbered (codes "handles ") c.args.tally.now.handles in
    Puts-stopped _ _ _ _ a (b ++ d) (append_assoc a b d) c.from_residual.ensures.0
    c.in_err-put_numbered_line.ensures.took

pub returns-in_err-put_numbered_line-2-clause-took : goal.returns-in_err-put_numbered_line-2-clause-took
returns-in_err-put_numbered_line-2-clause-took g c =
    let a = numbered (codes "handles-met ") c.args.tally.now.handles_met in
    let b = numbered (codes "length-met ") c.args.tally.now.length_met in
    let d = numbered (codes "handles ") c.args.tally.now.handles in
    Puts-stopped_after _ _ _ _ _ a b d refl c.from_residual-in_err-put_numbered_line-2.ensures.0
    c.in_ok-put_numbered_line.ensures.took c.in_err-put_numbered_line-2.ensures.took

pub returns-clause-took : goal.returns-clause-took
returns-clause-took g c =
    let a = numbered (codes "handles-met ") c.args.tally.now.handles_met in
    let b = numbered (codes "length-met ") c.args.tally.now.length_met in
    let d = numbered (codes "handles ") c.args.tally.now.handles in
    Puts-more _ _ _ _ _ (a ++ b) d refl
    (append_known-two _ _ _ a b c.in_ok-put_numbered_line.ensures.took
    c.in_ok-put_numbered_line-2.ensures.took)
    c.put_numbered_line-3.ensures.took
