use Rattle.std.proofs.Common.{◌++◌, codes, append_assoc, refl}
use Rattle.wb_base.proofs.StreamLemmas.{Puts-stopped, Puts-stopped_after, Puts-more, append_known-two}
use Rattle.wb_words.specs.Bench.{numbered, verdicts_text, limits_text}
use Rattle.wb_words.proofs.bench.put_tally.Goals as goal

pub returns-in_err-put_numbered_line-clause-took : goal.returns-in_err-put_numbered_line-clause-took
returns-in_err-put_numbered_line-clause-took g c =
    let a = numbered (codes "pairs ") c.args.count in
    let b = verdicts_text c.args.tally.now in
    let d = limits_text c.args.tally.now in
    Puts-stopped _ _ _ _ a (b ++ d) (append_assoc a b d) c.from_residual.ensures.0
    (rw c.from.ensures at c.in_err-put_numbered_line.ensures.took)

pub returns-in_err-put_verdicts-clause-took : goal.returns-in_err-put_verdicts-clause-took
returns-in_err-put_verdicts-clause-took g c =
    let a = numbered (codes "pairs ") c.args.count in
    let b = verdicts_text c.args.tally.now in
    let d = limits_text c.args.tally.now in
    Puts-stopped_after _ _ _ _ _ a b d refl c.from_residual-in_err-put_verdicts.ensures.0
    (rw c.from.ensures at c.in_ok-put_numbered_line.ensures.took) c.in_err-put_verdicts.ensures.took

pub returns-clause-took : goal.returns-clause-took
returns-clause-took g c =
    let a = numbered (codes "pairs ") c.args.count in
    let b = verdicts_text c.args.tally.now in
    let d = limits_text c.args.tally.now in
    Puts-more _ _ _ _ _ (a ++ b) d refl
    (append_known-two _ _ _ a b (rw c.from.ensures at c.in_ok-put_numbered_line.ensures.took)
    c.in_ok-put_verdicts.ensures.took)
    c.put_limits.ensures.took
