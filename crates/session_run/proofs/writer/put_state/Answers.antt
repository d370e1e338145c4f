use Rattle.std.proofs.Common.{◌++◌, codes, decimal, append_assoc, refl}
use Rattle.wb_base.specs.Lines.{line}
use Rattle.wb_base.proofs.StreamLemmas.{Puts-stopped, Puts-stopped_after, Puts-more, append_known-two}
use Rattle.session_run.specs.ReplyText.{progress_word}
use Rattle.session_run.proofs.writer.put_state.Goals as goal

pub returns-in_err-give_all-clause-took : goal.returns-in_err-give_all-clause-took
returns-in_err-give_all-clause-took g c =
    let rest = line (progress_word c.args.job.progress ++ decimal c.args.job.steps) in
    Puts-stopped _ _ _ _ (codes "state ") (c.args.job.name ++ rest)
    (append_assoc (codes "state ") c.args.job.name rest) c.from_residual.ensures.0
    c.in_err-give_all.ensures.took

pub returns-in_err-give_all-2-clause-took : goal.returns-in_err-give_all-2-clause-took
returns-in_err-give_all-2-clause-took g c =
    let rest = line (progress_word c.args.job.progress ++ decimal c.args.job.steps) in
    Puts-stopped_after _ _ _ _ _ (codes "state ") c.args.job.name rest refl
    c.from_residual-in_err-give_all-2.ensures.0 c.in_ok-give_all.ensures.took
    (rw c.bytes.ensures.bytes at c.in_err-give_all-2.ensures.took)

pub returns-clause-took : goal.returns-clause-took
returns-clause-took g c =
    let rest = line (progress_word c.args.job.progress ++ decimal c.args.job.steps) in
    Puts-more _ _ _ _ _ (codes "state " ++ c.args.job.name) rest refl
    (append_known-two _ _ _ (codes "state ") c.args.job.name c.in_ok-give_all.ensures.took
    (rw c.bytes.ensures.bytes at c.in_ok-give_all-2.ensures.took))
    (rw (c.progress_word.ensures, c.from.ensures) at c.put_numbered_line.ensures.took)
