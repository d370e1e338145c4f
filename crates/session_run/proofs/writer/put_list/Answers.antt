use Rattle.std.proofs.Common.{◌++◌, codes, decimal, length, map, refl}
use Rattle.std.specs.List.{flat_map}
use Rattle.wb_base.specs.Lines.{line}
use Rattle.wb_base.proofs.StreamLemmas.{Puts-stopped, Puts-more}
use Rattle.session_run.specs.Replies.{line_of}
use Rattle.session_run.specs.ReplyText.{state_text}
use Rattle.session_run.proofs.writer.put_list.Goals as goal

pub returns-in_err-put_numbered_line-clause-took : goal.returns-in_err-put_numbered_line-clause-took
returns-in_err-put_numbered_line-clause-took g c =
    Puts-stopped _ _ _ _ (line (codes "jobs " ++ decimal (length c.args.session.now)))
    (flat_map state_text (map line_of c.args.session.now)) refl c.from_residual.ensures.0
    (rw c.job_count.ensures at c.in_err-put_numbered_line.ensures.took)

pub returns-clause-took : goal.returns-clause-took
returns-clause-took g c =
    Puts-more _ _ _ _ _ (line (codes "jobs " ++ decimal (length c.args.session.now)))
    (flat_map state_text (map line_of c.args.session.now)) refl
    (rw c.job_count.ensures at c.in_ok-put_numbered_line.ensures.took) c.put_states.ensures.took
