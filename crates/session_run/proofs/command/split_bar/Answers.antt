use Rattle.std.proofs.Common.{sym, ◌∙◌}
use Rattle.session_run.proofs.FieldLemmas.{part_last, part_first}
use Rattle.session_run.proofs.command.split_bar.Goals as goal

pub returns-in_err-at : goal.returns-in_err-at
returns-in_err-at c =
    rw c.from_residual.ensures (part_last 124 c.args.text.now (sym c.first_bar.ensures ∙ c.in_err-at.was))

pub returns : goal.returns
returns c = part_first 124 c.args.text.now _ (sym c.first_bar.ensures ∙ c.in_ok-at.was)
