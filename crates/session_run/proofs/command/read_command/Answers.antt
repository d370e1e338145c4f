use Rattle.session_run.proofs.FieldLemmas.{command_of-more}
use Rattle.session_run.proofs.command.read_command.Goals as goal

pub returns-in-Some-split_bar-2-clause-exact : goal.returns-in-Some-split_bar-2-clause-exact
returns-in-Some-split_bar-2-clause-exact c =
    command_of-more c.args.line.now c.in-Some.rest.now c.in-Some-split_bar.right.now
    c.in-Some-split_bar-2.field-0.1.now _ _ _
    c.in-Some.ensures c.in-Some-split_bar.ensures c.in-Some-split_bar-2.ensures
