use Rattle.wb_command.proofs.InputLemmas.{one_word-IsReadOn}
use Rattle.wb_reverse.proofs.reverse.ReverseTask.perform.Goals as goal

pub reverse_on-requires-clause-word : goal.reverse_on-requires-clause-word
reverse_on-requires-clause-word c =
    (one_word-IsReadOn _ c.args.input.now _ c.in-Ok.ensures).readable.short
