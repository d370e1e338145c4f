use Rattle.wb_command.proofs.InputLemmas.{one_word-IsReadOn}
use Rattle.wb_words.proofs.normal.NormalTask.perform.Goals as goal

pub normal_on-requires-clause-most : goal.normal_on-requires-clause-most
normal_on-requires-clause-most c =
    rw c.letters.ensures (one_word-IsReadOn c.self.inside.strands c.args.input.now _
    c.in-Ok.ensures).readable.short

pub normal_on-requires-clause-on : goal.normal_on-requires-clause-on
normal_on-requires-clause-on c =
    rw c.letters.ensures (one_word-IsReadOn c.self.inside.strands c.args.input.now _ c.in-Ok.ensures).on
