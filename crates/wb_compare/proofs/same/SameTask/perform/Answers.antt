use Rattle.wb_command.proofs.InputLemmas.{two_words-IsReadOn}
use Rattle.wb_compare.proofs.same.SameTask.perform.Goals as goal

pub are_same-requires-clause-left_most : goal.are_same-requires-clause-left_most
are_same-requires-clause-left_most c =
    rw c.letters.ensures (two_words-IsReadOn c.self.inside.strands c.args.input.now _ _
    c.in-Ok.ensures).0.readable.short

pub are_same-requires-clause-right_most : goal.are_same-requires-clause-right_most
are_same-requires-clause-right_most c =
    rw c.letters-in-Ok.ensures (two_words-IsReadOn c.self.inside.strands c.args.input.now _ _
    c.in-Ok.ensures).1.readable.short

pub are_same-requires-clause-left_on : goal.are_same-requires-clause-left_on
are_same-requires-clause-left_on c =
    rw c.letters.ensures (two_words-IsReadOn c.self.inside.strands c.args.input.now _ _ c.in-Ok.ensures).0.on

pub are_same-requires-clause-right_on : goal.are_same-requires-clause-right_on
are_same-requires-clause-right_on c =
    rw c.letters-in-Ok.ensures (two_words-IsReadOn c.self.inside.strands c.args.input.now _ _
    c.in-Ok.ensures).1.on
