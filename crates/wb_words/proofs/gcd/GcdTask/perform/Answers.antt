use Rattle.wb_command.proofs.InputLemmas.{two_positive_words-IsReadPositive}
use Rattle.wb_words.proofs.gcd.GcdTask.perform.Goals as goal

pub divide-requires-clause-first_most : goal.divide-requires-clause-first_most
divide-requires-clause-first_most c =
    rw c.letters.ensures (two_positive_words-IsReadPositive c.self.inside.strands c.args.input.now _ _
    c.in-Ok.ensures).0.word.readable.short

pub divide-requires-clause-second_most : goal.divide-requires-clause-second_most
divide-requires-clause-second_most c =
    rw c.letters-in-Ok.ensures (two_positive_words-IsReadPositive c.self.inside.strands c.args.input.now _ _
    c.in-Ok.ensures).1.word.readable.short

pub divide-requires-clause-first_on : goal.divide-requires-clause-first_on
divide-requires-clause-first_on c =
    rw c.letters.ensures (two_positive_words-IsReadPositive c.self.inside.strands c.args.input.now _ _
    c.in-Ok.ensures).0.word.on

pub divide-requires-clause-second_on : goal.divide-requires-clause-second_on
divide-requires-clause-second_on c =
    rw c.letters-in-Ok.ensures (two_positive_words-IsReadPositive c.self.inside.strands c.args.input.now _ _
    c.in-Ok.ensures).1.word.on

pub divide-requires-clause-first_positive : goal.divide-requires-clause-first_positive
divide-requires-clause-first_positive c =
    rw c.letters.ensures (two_positive_words-IsReadPositive c.self.inside.strands c.args.input.now _ _
    c.in-Ok.ensures).0.positive

pub divide-requires-clause-second_positive : goal.divide-requires-clause-second_positive
divide-requires-clause-second_positive c =
    rw c.letters-in-Ok.ensures (two_positive_words-IsReadPositive c.self.inside.strands c.args.input.now _ _
    c.in-Ok.ensures).1.positive
