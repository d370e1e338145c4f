use Rattle.wb_command.proofs.ReadingLemmas.{Reads-two_positive_words}
use Rattle.wb_command.proofs.input.read_two_positive_words.Goals as goal

pub returns : goal.returns
returns c = Reads-two_positive_words c.args.strands c.args.input.now _ c.read_two.ensures
