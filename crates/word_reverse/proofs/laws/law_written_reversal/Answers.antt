use Rattle.word_reverse.proofs.WrittenLemmas.{IsAccepted-written}
use Rattle.word_reverse.proofs.laws.law_written_reversal.Goals as goal

pub returns : goal.returns
returns c = IsAccepted-written
