use Rattle.word_reverse.proofs.FieldLemmas.{IsReadable-field_word}
use Rattle.word_reverse.proofs.line.read_word_behind.Goals as goal

pub returns-in-Ok-clause-readable : goal.returns-in-Ok-clause-readable
returns-in-Ok-clause-readable c = IsReadable-field_word c.args.behind.now _ c.in-Ok.ensures
