use Rattle.std.proofs.Common.{ap, ◌∙◌, subst}
use Rattle.braid_word.specs.Notation.{word_of, Gives}
use Rattle.braid_word.proofs.ReadWordLemmas.{IfOk-readable, word_of-word_text}
use Rattle.braid_word.proofs.reader.read_word.Goals as goal

pub returns-clause-readable : goal.returns-clause-readable
returns-clause-readable c = IfOk-readable c.args.bytes.now c.read_either.result c.read_either.ensures

pub returns-clause-only : goal.returns-clause-only
returns-clause-only c = λ w readable text.
    subst (Gives c.read_either.result) (ap word_of text ∙ word_of-word_text w readable)
    c.read_either.ensures
