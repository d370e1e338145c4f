use Rattle.std.proofs.Common.{ap, ◌∙◌, subst}
use Rattle.braid_word.specs.Notation.{strict_word_of, Gives}
use Rattle.braid_word.proofs.SpellingLemmas.{strict_word_of-word_text}
use Rattle.braid_word.proofs.ReadWordLemmas.{IfOk-strict}
use Rattle.braid_word.proofs.reader.read_strict_word.Goals as goal

pub returns-clause-text : goal.returns-clause-text
returns-clause-text c = IfOk-strict c.args.bytes.now c.read_strictly.result c.read_strictly.ensures

pub returns-clause-only : goal.returns-clause-only
returns-clause-only c = λ w readable text.
    subst (Gives c.read_strictly.result) (ap strict_word_of text ∙ strict_word_of-word_text w readable)
    c.read_strictly.ensures
