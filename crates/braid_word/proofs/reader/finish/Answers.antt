use Rattle.std.proofs.Common.{Ok, ap, sym, ◌∙◌, arith}
use Rattle.braid_word.proofs.KeptLemmas.{not_too_long-long, not_too_long-kept}
use Rattle.braid_word.proofs.reader.finish.Goals as goal

pub returns-then-count : goal.returns-then-count
returns-then-count c = λ w start counted. not_too_long-long w _ counted (omega arith)

pub returns : goal.returns
returns c = λ w start counted.
    not_too_long-kept w _ _ start counted (omega arith) ∙ ap Ok (sym c.of.ensures)
