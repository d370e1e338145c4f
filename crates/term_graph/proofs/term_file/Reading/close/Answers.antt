-- The term is entered, and its number is that of the line.
use Rattle.ld_term.specs.TreeTexts.{written}
use Rattle.term_graph.specs.TermFiles.{closing}
use Rattle.term_graph.proofs.KeepLineLemmas.{Keeps-closing}
use Rattle.term_graph.proofs.term_file.Reading.close.Goals as goal

pub returns-clause-sound : goal.returns-clause-sound
returns-clause-sound c =
    let t = written c.in_ok-term.term in (
      closing t,
      record {
        sound = c.in_ok-term.ensures.sound;
        holds = λ read numbers keeps.
            rw c.enter.ensures.names
            (Keeps-closing _ _ _ _ _ read numbers _ t keeps c.in_ok-enter.ensures.entered);
      },
    )
