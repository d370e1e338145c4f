use Rattle.std.proofs.Common.{◌++◌, codes, refl}
use Rattle.wb_base.proofs.StreamLemmas.{Puts-stopped, Puts-more}
use Rattle.wb_base.proofs.WaitingLemmas.{waits-stopped, waits-more}
use Rattle.wb_base.specs.Lines.{line}
use Rattle.braid_word.specs.Notation.{word_field}
use Rattle.word_reverse.proofs.text.put_head.Goals as goal

pub returns-in_err-put_line-clause-took : goal.returns-in_err-put_line-clause-took
returns-in_err-put_line-clause-took g c =
    let word = line (codes "word" ++ word_field c.args.word.now) in
    Puts-stopped _ _ _ _ (line (codes "reverse-trace 1")) word refl c.from_residual.ensures.0
    c.in_err-put_line.ensures.took

pub returns-clause-took : goal.returns-clause-took
returns-clause-took g c =
    let word = line (codes "word" ++ word_field c.args.word.now) in
    Puts-more _ _ _ _ _ (line (codes "reverse-trace 1")) word refl c.in_ok-put_line.ensures.took
    c.put_word_line.ensures.took

pub returns-in_err-put_line-clause-waits : goal.returns-in_err-put_line-clause-waits
returns-in_err-put_line-clause-waits g c =
    let word = line (codes "word" ++ word_field c.args.word.now) in
    waits-stopped _ _ _ (line (codes "reverse-trace 1")) word refl c.in_err-put_line.ensures.waits

pub returns-clause-waits : goal.returns-clause-waits
returns-clause-waits g c =
    let word = line (codes "word" ++ word_field c.args.word.now) in
    waits-more _ _ _ _ (line (codes "reverse-trace 1")) word refl c.in_ok-put_line.ensures.waits
    c.put_word_line.ensures.waits
