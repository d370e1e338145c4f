use Rattle.ld_term.specs.TreeTexts.{written}
use Rattle.ld_cert.proofs.KeepLemmas.{term_behind-read}
use Rattle.ld_cert.proofs.keep.term_behind.Goals as goal

pub returns-in-Ok-read_strict-clause-term : goal.returns-in-Ok-read_strict-clause-term
returns-in-Ok-read_strict-clause-term c =
    let (t, read, is) = c.in-Ok-read_strict.ensures.term in
    term_behind-read c.args.keyword.now c.args.line.now c.in-Ok.text.now t (written c.in-Ok-read_strict.tree)
    c.in-Ok.ensures read is c.in-Ok-read_strict.ensures.small
