use Rattle.std.proofs.Common.{refl}
use Rattle.wb_words.proofs.ActLemmas.{acted-fits, acted-long}
use Rattle.wb_words.proofs.act.act_on.Goals as goal

pub returns-in-Ok : goal.returns-in-Ok
returns-in-Ok c =
    acted-fits c.args.index c.args.limit c.args.word.now c.in-Ok.image
    (rw (c.in_ok-start.ensures, c.new.ensures) at c.in-Ok.ensures.image)
    (rw (c.in_ok-start.ensures, c.new.ensures) at c.in-Ok.ensures.fits)

pub returns-in-Err-TooLong : goal.returns-in-Err-TooLong
returns-in-Err-TooLong c =
    rw c.from.ensures
    (acted-long c.args.index c.args.limit c.args.word.now
    (rw (c.in_ok-start.ensures, c.new.ensures) at
    (rw c.in-Err-TooLong.field-0-is at c.in-Err-TooLong.ensures.too_long) refl))
