-- Each letter that is raised adds two, and two are lost at the handle's ends.
use Rattle.std.proofs.Common.{◌+◌, refl, arith}
use Rattle.handle_find.proofs.ReduceLemmas.{length-closed}
use Rattle.handle_find.proofs.closing.reduced_len.Goals as goal

pub returns : goal.returns
returns c =
    length-closed _ _ c.args.first c.args.start _ c.args.raised (c.left_len.result + c.right_len.result)
    c.requires.handle c.requires.first refl c.requires.raised (omega arith)
