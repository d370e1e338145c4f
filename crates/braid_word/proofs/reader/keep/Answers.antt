use Rattle.std.proofs.Common.{◌∙◌, arith}
use Rattle.braid_word.specs.declared.TheConstants.{MAX_LETTERS}
use Rattle.braid_word.proofs.KeptLemmas.{take-push, take-push_full}
use Rattle.braid_word.proofs.reader.keep.Goals as goal

pub returns-in_ok-push : goal.returns-in_ok-push
returns-in_ok-push c =
    let old = c.args.letters.now in
    λ w is. c.in_ok-push.ensures.items
    ∙ take-push MAX_LETTERS w old.items c.args.letter is (omega (arith, old.ok.0))

pub returns-else-len-lt-MAX_LETTERS : goal.returns-else-len-lt-MAX_LETTERS
returns-else-len-lt-MAX_LETTERS c =
    let old = c.args.letters.now in
    λ w is. take-push_full MAX_LETTERS w old.items c.args.letter is (omega (arith, old.ok.0))
