use Rattle.handle_find.proofs.PuttingLemmas.{IsScan-begin}
use Rattle.handle_find.proofs.scan.Scan.of_quotient.Goals as goal

pub invariant_of-result : goal.invariant_of-result
invariant_of-result c =
    let begun = c.put_inverse.ensures in
    let put = c.put_word.ensures in
    let empty = c.in_ok-letters.ensures in
    IsScan-begin _ _ c.args.u.now c.args.v.now c.args.room c.requires.words
    (rw (put, empty) at begun) c.in_ok-runs.ensures
