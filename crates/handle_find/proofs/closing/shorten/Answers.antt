-- Letters and runs are dropped from one place on.
use Rattle.std.proofs.Common.{drop, length, ap, sym, arith, length-take}
use Rattle.std.proofs.lemmas.List.{take-append-drop}
use Rattle.handle_find.proofs.FrontLemmas.{IsScan-front}
use Rattle.handle_find.proofs.closing.shorten.Goals as goal

pub returns-clause-scan : goal.returns-clause-scan
returns-clause-scan c =
    let alike = c.requires.scan.has_runs.alike in
    let letters_len = ap length c.take_back.ensures.left in
    let runs_len = ap length c.drop_runs.ensures.left in
    let cut = length-take c.args.from c.args.letters.now.left in
    let cut' = length-take c.args.from c.args.runs.now.left in
    IsScan-front c.args.letters.now _ c.args.runs.now _ (drop c.args.from c.args.letters.now.left)
    (drop c.args.from c.args.runs.now.left)
    c.requires.scan
    (rw c.take_back.ensures.left (sym (take-append-drop c.args.from c.args.letters.now.left)))
    (rw c.drop_runs.ensures.left (sym (take-append-drop c.args.from c.args.runs.now.left)))
    (omega arith)
    c.drop_runs.ensures.right
    c.take_back.ensures.room
    c.drop_runs.ensures.room
