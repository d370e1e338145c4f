-- The letter that goes is lower than all behind it, and nothing passes its place.
use Rattle.handle_find.proofs.FrontLemmas.{IsScan-remove}
use Rattle.handle_find.proofs.closing.remove_at.Goals as goal

pub returns-clause-scan : goal.returns-clause-scan
returns-clause-scan c =
    IsScan-remove c.args.letters.now _ c.args.runs.now _ c.args.place c.requires.barred.0 c.requires.scan
    c.requires.barred.1 c.remove_left.ensures c.remove_left-2.ensures
