use Rattle.laver_table.proofs.ColumnLemmas.{IsPeriod-doubled}
use Rattle.laver_table.proofs.LevelLemmas.{IsDoubling-read}
use Rattle.laver_table.proofs.levels.period_after.Goals as goal

pub returns-else-doubling : goal.returns-else-doubling
returns-else-doubling c =
    let r = c.requires in
    let found = IsDoubling-read c.args.half c.args.p c.args.level.now _ r.doublings r.row r.known in
    IsPeriod-doubled c.args.half c.args.p _ _ r.full r.row.1 found.periodic found.lifted c.if-doubling.false
