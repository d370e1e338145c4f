use Rattle.laver_table.proofs.ColumnLemmas.{IsInPeriod-second, entry-second}
use Rattle.laver_table.proofs.LevelLemmas.{IsDoubling-read}
use Rattle.laver_table.proofs.levels.halved.Goals as goal

pub returns-else-column-doubling-2-clause-column : goal.returns-else-column-doubling-2-clause-column
returns-else-column-doubling-2-clause-column c =
    let r = c.requires in
    let found = IsDoubling-read c.args.half c.args.p c.args.level.now _ r.doublings r.row r.known in
    IsInPeriod-second c.args.half c.args.p _ _ r.full r.row.1 found.periodic found.lifted
    c.args.column r.column c.if-column-doubling-2.false

pub returns-else-column-doubling-2-clause-entry : goal.returns-else-column-doubling-2-clause-entry
returns-else-column-doubling-2-clause-entry c =
    let r = c.requires in
    let found = IsDoubling-read c.args.half c.args.p c.args.level.now _ r.doublings r.row r.known in
    entry-second c.args.half c.args.p _ _ r.full r.row.1 found.periodic found.lifted
    c.args.column r.column c.if-column-doubling-2.false
