use Rattle.std.proofs.Common.{length, sym, subst, arith}
use Rattle.laver_table.specs.Period.{IsFull}
use Rattle.laver_table.proofs.DoublingLemmas.{IsFull-pow}
use Rattle.laver_table.proofs.LevelLemmas.{size-shifted, size-small}
use Rattle.laver_table.proofs.levels.table_size.Goals as goal

pub returns-clause-small : goal.returns-clause-small
returns-clause-small c =
    let n = length c.args.levels.now in
    omega (arith, size-shifted n c.requires, size-small n c.requires)

pub returns-clause-full : goal.returns-clause-full
returns-clause-full c =
    let n = length c.args.levels.now in
    subst IsFull (sym (size-shifted n c.requires)) (IsFull-pow n)
