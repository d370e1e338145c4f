use Rattle.std.proofs.Common.{[], ◌∷◌, length, sym, ap, arith, length-append}
use Rattle.laver_table.proofs.LevelLemmas.{AreLevels-more}
use Rattle.laver_table.proofs.growth.levels_of.Goals as goal

pub loop-init : goal.loop-init
loop-init c =
    let none = ap length c.in_ok-levels.ensures.items in
    record { count = none; held = λ k default within. absurd (omega (arith, none, within)) }

pub next_level-requires-clause-few : goal.next_level-requires-clause-few
next_level-requires-clause-few c =
    rw c.deref.ensures.value (omega (arith, c.loop.invariant.count, c.loop-test.true, c.requires))

pub next_level-requires-clause-lower : goal.next_level-requires-clause-lower
next_level-requires-clause-lower c = rw c.deref.ensures.value c.loop.invariant.held

pub loop-preserved : goal.loop-preserved
loop-preserved c =
    let levels = c.loop.levels.items in
    let level = c.in_ok-level.level in
    let pushed = c.in_ok-push.ensures.items in
    record {
      count = omega (arith, ap length pushed, length-append levels (level ∷ []), c.loop.invariant.count);
      held = AreLevels-more levels _ level pushed c.loop.invariant.held
          (rw (sym c.deref.ensures.value) c.in_ok-level.ensures);
    }
