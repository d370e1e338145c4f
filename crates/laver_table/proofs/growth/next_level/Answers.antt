use Rattle.std.proofs.Common.{◌-◌, ◌^◌, [], ◌∷◌, length, ap, subst, arith, length-append}
use Rattle.laver_table.specs.Period.{IsPeriod, IsThreshold}
use Rattle.laver_table.specs.Levels.{IsDoubling}
use Rattle.laver_table.specs.declared.levels.Doubling.{Doubling}
use Rattle.laver_table.proofs.LevelLemmas.{AreDoublings-more}
use Rattle.laver_table.proofs.growth.next_level.Goals as goal

pub loop-before-init : goal.loop-before-init
loop-before-init c =
    let none = ap length c.in_ok-level.ensures.items in
    record { count = none; held = λ k default within. absurd (omega (arith, none, within)) }

pub threshold_of-threshold-requires-clause-level : goal.threshold_of-threshold-requires-clause-level
threshold_of-threshold-requires-clause-level c = rw c.deref.ensures.value c.loop-before.invariant.held

pub threshold_of-threshold-requires-clause-known : goal.threshold_of-threshold-requires-clause-known
threshold_of-threshold-requires-clause-known c =
    let half = c.table_size-half.ensures in
    let held = c.loop-before.invariant in
    rw c.deref.ensures.value (omega (arith, held.count, c.loop-before-test.true, half.size))

pub loop-before-preserved : goal.loop-before-preserved
loop-before-preserved c =
    let M = 2 ^ length c.args.lower.now in
    let k = c.loop-before.before in
    let level = c.loop-before.level.items in
    let held = c.loop-before.invariant in
    let size = c.table_size-half.ensures.size in
    let period = c.period_in-period.result in
    let threshold = c.threshold_of-threshold.result in
    let periodic = c.period_in-period.ensures in
    let pushed = c.in_ok-push.ensures.items in
    let made : Doubling = record { period = period; threshold = threshold } in
    let next : IsDoubling M (M - k) made = record {
      periodic = subst (λ N. IsPeriod M (N - k) period) size periodic;
      lifted = subst (λ N. IsThreshold M (N - k) period threshold) size
          (c.threshold_of-threshold.ensures period periodic);
    } in
    record {
      count = omega (arith, ap length pushed, length-append level (made ∷ []), held.count);
      held = AreDoublings-more M k level _ made pushed held.count held.held next;
    }

pub returns : goal.returns
returns c =
    let half = c.table_size-half.ensures in
    let held = c.loop-before.invariant in
    record {
      whole = omega (arith, held.count, c.loop-before.auto.before-end, c.loop-before-test.false, half.size);
      doublings = held.held;
    }
