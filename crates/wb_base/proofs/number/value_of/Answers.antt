use Rattle.std.proofs.Common.{arith, ◌^◌, ◌-◌}
use Rattle.wb_base.proofs.NumberLemmas.{digits_value_step, digits_value_past}
use Rattle.wb_base.proofs.number.value_of.Goals as goal

pub loop-byte-preserved : goal.loop-byte-preserved
loop-byte-preserved c =
    let step = digits_value_step c.args.digits.now c.loop-byte.byte-index c.requires (omega arith) in
    omega (arith, step)

pub returns-then-value-digit : goal.returns-then-value-digit
returns-then-value-digit c =
    digits_value_past c.args.digits.now c.loop-byte.byte-index (2 ^ 64 - 1) c.from-digit.result c.requires
    (omega arith) (omega arith) (omega arith)
