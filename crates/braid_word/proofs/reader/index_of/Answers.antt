use Rattle.std.proofs.Common.{◌+◌, arith}
use Rattle.std.proofs.lemmas.Str.Parse.{digits_value-take-le}
use Rattle.wb_base.proofs.NumberLemmas.{digits_value_step}
use Rattle.braid_word.proofs.reader.index_of.Goals as goal

pub loop-byte-preserved : goal.loop-byte-preserved
loop-byte-preserved c =
    record {
      read = omega (
        arith,
        digits_value_step c.args.digits.now c.loop-byte.byte-index c.requires
            (omega arith),
      );
      within = omega arith;
    }

pub returns-then-index-gt-MAX_INDEX : goal.returns-then-index-gt-MAX_INDEX
returns-then-index-gt-MAX_INDEX c =
    λ small. omega (
      arith,
      digits_value_step c.args.digits.now c.loop-byte.byte-index c.requires (omega arith),
      digits_value-take-le 10 c.args.digits.now (c.loop-byte.byte-index + 1) (omega arith),
      small.1,
    )
