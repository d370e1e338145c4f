use Rattle.std.proofs.Common.{◌≡◌, ◌≤◌, take}
use Rattle.std.specs.Str.Parse.{digits_value}
use Rattle.braid_word.proofs.reader.index_of.Given as goal

abbrev pub invariant-loop-byte : goal.invariant-loop-byte
invariant-loop-byte l =
    record {
      read : l.index ≡ digits_value 10 (take l.byte-index l.digits);
      within : l.index ≤ 255;
    }
