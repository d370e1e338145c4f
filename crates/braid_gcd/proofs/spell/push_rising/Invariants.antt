use Rattle.std.proofs.Common.{◌≡◌, ◌+◌, ◌-◌, ◌++◌, map}
use Rattle.std.specs.List.{range_with_len}
use Rattle.perm_braid.specs.SimpleWords.{generator, rising_word}
use Rattle.braid_gcd.proofs.spell.push_rising.Given as goal

-- The letters so far and those that are left are the whole word.
abbrev pub invariant-loop-i : goal.invariant-loop-i
invariant-loop-i l =
    l.word.items ++ map generator (range_with_len l.i (l.k + 1 - l.i)) ≡ l.fn.word.items ++ rising_word l.k
