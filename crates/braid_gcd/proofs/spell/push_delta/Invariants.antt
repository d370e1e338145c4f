use Rattle.std.proofs.Common.{◌≡◌, ◌++◌}
use Rattle.perm_braid.specs.SimpleWords.{delta_word}
use Rattle.braid_gcd.proofs.spell.push_delta.Given as goal

-- The letters so far and the half turn of the strands that are left are the whole word.
abbrev pub invariant-loop-k : goal.invariant-loop-k
invariant-loop-k l = l.word.items ++ delta_word l.k ≡ l.fn.word.items ++ delta_word l.n
