use Rattle.std.proofs.Common.{◌≡◌, ◌++◌, replicate, reverse}
use Rattle.perm_braid.specs.Arrangements.{half_turn}
use Rattle.braid_gcd.proofs.forms.put_turns.Given as goal

-- So many half turns stand in front.
abbrev pub invariant-loop : goal.invariant-loop
invariant-loop l = reverse l.list.items ≡ replicate l.counter (half_turn l.n) ++ reverse l.fn.list.items
