use Rattle.std.proofs.Common.{ℕ, ◌≡◌, ◌-◌, [], length, reverse}
use Rattle.braid_gcd.specs.Rounds.{IsDivided}
use Rattle.braid_gcd.proofs.common.take_all.Given as goal

-- What was taken out and the lists are the words.
abbrev pub invariant-rounds : goal.invariant-rounds
invariant-rounds l = record {
  empty : l.stack.items ≡ [];
  divided : (n : ℕ)
      → IsDivided n l.u l.v [] (reverse l.fn.first.items) (reverse l.fn.second.items)
      → IsDivided n l.u l.v l.divisor.items (reverse l.first.items) (reverse l.second.items);
}

-- The divisor gets longer, and is no longer than the first word.
abbrev pub decreases-rounds : goal.decreases-rounds
decreases-rounds l = length l.u - length l.divisor.items
