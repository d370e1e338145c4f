use Rattle.std.proofs.Common.{ℕ, length}
use Rattle.garside_form.specs.FactorLists.{EachOrder, AreGreedy, BeginsShort, KeepsFactors}
use Rattle.garside_form.proofs.lists.drop_identities.Given as goal

-- Only identities were left out.
abbrev pub invariant-loop-last : goal.invariant-loop-last
invariant-loop-last l = record {
  orders : (n : ℕ) → EachOrder n l.fn.list.items → EachOrder n l.list.items;
  greedy : (n : ℕ) → AreGreedy n l.fn.list.items → AreGreedy n l.list.items;
  begins : (n : ℕ) → BeginsShort n l.fn.list.items → BeginsShort n l.list.items;
  keeps : (n : ℕ) → EachOrder n l.fn.list.items → KeepsFactors n l.fn.list.items l.list.items;
}

-- The list gets shorter.
abbrev pub decreases-loop-last : goal.decreases-loop-last
decreases-loop-last l = length l.list.items
