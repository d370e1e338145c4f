use Rattle.std.proofs.Common.{ℕ, ◌≡◌, List, ◌++◌, length, reverse}
use Rattle.braid_word.specs.Words.{Letter}
use Rattle.garside_form.specs.NormalForms.{IsProduct}
use Rattle.garside_form.specs.FactorLists.{EachOrder}
use Rattle.braid_gcd.proofs.spell.push_list.Given as goal

-- The letters so far and the words of what is left are the whole word.
abbrev pub invariant-loop-braid : goal.invariant-loop-braid
invariant-loop-braid l = record {
  orders : (n : ℕ) → EachOrder n (reverse l.fn.list.items) → EachOrder n (reverse l.list.items);
  word : (n : ℕ) (w v : List Letter) → EachOrder n (reverse l.fn.list.items)
      → IsProduct n (reverse l.fn.list.items) w → IsProduct n (reverse l.list.items) v
      → l.word.items ++ v ≡ l.fn.word.items ++ w;
}

-- The list gets shorter.
abbrev pub decreases-loop-braid : goal.decreases-loop-braid
decreases-loop-braid l = length l.list.items
