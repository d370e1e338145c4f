use Rattle.std.proofs.Common.{◌≡◌, ◌≤◌, [], take}
use Rattle.garside_form.proofs.LetterLemmas.{IsRead}
use Rattle.garside_form.proofs.letters.take_letters.Given as goal

-- The letters before this one are what the list and the half turns behind it spell.
abbrev pub invariant-loop-k : goal.invariant-loop-k
invariant-loop-k l = record {
  read : IsRead l.n (take l.k l.word) l.list.items l.made l.inverse l.odd;
  empty : l.stack.items ≡ [];
  made : l.made ≤ l.k;
  inverse : l.inverse ≤ l.k;
}
