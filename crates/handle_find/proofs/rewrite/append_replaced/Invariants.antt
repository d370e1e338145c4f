-- What stands for the letters so far is written.
use Rattle.std.proofs.Common.{◌≡◌, ◌≤◌, ◌++◌, take, flat_map, vec_capacity}
use Rattle.handle_find.specs.Handles.{replaced}
use Rattle.handle_find.proofs.rewrite.append_replaced.Given as goal

abbrev pub invariant-loop-letter : goal.invariant-loop-letter
invariant-loop-letter l = record {
  items : let f = replaced l.first.index l.first.negative in
      l.into.items ≡ l.fn.into.items ++ flat_map f (take l.letter-index l.letters);
  capacity : vec_capacity l.fn.into ≤ vec_capacity l.into;
}
