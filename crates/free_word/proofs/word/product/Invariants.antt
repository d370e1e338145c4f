use Rattle.std.proofs.Common.{◌≡◌, take}
use Rattle.free_word.specs.FreeWords.{product}
use Rattle.free_word.proofs.word.product.Given as goal

-- The product with the generators before this one.
abbrev pub invariant-loop-x : goal.invariant-loop-x
invariant-loop-x l = l.word ≡ product l.fn.a (take l.x-index l.fn.b)
