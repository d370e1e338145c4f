-- The letters before a place are the same.
use Rattle.std.proofs.Common.{◌≡◌, ℕ, ◌<◌, slice_get}
use Rattle.word_reverse.specs.Cursors.{whole}
use Rattle.word_reverse.proofs.present.begins_with.Given as goal

abbrev pub invariant-loop-k : goal.invariant-loop-k
invariant-loop-k l = (m : ℕ) → m < l.k → slice_get (whole l.letters) m ≡ slice_get l.word m
