-- The letters before a place are the same.
use Rattle.std.proofs.Common.{◌≡◌, ℕ, ◌<◌, slice_get}
use Rattle.handle_find.specs.Scans.{whole}
use Rattle.trace_check.proofs.present.is_word.Given as goal

abbrev pub invariant-loop-k : goal.invariant-loop-k
invariant-loop-k l = (m : ℕ) → m < l.k → slice_get (whole l.letters) m ≡ slice_get l.word m
