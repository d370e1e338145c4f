use Rattle.std.proofs.Common.{ℕ, ◌<◌}
use Rattle.term_graph.specs.TermLists.{term_at}
use Rattle.ld_cert.specs.Differences.{AreAlikeIn}
use Rattle.ld_cert.proofs.difference.differ.Given as goal

-- the terms are alike in each table so far
abbrev pub invariant-loop-m : goal.invariant-loop-m
invariant-loop-m l = (k : ℕ) → k < l.m → AreAlikeIn k (term_at l.graph l.a) (term_at l.graph l.b)
