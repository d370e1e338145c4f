-- The lines that were yielded were read, and the others are left.
use Rattle.std.proofs.Common.{[]}
use Rattle.wb_base.specs.Lines.{lines_of}
use Rattle.term_graph.specs.Readings.{IsReadTo}
use Rattle.term_graph.proofs.term_file.read_terms.Given as goal

abbrev pub invariant-loop-k : goal.invariant-loop-k
invariant-loop-k l = IsReadTo l.terms (lines_of l.bytes) l.rest l.k l.reading []
