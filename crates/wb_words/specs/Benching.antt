-- Bounds of what `bench` makes and counts, under which no number overflows.
--
-- Source: this project's own.
--
--   IsBoundedPairs pairs   the strands, the size and the limits are within their bounds
--   AreBenchNumbers n      so they are, and the number of pairs too
--   IsWithin k t           no more than k runs were counted of any kind
use Rattle.std.specs.Prelude.{ℕ, ◌*◌, ◌≤◌}
use Rattle.handle_reduce.specs.declared.TheConstants.{MAX_BOUND}
use Rattle.wb_command.specs.declared.TheConstants.{MAX_STRANDS}
use Rattle.wb_words.specs.declared.TheConstants.{MAX_COUNT, MAX_SIZE}
use Rattle.wb_words.specs.declared.bench.Pairs.{Pairs}
use Rattle.wb_words.specs.declared.bench.Tally.{Tally}
use Rattle.wb_words.specs.Bench.{BenchNumbers}

pub record IsBoundedPairs (pairs : Pairs) : Type 0 where
  pub few : 2 ≤ pairs.strands
  pub strands : pairs.strands ≤ MAX_STRANDS
  pub size : pairs.size ≤ MAX_SIZE
  pub handles : pairs.handles ≤ MAX_BOUND
  pub limit : pairs.limit ≤ MAX_BOUND

pub record AreBenchNumbers (n : BenchNumbers) : Type 0 where
  pub pairs : IsBoundedPairs n.pairs
  pub count : n.count ≤ MAX_COUNT

pub record IsWithin (k : ℕ) (t : Tally) : Type 0 where
  pub less : t.less ≤ k
  pub equal : t.equal ≤ k
  pub greater : t.greater ≤ k
  pub handles_met : t.handles_met ≤ k
  pub length_met : t.length_met ≤ k
  pub handles : t.handles ≤ k * MAX_BOUND
