use Rattle.std.proofs.Common.{arith, ℕ}
use Rattle.std.proofs.lemmas.Result.{err_from_is_err_and}
use Rattle.std.proofs.lemmas.List.{length-take}
use Rattle.wb_base.proofs.StreamLemmas.{Skips-more}
use Rattle.wb_base.proofs.whole.read_all.Goals as goal

pub returns-in_err-extend_from_slice-clause-refused :
    goal.returns-in_err-extend_from_slice-clause-refused
returns-in_err-extend_from_slice-clause-refused g c =
    let failed =
    err_from_is_err_and c.from_residual-in_err-extend_from_slice.result
    c.from_residual-in_err-extend_from_slice.ensures.1 in
    rw (failed.1, failed.2)
    (Skips-more _ _ _ _ _ _ _ c.loop-chunk.invariant.took c.in_ok-n.ensures.bytes.0
    (omega (arith, c.in_ok-n.ensures.within, c.take.auto.into, length-take {A = ℕ})))

pub returns-in_err-n-clause-later : goal.returns-in_err-n-clause-later
returns-in_err-n-clause-later g c = omega (arith, c.loop-chunk.invariant.later, c.take.ensures.cause.later)

pub returns-in_err-n-clause-calls : goal.returns-in_err-n-clause-calls
returns-in_err-n-clause-calls g c =
    omega (arith, c.loop-chunk.invariant.counted, c.loop-chunk-test.true, c.take.ensures.counted)

pub returns-then-n-eq0-clause-later : goal.returns-then-n-eq0-clause-later
returns-then-n-eq0-clause-later g c = omega (arith, c.loop-chunk.invariant.later, c.take.ensures.cause.later)

pub returns-then-n-eq0-clause-calls : goal.returns-then-n-eq0-clause-calls
returns-then-n-eq0-clause-calls g c =
    omega (arith, c.loop-chunk.invariant.counted, c.loop-chunk-test.true, c.take.ensures.counted)

pub returns-in_err-extend_from_slice-clause-later : goal.returns-in_err-extend_from_slice-clause-later
returns-in_err-extend_from_slice-clause-later g c =
    omega (arith, c.loop-chunk.invariant.later, c.take.ensures.cause.later)

pub returns-in_err-extend_from_slice-clause-calls : goal.returns-in_err-extend_from_slice-clause-calls
returns-in_err-extend_from_slice-clause-calls g c =
    omega (arith, c.loop-chunk.invariant.counted, c.loop-chunk-test.true, c.take.ensures.counted)

pub returns-clause-later : goal.returns-clause-later
returns-clause-later g c = c.loop-chunk.invariant.later

pub returns-clause-calls : goal.returns-clause-calls
returns-clause-calls g c = omega (arith, c.loop-chunk.invariant.counted, c.loop-chunk.invariant.within)

pub returns-clause-fault : goal.returns-clause-fault
returns-clause-fault g c = λ is. absurd cc

pub returns-clause-all : goal.returns-clause-all
returns-clause-all g c = tt

pub returns-clause-within : goal.returns-clause-within
returns-clause-within g c = tt

pub returns-clause-refused : goal.returns-clause-refused
returns-clause-refused g c = (
  c.loop-chunk.bytes.items,
  omega (arith, c.loop-chunk.invariant.within, c.loop-chunk-test.false, c.loop-chunk.bytes.ok.0),
  c.loop-chunk.invariant.took,
)
