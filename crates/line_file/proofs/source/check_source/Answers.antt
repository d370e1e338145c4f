use Rattle.std.proofs.Common.{ℕ, arith, rules}
use Rattle.std.proofs.lemmas.List.{length-take}
use Rattle.std.proofs.lemmas.Result.{err_from_is_err_and}
use Rattle.wb_base.proofs.StreamLemmas.{Skips-more}
use Rattle.line_file.proofs.SourceLemmas.{HasRead-more, Checks-end}
use Rattle.line_file.proofs.source.check_source.Goals as goal

pub returns-then-n-eq0-clause-checked : goal.returns-then-n-eq0-clause-checked
returns-then-n-eq0-clause-checked g c =
    Checks-end g.F.LineFormat.format c.args.limit _ _ _ c.loop-count.count c.in_ok-n.n _ c.take.new.into _
    c.loop-count.invariant.read (omega (arith, c.loop-count-test.true)) c.in_ok-n.ensures.bytes.0
    c.if-n-eq0.true
    (c.in_ok-n.ensures.bytes.1 c.if-n-eq0.true
    (omega (arith, c.take.auto.into, length-take {A = ℕ}, c.min-room.ensures)))
    c.finish.ensures

pub returns-in_err-feed_on-clause-checked : goal.returns-in_err-feed_on-clause-checked
returns-in_err-feed_on-clause-checked g c =
    let residual = c.from_residual-in_err-feed_on in
    let failed = err_from_is_err_and residual.result residual.ensures.1 in
    rw (failed.1, failed.2)
    (Skips-more _ _ _ c.loop-count.invariant.read.bytes _ _ _ c.loop-count.invariant.read.took
    c.in_ok-n.ensures.bytes.0
    (let read = c.loop-count.invariant.read in
    omega (arith, read.counted, c.in_ok-n.ensures.within, c.take.auto.into, length-take {A = ℕ})))

pub loop-count-preserved : goal.loop-count-preserved
loop-count-preserved g c = record {
  within = search rules;
  read =
      HasRead-more g.F.LineFormat.format _ _ _ c.loop-count.count c.in_ok-n.n c.loop-count.checker _
      c.take.new.into c.loop-count.invariant.read c.in_ok-n.ensures.bytes.0 c.in_ok-n.ensures.within
      c.in_ok-feed_on.ensures;
  later = search rules;
  counted = search rules;
}
