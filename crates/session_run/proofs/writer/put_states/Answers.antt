use Rattle.std.proofs.Common.{◌≡◌, Some, map, slice_get, sym, ◌∙◌, arith}
use Rattle.std.proofs.lemmas.Option.{slice_get-map}
use Rattle.wb_base.proofs.StreamLemmas.{Puts-stopped_get, append_known-get}
use Rattle.session_run.specs.Replies.{line_of}
use Rattle.session_run.specs.ReplyText.{state_text}
use Rattle.session_run.proofs.writer.put_states.Goals as goal

pub returns-in_err-put_state-clause-took : goal.returns-in_err-put_state-clause-took
returns-in_err-put_state-clause-took g c =
    let at : slice_get (map line_of c.args.session.now) c.loop-k.k ≡ Some c.in-Some.job
    = slice_get-map line_of c.args.session.now c.loop-k.k ∙ sym c.job_at.ensures ∙ c.in-Some.is in
    Puts-stopped_get _ _ _ _ state_text _ c.loop-k.k _ at c.from_residual.ensures.0 c.loop-k.invariant.took
    c.in_err-put_state.ensures.took

pub loop-k-preserved : goal.loop-k-preserved
loop-k-preserved g c =
    let at : slice_get (map line_of c.args.session.now) c.loop-k.k ≡ Some c.in-Some.job
    = slice_get-map line_of c.args.session.now c.loop-k.k ∙ sym c.job_at.ensures ∙ c.in-Some.is in
    record {
      took = append_known-get _ _ _ state_text _ c.loop-k.k _ at c.loop-k.invariant.took
          c.in_ok-put_state.ensures.took;
      later = omega (arith, c.loop-k.invariant.later, c.in_ok-put_state.ensures.cause.later);
    }
