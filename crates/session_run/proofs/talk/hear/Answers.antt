use Rattle.std.proofs.Common.{[], take, get_or, rules, refl, sym, arith}
use Rattle.wb_base.proofs.StreamLemmas.{Puts-stopped_after, append_known-two}
use Rattle.session_run.specs.Conversation.{Talk, heard_all, answer_to}
use Rattle.session_run.proofs.TalkLemmas.{Grows-line, Grows-at, heard_all-more, heard-lf, heard-other}
use Rattle.session_run.proofs.talk.hear.Goals.{then-byte-eq10+in_ok-answer_line, else-byte-eq10+else-is_err}
use Rattle.session_run.proofs.talk.hear.Goals as goal

pub returns-in_err-answer_line-clause-took : goal.returns-in_err-answer_line-clause-took
returns-in_err-answer_line-clause-took g c =
    let start : Talk = record { jobs = c.args.session.now; rest = c.args.rest.now.items; text = [] } in
    let now = heard_all start (take c.loop-byte.byte-index c.args.bytes.now) in
    let (more, parts) =
    Grows-line start c.args.bytes.now c.loop-byte.byte-index c.loop-byte-test.true c.if-byte-eq10.true in
    Puts-stopped_after _ _ _ _ _ now.text (answer_to now.jobs now.rest) more parts c.from_residual.ensures.0
    c.loop-byte.invariant.took
    (rw (
      c.loop-byte.invariant.jobs,
      c.deref.ensures.value,
      c.loop-byte.invariant.rest,
    ) at c.in_err-answer_line.ensures.took)

pub returns-then-is_err-clause-took : goal.returns-then-is_err-clause-took
returns-then-is_err-clause-took g c =
    let start : Talk = record { jobs = c.args.session.now; rest = c.args.rest.now.items; text = [] } in
    let grows = Grows-at start c.args.bytes.now c.loop-byte.byte-index in (
      (heard_all start (take c.loop-byte.byte-index c.args.bytes.now)).text,
      grows.more,
      grows.parts,
      c.loop-byte.invariant.took,
    )

pub loop-byte-preserved : goal.loop-byte-preserved
loop-byte-preserved g c =
    let start : Talk = record { jobs = c.args.session.now; rest = c.args.rest.now.items; text = [] } in
    let i = c.loop-byte.byte-index in
    let bytes = c.args.bytes.now in
    let kept = c.loop-byte.invariant in
    let next = heard_all-more start bytes i (get_or bytes i 0) c.loop-byte-test.true refl in
    elim c.if-byte-eq10.branch [
      | then-byte-eq10+in_ok-answer_line w ↦
          let lf = heard-lf (heard_all start (take i bytes)) (get_or bytes i 0) w.if-byte-eq10.true in
          rw (w.session-is, w.sink-is, w.rest-is, next, lf) record {
            jobs = rw (kept.jobs, w.deref.ensures.value, kept.rest) at w.in_ok-answer_line.ensures.jobs;
            rest = search rules;
            took = append_known-two _ _ _ (heard_all start (take i bytes)).text _ kept.took
                (rw (kept.jobs, w.deref.ensures.value, kept.rest) at w.in_ok-answer_line.ensures.took);
            waits = λ none. w.in_ok-answer_line.ensures.passed;
            later = omega (arith, kept.later, w.in_ok-answer_line.ensures.later);
          }
      | else-byte-eq10+else-is_err w ↦
          let other = heard-other (heard_all start (take i bytes)) (get_or bytes i 0) w.if-byte-eq10.false in
          rw (w.session-is, w.sink-is, w.rest-is, next, other) record {
            jobs = kept.jobs;
            rest = rw (sym kept.rest) (search rules);
            took = kept.took;
            waits = kept.waits;
            later = kept.later;
          }
    ]
