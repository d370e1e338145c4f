use Rattle.std.proofs.Common.{◌≡◌, ℕ, ◌+◌, ◌<◌, ◌≤◌, ap, arith, length, take, Err}
use Rattle.std.proofs.lemmas.List.{length-take, length-take-le}
use Rattle.session_run.specs.declared.TheConstants.{MAX_INPUT, MAX_PIECE}
use Rattle.session_run.proofs.TalkLemmas.{ok_no_fault, memory_no_fault}
use Rattle.session_run.proofs.ServingLemmas.{HasHeard-begun, HasHeard-more, IsAtLast-now, IsPast-now}
use Rattle.session_run.proofs.ServedLemmas.{served-read, served-done, served-cut_last, served-short_last, served-limit, served-cut_limit, served-cut, served-short}
use Rattle.session_run.proofs.serving.converse.Goals.{in-Ok-finish, in-Err-Fault, in-Err-Memory, in-Ok-put_limit, in-Err}
use Rattle.session_run.proofs.serving.converse.Goals as goal

pub hearing-init : goal.hearing-init
hearing-init g c = rw (c.new-session.ensures, c.new-rest.ensures.items) (HasHeard-begun _)

pub overflow_sub-count : goal.overflow_sub-count
overflow_sub-count g c = c.hearing.invariant.short

pub returns-in_default : goal.returns-in_default
returns-in_default g c =
    served-read _ _ _ _ _ _ _ _ c.hearing.invariant c.in_default.ensures.bytes
    c.in_default.ensures.cause.failed c.in_default.ensures.cause.later c.take.ensures.counted

pub returns-then-n-eq0 : goal.returns-then-n-eq0
returns-then-n-eq0 g c =
    let some : 0 < length c.take.new.into
    = omega (arith, c.take.auto.into, c.max.ensures, c.min-room.ensures, length-take {A = ℕ}) in
    let last = IsAtLast-now _ _ _ _ _ _ _ _ _ _ c.hearing.invariant c.in-Ok.ensures.bytes.0
    c.in-Ok.ensures.bytes.1 c.if-n-eq0.true some c.in-Ok.ensures.cause.later c.take.ensures.counted in
    elim c.match-finish.branch [
      | in-Ok-finish w ↦
          rw w.result-is (served-done _ _ _ _ _ _ _ _ last c.deref.ensures.value
          w.in-Ok-finish.ensures.took w.in-Ok-finish.ensures.later
          (w.in-Ok-finish.ensures.waits (ok_no_fault _)))
      | in-Err-Fault w ↦
          rw w.result-is (served-cut_last _ _ _ _ _ _ _ _ last c.deref.ensures.value
          w.in-Err-Fault.ensures.took w.in-Err-Fault.ensures.later
          (w.in-Err-Fault.ensures.fault (ap Err w.in-Err-Fault.field-0-is)))
      | in-Err-Memory w ↦
          let short = w.in-Err-Memory.ensures.memory (ap Err w.in-Err-Memory.field-0-is) in
          rw w.result-is (served-short_last _ _ _ _ _ _ _ _ last c.deref.ensures.value
          short.0 short.1 w.in-Err-Memory.ensures.later
          (w.in-Err-Memory.ensures.waits (memory_no_fault _ w.in-Err-Memory.field-0-is)))
    ]

pub returns-then-count-eq-MAX_INPUT : goal.returns-then-count-eq-MAX_INPUT
returns-then-count-eq-MAX_INPUT g c =
    let size = length-take-le c.in-Ok.n c.take.new.into c.in-Ok.ensures.within in
    let one : length (take c.in-Ok.n c.take.new.into) ≡ 1
    = omega (
      arith,
      size,
      c.take.auto.into,
      c.max.ensures,
      c.min-room.ensures,
      length-take {A = ℕ},
      c.in-Ok.ensures.within,
      c.if-n-eq0.false,
      c.if-count-eq-MAX_INPUT.true,
    ) in
    let past = IsPast-now _ _ _ _ _ _ _ _ _ c.hearing.invariant c.if-count-eq-MAX_INPUT.true
    c.in-Ok.ensures.bytes.0 one c.in-Ok.ensures.cause.later c.take.ensures.counted in
    elim c.match-put_limit.branch [
      | in-Ok-put_limit w ↦
          rw w.result-is (served-limit _ _ _ _ _ past w.in-Ok-put_limit.ensures.took
          w.in-Ok-put_limit.ensures.cause.later w.in-Ok-put_limit.ensures.passed)
      | in-Err w ↦
          rw w.result-is (served-cut_limit _ _ _ _ _ past w.in-Err.ensures.took
          w.in-Err.ensures.cause.later w.in-Err.ensures.cause.failed)
    ]

pub overflow_add-count : goal.overflow_add-count
overflow_add-count g c =
    omega (
      arith,
      c.take.auto.into,
      c.max.ensures,
      c.min-room.ensures,
      length-take {A = ℕ},
      c.in-Ok.ensures.within,
      c.hearing.invariant.short,
    )

pub hearing-smaller : goal.hearing-smaller
hearing-smaller g c =
    omega (arith, c.if-n-eq0.false, c.if-count-eq-MAX_INPUT.false, c.hearing.invariant.short)

pub hearing-preserved : goal.hearing-preserved
hearing-preserved g c =
    let size = length-take-le c.in-Ok.n c.take.new.into c.in-Ok.ensures.within in
    let some : 0 < c.in-Ok.n = omega (arith, c.if-n-eq0.false) in
    let room : c.hearing.count + c.in-Ok.n ≤ MAX_INPUT
    = omega (
      arith,
      c.take.auto.into,
      c.max.ensures,
      c.min-room.ensures,
      length-take {A = ℕ},
      c.in-Ok.ensures.within,
      c.hearing.invariant.short,
      c.if-count-eq-MAX_INPUT.false,
    ) in
    HasHeard-more _ _ _ _ _ _ _ _ (take c.in-Ok.n c.take.new.into) _ _ _ _ _ _ c.hearing.invariant
    c.in-Ok.ensures.bytes.0 size some room c.in-Ok.ensures.cause.later c.take.ensures.counted
    c.in-Ok-hear.ensures.jobs c.in-Ok-hear.ensures.rest c.in-Ok-hear.ensures.took c.in-Ok-hear.ensures.later
    (c.in-Ok-hear.ensures.waits (ok_no_fault _))

pub returns-in-Err-Fault-hear : goal.returns-in-Err-Fault-hear
returns-in-Err-Fault-hear g c =
    let size = length-take-le c.in-Ok.n c.take.new.into c.in-Ok.ensures.within in
    let short : c.in-Ok.n ≤ MAX_PIECE
    = omega (
      arith,
      c.take.auto.into,
      c.max.ensures,
      c.min-room.ensures,
      length-take {A = ℕ},
      c.in-Ok.ensures.within,
    ) in
    let room : c.hearing.count + c.in-Ok.n ≤ MAX_INPUT
    = omega (
      arith,
      c.take.auto.into,
      c.max.ensures,
      c.min-room.ensures,
      length-take {A = ℕ},
      c.in-Ok.ensures.within,
      c.hearing.invariant.short,
      c.if-count-eq-MAX_INPUT.false,
    ) in
    served-cut _ _ _ _ _ _ (take c.in-Ok.n c.take.new.into) _ _ _ _ _ _ c.hearing.invariant
    c.in-Ok.ensures.bytes.0 size short room c.in-Ok.ensures.cause.later c.take.ensures.counted
    c.in-Err-Fault-hear.ensures.took c.in-Err-Fault-hear.ensures.later
    (c.in-Err-Fault-hear.ensures.fault (ap Err c.in-Err-Fault-hear.field-0-is))

pub returns-in-Err-Memory-hear : goal.returns-in-Err-Memory-hear
returns-in-Err-Memory-hear g c =
    let size = length-take-le c.in-Ok.n c.take.new.into c.in-Ok.ensures.within in
    let short : c.in-Ok.n ≤ MAX_PIECE
    = omega (
      arith,
      c.take.auto.into,
      c.max.ensures,
      c.min-room.ensures,
      length-take {A = ℕ},
      c.in-Ok.ensures.within,
    ) in
    let room : c.hearing.count + c.in-Ok.n ≤ MAX_INPUT
    = omega (
      arith,
      c.take.auto.into,
      c.max.ensures,
      c.min-room.ensures,
      length-take {A = ℕ},
      c.in-Ok.ensures.within,
      c.hearing.invariant.short,
      c.if-count-eq-MAX_INPUT.false,
    ) in
    served-short _ _ _ _ _ _ (take c.in-Ok.n c.take.new.into) _ _ _ _ _ _ c.hearing.invariant
    c.in-Ok.ensures.bytes.0 size short room c.in-Ok.ensures.cause.later c.take.ensures.counted
    (c.in-Err-Memory-hear.ensures.memory (ap Err c.in-Err-Memory-hear.field-0-is))
    c.in-Err-Memory-hear.ensures.later
    (c.in-Err-Memory-hear.ensures.waits (memory_no_fault _ c.in-Err-Memory-hear.field-0-is))
