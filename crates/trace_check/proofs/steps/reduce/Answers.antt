use Rattle.std.proofs.Common.{ap₂, ◌+◌, arith}
use Rattle.trace_check.proofs.ReductionLemmas.{stepped-none, length-moved_reduct, stepped-too_long, stepped-reduct}
use Rattle.trace_check.proofs.KnownLemmas.{IsKnown-moved}
use Rattle.trace_check.proofs.steps.reduce.Goals as goal

pub raised_in-requires : goal.raised_in-requires
raised_in-requires c =
    IsKnown-moved c.args.word.now c.go_to.new.word c.args.known _ c.go_to.ensures c.requires.known

pub returns-in_default-clause-word : goal.returns-in_default-clause-word
returns-in_default-clause-word c =
    stepped-none c.args.word.now c.go_to.new.word c.args.start c.args.end c.go_to.ensures c.in_default.ensures

pub returns-then-left_len-right_len-gt-MAX_LETTERS-clause-word
    : goal.returns-then-left_len-right_len-gt-MAX_LETTERS-clause-word
returns-then-left_len-right_len-gt-MAX_LETTERS-clause-word c =
    let (handle, count) = c.in-Some.ensures in
    stepped-too_long c.args.word.now c.go_to.new.word c.args.start c.args.end c.go_to.ensures
    _ handle
    (length-moved_reduct c.args.word.now c.go_to.new.word c.args.start c.args.end c.go_to.ensures
    _ _ handle count
    (ap₂ (λ m n. m + n) c.left_len.ensures.value c.right_len.ensures.value))
    c.if-left_len-right_len-gt-MAX_LETTERS.true

pub close-requires-clause-known : goal.close-requires-clause-known
close-requires-clause-known c =
    IsKnown-moved c.args.word.now c.go_to.new.word c.args.known _ c.go_to.ensures c.requires.known

pub close-requires-clause-short : goal.close-requires-clause-short
close-requires-clause-short c =
    let (handle, count) = c.in-Some.ensures in
    let size = length-moved_reduct c.args.word.now c.go_to.new.word c.args.start c.args.end c.go_to.ensures
    _ _ handle count
    (ap₂ (λ m n. m + n) c.left_len.ensures.value c.right_len.ensures.value) in
    omega (arith, size, c.if-left_len-right_len-gt-MAX_LETTERS.false)

pub returns-clause-word : goal.returns-clause-word
returns-clause-word c =
    let (handle, count) = c.in-Some.ensures in
    let size = length-moved_reduct c.args.word.now c.go_to.new.word c.args.start c.args.end c.go_to.ensures
    _ _ handle count
    (ap₂ (λ m n. m + n) c.left_len.ensures.value c.right_len.ensures.value) in
    stepped-reduct c.args.word.now c.go_to.new.word c.args.start c.args.end c.go_to.ensures
    c.close.new.word handle c.close.ensures.reduct
    (omega (arith, size, c.if-left_len-right_len-gt-MAX_LETTERS.false))
