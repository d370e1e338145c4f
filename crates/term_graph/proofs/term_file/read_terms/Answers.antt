-- The lines that define names, and then one or two lines that are terms.
use Rattle.std.proofs.Common.{rules, ◌≡◌, ◌+◌, ◌<◌, ◌^◌, ◌∷◌, [], length, inr, sym, subst, arith}
use Rattle.std.proofs.lemmas.Result.{err_from_is_err_and, IfOk-weaker, IfErr-weaker}
use Rattle.wb_base.specs.Lines.{lines_of}
use Rattle.term_graph.specs.Readings.{IsReadTo}
use Rattle.term_graph.specs.declared.term_file.TermFile.{TermFile}
use Rattle.term_graph.proofs.FileLemmas.{exact-err, exact-answer}
use Rattle.term_graph.proofs.ReadingLemmas.{IsReadTo-start, file-refused}
use Rattle.term_graph.proofs.ReadingStepLemmas.{next-some, next-definition, next-definition_fault, first-fault, first-closed, second-fault, one-term, one-read, two-terms, second-closed, made-finished, second-none, second-some}
use Rattle.term_graph.proofs.term_file.read_terms.Goals as goal

pub loop-k-init : goal.loop-k-init
loop-k-init c =
    subst (λ z. IsReadTo c.args.terms (lines_of c.args.bytes.now) z 0 c.in_ok-reading.reading [])
    (sym c.lines-rest.ensures)
    (IsReadTo-start _ _ _ c.in_ok-reading.ensures)

pub unreachable-requires : goal.unreachable-requires
unreachable-requires c =
    let whole : c.in-Some.definitions + c.args.terms ≡ length (lines_of c.args.bytes.now) =
    omega (arith, c.in-Some.ensures, c.count_lines-count.ensures) in
    next-some _ _ _ _ _ _ c.loop-k.invariant (omega (arith, whole, c.loop-k-test.true))
    c.in_default-next.ensures.steps.0

pub define-requires : goal.define-requires
define-requires c = (c.loop-k.invariant.read, [], c.loop-k.invariant.holds)

pub returns-in_err-define-clause-refused : goal.returns-in_err-define-clause-refused
returns-in_err-define-clause-refused c =
    let whole : c.in-Some.definitions + c.args.terms ≡ length (lines_of c.args.bytes.now) =
    omega (arith, c.in-Some.ensures, c.count_lines-count.ensures) in
    let (e, is, same) =
    err_from_is_err_and c.from_residual-in_err-define.result c.from_residual-in_err-define.ensures.1 in
    rw (is, same)
    (next-definition_fault _ _ _ _ _ _ _ _ _ _ c.loop-k.invariant c.in-Some-next.ensures.steps whole
    c.loop-k-test.true c.in_err-define.ensures.refused)

pub loop-k-preserved : goal.loop-k-preserved
loop-k-preserved c =
    let whole : c.in-Some.definitions + c.args.terms ≡ length (lines_of c.args.bytes.now) =
    omega (arith, c.in-Some.ensures, c.count_lines-count.ensures) in
    let (r, defines) = c.in_ok-define.ensures.sound in
    next-definition _ _ _ _ _ _ _ _ _ _ r c.loop-k.invariant c.in-Some-next.ensures.steps whole
    c.loop-k-test.true defines

pub unreachable-requires-in_default-next-2 : goal.unreachable-requires-in_default-next-2
unreachable-requires-in_default-next-2 c =
    let whole : c.in-Some.definitions + c.args.terms ≡ length (lines_of c.args.bytes.now) =
    omega (arith, c.in-Some.ensures, c.count_lines-count.ensures) in
    next-some _ _ _ _ _ _ c.loop-k.invariant (omega (arith, whole, c.loop-k.auto.k-end, c.requires.some))
    c.in_default-next-2.ensures.steps.0

pub close-requires : goal.close-requires
close-requires c = (c.loop-k.invariant.read, [], c.loop-k.invariant.holds)

pub returns-in_err-first-clause-refused : goal.returns-in_err-first-clause-refused
returns-in_err-first-clause-refused c =
    let whole : c.in-Some.definitions + c.args.terms ≡ length (lines_of c.args.bytes.now) =
    omega (arith, c.in-Some.ensures, c.count_lines-count.ensures) in
    let end : c.loop-k.k ≡ c.in-Some.definitions = omega (arith, c.loop-k.auto.k-end, c.loop-k-test.false) in
    let (e, is, same) =
    err_from_is_err_and c.from_residual-in_err-first.result c.from_residual-in_err-first.ensures.1 in
    rw (is, same)
    (first-fault _ _ _ _ _ _ _ _ _ c.loop-k.invariant c.in-Some-next-2.ensures.steps whole end
    c.in_err-first.ensures.refused)

pub returns-in_default-next-3-clause-file : goal.returns-in_default-next-3-clause-file
returns-in_default-next-3-clause-file c =
    let whole : c.in-Some.definitions + c.args.terms ≡ length (lines_of c.args.bytes.now) =
    omega (arith, c.in-Some.ensures, c.count_lines-count.ensures) in
    let end : c.loop-k.k ≡ c.in-Some.definitions = omega (arith, c.loop-k.auto.k-end, c.loop-k-test.false) in
    let (r, closes) = c.in_ok-first.ensures.sound in
    let first = first-closed _ _ _ _ _ _ _ _ _ r _ c.loop-k.invariant c.in-Some-next-2.ensures.steps whole end
    closes in
    IfOk-weaker c.finish.result _ _
    (λ file. made-finished _ _ _ _ _ _ _ _ _ (omega (arith, whole))
    (one-read _ _ _ _ _ _ first c.in_default-next-3.ensures.steps.0)) c.finish.ensures.file

pub returns-in_default-next-3-clause-second : goal.returns-in_default-next-3-clause-second
returns-in_default-next-3-clause-second c =
    let whole : c.in-Some.definitions + c.args.terms ≡ length (lines_of c.args.bytes.now) =
    omega (arith, c.in-Some.ensures, c.count_lines-count.ensures) in
    let end : c.loop-k.k ≡ c.in-Some.definitions = omega (arith, c.loop-k.auto.k-end, c.loop-k-test.false) in
    let (r, closes) = c.in_ok-first.ensures.sound in
    let first = first-closed _ _ _ _ _ _ _ _ _ r _ c.loop-k.invariant c.in-Some-next-2.ensures.steps whole end
    closes in
    let one = one-term _ _ _ _ _ _ first c.in_default-next-3.ensures.steps.0 whole in
    IfOk-weaker c.finish.result _ _ (λ file is. second-none _ _ is.3 one) c.finish.ensures.file

pub returns-in_default-next-3-clause-refused : goal.returns-in_default-next-3-clause-refused
returns-in_default-next-3-clause-refused c =
    let whole : c.in-Some.definitions + c.args.terms ≡ length (lines_of c.args.bytes.now) =
    omega (arith, c.in-Some.ensures, c.count_lines-count.ensures) in
    let end : c.loop-k.k ≡ c.in-Some.definitions = omega (arith, c.loop-k.auto.k-end, c.loop-k-test.false) in
    let (r, closes) = c.in_ok-first.ensures.sound in
    let first = first-closed _ _ _ _ _ _ _ _ _ r _ c.loop-k.invariant c.in-Some-next-2.ensures.steps whole end
    closes in
    IfErr-weaker c.finish.result _ _
    (λ e is. inr
    (file-refused _ _ _ _ _ e (omega (arith, whole))
    (one-read _ _ _ _ _ _ first c.in_default-next-3.ensures.steps.0) is)) c.finish.ensures.refused

pub overflow_add-definitions-2 : goal.overflow_add-definitions-2
overflow_add-definitions-2 c =
    let whole : c.in-Some.definitions + c.args.terms ≡ length (lines_of c.args.bytes.now) =
    omega (arith, c.in-Some.ensures, c.count_lines-count.ensures) in
    let end : c.loop-k.k ≡ c.in-Some.definitions = omega (arith, c.loop-k.auto.k-end, c.loop-k-test.false) in
    let (r, closes) = c.in_ok-first.ensures.sound in
    let first = first-closed _ _ _ _ _ _ _ _ _ r _ c.loop-k.invariant c.in-Some-next-2.ensures.steps whole end
    closes in
    let two = two-terms _ _ _ _ _ _ _ _ first c.in-Some-next-3.ensures.steps whole c.requires.few in
    let fits : c.count_lines-count.result < 2 ^ 64 = search rules in
    omega (arith, whole, two, fits, c.count_lines-count.ensures)

pub close-requires-2 : goal.close-requires-2
close-requires-2 c =
    let whole : c.in-Some.definitions + c.args.terms ≡ length (lines_of c.args.bytes.now) =
    omega (arith, c.in-Some.ensures, c.count_lines-count.ensures) in
    let end : c.loop-k.k ≡ c.in-Some.definitions = omega (arith, c.loop-k.auto.k-end, c.loop-k-test.false) in
    let (r, closes) = c.in_ok-first.ensures.sound in
    let first = first-closed _ _ _ _ _ _ _ _ _ r _ c.loop-k.invariant c.in-Some-next-2.ensures.steps whole end
    closes in
    (first.read, c.in_ok-first.first ∷ [], first.holds)

pub returns-in_err-second-clause-refused : goal.returns-in_err-second-clause-refused
returns-in_err-second-clause-refused c =
    let whole : c.in-Some.definitions + c.args.terms ≡ length (lines_of c.args.bytes.now) =
    omega (arith, c.in-Some.ensures, c.count_lines-count.ensures) in
    let end : c.loop-k.k ≡ c.in-Some.definitions = omega (arith, c.loop-k.auto.k-end, c.loop-k-test.false) in
    let (r, closes) = c.in_ok-first.ensures.sound in
    let first = first-closed _ _ _ _ _ _ _ _ _ r _ c.loop-k.invariant c.in-Some-next-2.ensures.steps whole end
    closes in
    let (e, is, same) =
    err_from_is_err_and c.from_residual-in_err-second.result c.from_residual-in_err-second.ensures.1 in
    rw (is, same)
    (second-fault _ _ _ _ _ _ _ _ _ first c.in-Some-next-3.ensures.steps whole
    c.in_err-second.ensures.refused)

pub returns-clause-file : goal.returns-clause-file
returns-clause-file c =
    let whole : c.in-Some.definitions + c.args.terms ≡ length (lines_of c.args.bytes.now) =
    omega (arith, c.in-Some.ensures, c.count_lines-count.ensures) in
    let end : c.loop-k.k ≡ c.in-Some.definitions = omega (arith, c.loop-k.auto.k-end, c.loop-k-test.false) in
    let (r, closes) = c.in_ok-first.ensures.sound in
    let first = first-closed _ _ _ _ _ _ _ _ _ r _ c.loop-k.invariant c.in-Some-next-2.ensures.steps whole end
    closes in
    let (s, also) = c.in_ok-second.ensures.sound in
    let second =
    second-closed _ _ _ _ _ _ _ _ s _ _ first c.in-Some-next-3.ensures.steps whole c.requires.few also in
    IfOk-weaker c.finish-2.result _ _ (λ file. made-finished _ _ _ _ _ _ _ _ _ (omega (arith, whole)) second)
    c.finish-2.ensures.file

pub returns-clause-second : goal.returns-clause-second
returns-clause-second c =
    let whole : c.in-Some.definitions + c.args.terms ≡ length (lines_of c.args.bytes.now) =
    omega (arith, c.in-Some.ensures, c.count_lines-count.ensures) in
    let end : c.loop-k.k ≡ c.in-Some.definitions = omega (arith, c.loop-k.auto.k-end, c.loop-k-test.false) in
    let (r, closes) = c.in_ok-first.ensures.sound in
    let first = first-closed _ _ _ _ _ _ _ _ _ r _ c.loop-k.invariant c.in-Some-next-2.ensures.steps whole end
    closes in
    let two = two-terms _ _ _ _ _ _ _ _ first c.in-Some-next-3.ensures.steps whole c.requires.few in
    IfOk-weaker c.finish-2.result _ _ (λ file is. second-some _ _ _ is.3 two) c.finish-2.ensures.file

pub returns-clause-refused : goal.returns-clause-refused
returns-clause-refused c =
    let whole : c.in-Some.definitions + c.args.terms ≡ length (lines_of c.args.bytes.now) =
    omega (arith, c.in-Some.ensures, c.count_lines-count.ensures) in
    let end : c.loop-k.k ≡ c.in-Some.definitions = omega (arith, c.loop-k.auto.k-end, c.loop-k-test.false) in
    let (r, closes) = c.in_ok-first.ensures.sound in
    let first = first-closed _ _ _ _ _ _ _ _ _ r _ c.loop-k.invariant c.in-Some-next-2.ensures.steps whole end
    closes in
    let (s, also) = c.in_ok-second.ensures.sound in
    let second =
    second-closed _ _ _ _ _ _ _ _ s _ _ first c.in-Some-next-3.ensures.steps whole c.requires.few also in
    IfErr-weaker c.finish-2.result _ _
    (λ e is. inr (file-refused _ _ _ _ _ e (omega (arith, whole)) second is)) c.finish-2.ensures.refused

pub returns-in_err-define-clause-exact : goal.returns-in_err-define-clause-exact
returns-in_err-define-clause-exact c =
    exact-err _ _ _ c.from_residual-in_err-define.ensures.0 (returns-in_err-define-clause-refused c)

pub returns-in_err-first-clause-exact : goal.returns-in_err-first-clause-exact
returns-in_err-first-clause-exact c =
    exact-err _ _ _ c.from_residual-in_err-first.ensures.0 (returns-in_err-first-clause-refused c)

pub returns-in_default-next-3-clause-exact : goal.returns-in_default-next-3-clause-exact
returns-in_default-next-3-clause-exact c =
    exact-answer _ _ c.finish.result (λ (file : TermFile). file.graph) (λ (file : TermFile). file.first)
    (λ (file : TermFile). file.second)
    (returns-in_default-next-3-clause-file c) (returns-in_default-next-3-clause-refused c)

pub returns-in_err-second-clause-exact : goal.returns-in_err-second-clause-exact
returns-in_err-second-clause-exact c =
    exact-err _ _ _ c.from_residual-in_err-second.ensures.0 (returns-in_err-second-clause-refused c)

pub returns-clause-exact : goal.returns-clause-exact
returns-clause-exact c =
    exact-answer _ _ c.finish-2.result (λ (file : TermFile). file.graph) (λ (file : TermFile). file.first)
    (λ (file : TermFile). file.second)
    (returns-clause-file c) (returns-clause-refused c)
