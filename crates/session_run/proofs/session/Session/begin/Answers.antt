use Rattle.std.proofs.Common.{sym, refl, ◌∙◌, arith}
use Rattle.session_run.proofs.OpeningLemmas.{opening_of-too_long, opening_of-free}
use Rattle.braid_word.proofs.WordLemmas.{length-quotient}
use Rattle.session_run.proofs.session.Session.begin.Goals as goal

pub returns-then-letters-gt-MAX_LETTERS-clause-reply : goal.returns-then-letters-gt-MAX_LETTERS-clause-reply
returns-then-letters-gt-MAX_LETTERS-clause-reply c =
    let is = opening_of-too_long c.args.self.now c.args.name c.args.words.0 c.args.words.1
    (sym c.is_open.ensures ∙ c.if-is_open.false)
    (omega (arith, c.job_count.ensures, c.if-job_count-ge-MAX_JOBS.false))
    (rw (c.letters.ensures, c.letters-2.ensures) at c.if-letters-gt-MAX_LETTERS.true) in
    λ _. rw (is, c.letters.ensures, c.letters-2.ensures, length-quotient c.args.words.0 c.args.words.1) refl

pub returns-then-letters-gt-MAX_LETTERS-clause-jobs : goal.returns-then-letters-gt-MAX_LETTERS-clause-jobs
returns-then-letters-gt-MAX_LETTERS-clause-jobs c =
    let is = opening_of-too_long c.args.self.now c.args.name c.args.words.0 c.args.words.1
    (sym c.is_open.ensures ∙ c.if-is_open.false)
    (omega (arith, c.job_count.ensures, c.if-job_count-ge-MAX_JOBS.false))
    (rw (c.letters.ensures, c.letters-2.ensures) at c.if-letters-gt-MAX_LETTERS.true) in
    λ _. rw is refl

pub add-requires-clause-short : goal.add-requires-clause-short
add-requires-clause-short c =
    rw (length-quotient c.args.words.0 c.args.words.1)
    (rw (c.letters.ensures, c.letters-2.ensures) at c.if-letters-gt-MAX_LETTERS.false)

pub returns-in-Ok-clause-reply : goal.returns-in-Ok-clause-reply
returns-in-Ok-clause-reply c =
    let is = opening_of-free c.args.self.now c.args.name c.args.words.0 c.args.words.1
    (sym c.is_open.ensures ∙ c.if-is_open.false)
    (omega (arith, c.job_count.ensures, c.if-job_count-ge-MAX_JOBS.false))
    (rw (c.letters.ensures, c.letters-2.ensures) at c.if-letters-gt-MAX_LETTERS.false) in
    λ _. rw is refl

pub returns-in-Ok-clause-jobs : goal.returns-in-Ok-clause-jobs
returns-in-Ok-clause-jobs c =
    let is = opening_of-free c.args.self.now c.args.name c.args.words.0 c.args.words.1
    (sym c.is_open.ensures ∙ c.if-is_open.false)
    (omega (arith, c.job_count.ensures, c.if-job_count-ge-MAX_JOBS.false))
    (rw (c.letters.ensures, c.letters-2.ensures) at c.if-letters-gt-MAX_LETTERS.false) in
    λ _. rw is c.in-Ok.ensures.ok
