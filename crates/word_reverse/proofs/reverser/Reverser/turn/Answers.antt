use Rattle.std.proofs.Common.{◌≡◌, ◌+◌, arith, ap, ◌∙◌}
use Rattle.std.proofs.lemmas.Bool.{false≢true}
use Rattle.word_reverse.specs.RevRuns.{turned}
use Rattle.word_reverse.proofs.ReverserLemmas.{turned-stays, turned-ended, IsRevAfter-turned}
use Rattle.word_reverse.proofs.RevRunEquivalence.{IsRevAfter-equivalent}
use Rattle.word_reverse.proofs.reverser.Reverser.turn.Goals as goal

pub returns-then-not-is_running-clause-turned : goal.returns-then-not-is_running-clause-turned
returns-then-not-is_running-clause-turned c =
    turned-ended _ _ c.loop.counter _ c.loop.invariant (omega arith)
    (λ running. false≢true (c.if-not-is_running.ensures.1 running))

pub returns-then-not-is_running-clause-run : goal.returns-then-not-is_running-clause-run
returns-then-not-is_running-clause-run c = λ w steps limit t is.
    IsRevAfter-turned w steps limit t c.args.at_most _ _ is
    (turned-ended _ _ c.loop.counter _ c.loop.invariant (omega arith)
    (λ running. false≢true (c.if-not-is_running.ensures.1 running)))

pub returns-then-not-is_running-clause-equivalent : goal.returns-then-not-is_running-clause-equivalent
returns-then-not-is_running-clause-equivalent c = λ w steps limit t n is.
    let run = IsRevAfter-turned w steps limit t c.args.at_most _ _ is
    (turned-ended _ _ c.loop.counter _ c.loop.invariant (omega arith)
    (λ running. false≢true (c.if-not-is_running.ensures.1 running))) in
    IsRevAfter-equivalent w steps limit (t + c.args.at_most) n _ run

pub returns-clause-run : goal.returns-clause-run
returns-clause-run c = λ w steps limit t is.
    let all : c.loop.counter ≡ c.args.at_most = omega arith in
    IsRevAfter-turned w steps limit t c.args.at_most _ _ is
    (c.loop.invariant ∙ ap (turned c.args.self.now) all)

pub returns-clause-equivalent : goal.returns-clause-equivalent
returns-clause-equivalent c = λ w steps limit t n is.
    let all : c.loop.counter ≡ c.args.at_most = omega arith in
    let run = IsRevAfter-turned w steps limit t c.args.at_most _ _ is
    (c.loop.invariant ∙ ap (turned c.args.self.now) all) in
    IsRevAfter-equivalent w steps limit (t + c.args.at_most) n _ run

pub returns-then-not-is_running-clause-ended : goal.returns-then-not-is_running-clause-ended
returns-then-not-is_running-clause-ended c = turned-stays _ _ c.loop.counter c.loop.invariant

pub returns-clause-ended : goal.returns-clause-ended
returns-clause-ended c = turned-stays _ _ c.loop.counter c.loop.invariant
