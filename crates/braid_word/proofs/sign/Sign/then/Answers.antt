-- The letter is higher than the least index, has it with the one sign before or not, or is lower.
use Rattle.std.proofs.Common.{◌≡◌, ap, sym, ◌∙◌, arith, rules}
use Rattle.braid_word.specs.Words.{Letter}
use Rattle.braid_word.proofs.SignAppendLemmas.{sign_of-append_lower, sign_of-append_mixed, sign_of-append_alike, sign_of-append_higher}
use Rattle.braid_word.proofs.sign.Sign.then.Goals as goal

pub returns-in-Some : goal.returns-in-Some
returns-in-Some c =
    let read = ap (λ (x : Letter). x.index) c.letter.view_is in
    sign_of-append_higher _ c.in-Some.least _ c.in-Some.ensures (omega arith)

pub returns-then-eq : goal.returns-then-eq
returns-then-eq c =
    let read = ap (λ (x : Letter). x.index) c.letter.view_is in
    let alike : c.of_letter-alone.result ≡ c.args.self
    = search (rules, c.eq.ensures, c.if-eq.ensures, c.if-eq.true) in
    sign_of-append_alike _ c.in-Some.least _ c.in-Some.ensures (omega arith)
    (sym c.of_letter-alone.ensures ∙ alike)

pub returns-else-eq : goal.returns-else-eq
returns-else-eq c =
    let read = ap (λ (x : Letter). x.index) c.letter.view_is in
    let other : c.of_letter-alone.result ≡ c.args.self → ⊥
    = λ e. search (rules, c.eq.ensures, c.if-eq.ensures, c.if-eq.false) in
    sign_of-append_mixed _ c.in-Some.least _ c.in-Some.ensures (omega arith)
    (λ e. other (c.of_letter-alone.ensures ∙ e))

pub returns-in_default : goal.returns-in_default
returns-in_default c = λ w is.
    let read = ap (λ (x : Letter). x.index) c.letter.view_is in
    c.of_letter-alone.ensures ∙
    sign_of-append_lower _ c.in-Some.least _ c.in-Some.ensures (omega arith) w is
