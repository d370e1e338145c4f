use Rattle.std.proofs.Common.{◌∙◌, sym, ap, subst, arith}
use Rattle.std.proofs.lemmas.List.{take_all}
use Rattle.braid_word.specs.Words.{Letter, IsPositiveWord}
use Rattle.braid_word.proofs.NegativeLemmas.{first_negative-here, first_negative-positive}
use Rattle.braid_word.proofs.word.first_negative.Goals as goal

pub returns-then-letter-clause-place : goal.returns-then-letter-clause-place
returns-then-letter-clause-place c =
    sym (first_negative-here c.loop-k.k c.args.letters.now c.index-letters-k.result _ (omega arith)
    c.index-letters-k.is c.loop-k.invariant
    (ap (λ (x : Letter). x.negative) (sym c.letter.view_is) ∙ c.if-letter.true))

pub returns-clause-place : goal.returns-clause-place
returns-clause-place c =
    let all = take_all c.loop-k.k c.args.letters.now (omega arith) in
    sym (first_negative-positive c.args.letters.now (subst IsPositiveWord all c.loop-k.invariant))
