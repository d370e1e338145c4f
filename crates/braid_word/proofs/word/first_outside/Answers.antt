use Rattle.std.proofs.Common.{sym, subst, arith}
use Rattle.std.proofs.lemmas.List.{take_all}
use Rattle.braid_word.specs.Words.{IsOn}
use Rattle.braid_word.proofs.WordLemmas.{first_outside-here, first_outside-on}
use Rattle.braid_word.proofs.word.first_outside.Goals as goal

pub returns-then-strands-from-clause-place : goal.returns-then-strands-from-clause-place
returns-then-strands-from-clause-place c =
    sym (first_outside-here c.args.strands c.loop-k.k c.args.letters.now c.index-letters-k.result _
    (omega arith)
    c.index-letters-k.is c.loop-k.invariant
    (omega (arith, c.if-strands-from.true, c.from.ensures, c.index.ensures.value)))

pub returns-clause-place : goal.returns-clause-place
returns-clause-place c =
    let all = take_all c.loop-k.k c.args.letters.now (omega arith) in
    sym (first_outside-on c.args.strands c.args.letters.now
    (subst (IsOn c.args.strands) all c.loop-k.invariant))
