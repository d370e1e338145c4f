use Rattle.std.proofs.Common.{sym, ◌∙◌}
use Rattle.free_word.proofs.EndLemmas.{test_differs, IsReduced-end}
use Rattle.free_word.proofs.word.ends_in_inverse.Goals as goal

pub returns-in-Some-clause-kept : goal.returns-in-Some-clause-kept
returns-in-Some-clause-kept c failed reduced =
    let last = c.in-Some.last.now in
    let item = c.in-Some.ensures.item.3 in
    IsReduced-end c.args.letters.now c.args.x last item.0 (item.1 last)
    (λ e. test_differs last c.opposite.result (sym c.eq.ensures ∙ failed)
    (e ∙ sym c.opposite.ensures)) reduced
