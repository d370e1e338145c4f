-- Each letter of the next index inside the handle adds two.
use Rattle.std.proofs.Common.{◌-◌, ◌^◌, min, ap, ◌∙◌}
use Rattle.braid_word.specs.Words.{Letter}
use Rattle.handle_find.proofs.ReductLength.{length-reduct_by_count}
use Rattle.handle_find.proofs.rewrite.reduct_len.Goals as goal

pub returns : goal.returns
returns c =
    let is = length-reduct_by_count _ _ _ _ c.first.inside.index _
    c.requires
    c.index-word-p.is
    (ap (λ (x : Letter). x.index) c.first.view_is)
    c.count_of_index-raised.ensures in
    c.saturating_add.ensures ∙ ap (λ n. min n (2 ^ 64 - 1)) is
