use Rattle.std.proofs.Common.{◌==◌, ap, ◌∙◌}
use Rattle.std.specs.List.{prefix_len}
use Rattle.ld_term.proofs.PieceLemmas.{start-spaces}
use Rattle.ld_term.proofs.token.next_start.Goals as goal

pub returns : goal.returns
returns c =
    rw c.if-strict.false (start-spaces _ _ _ c.requires
    (c.spaces_in_front.ensures.value ∙ ap (prefix_len (λ byte. byte == 32)) c.split_at.ensures.back))
