use Rattle.std.proofs.Common.{◌≡◌, ◌+◌, ◌==◌, drop}
use Rattle.std.specs.List.{prefix_len}
use Rattle.ld_term.proofs.token.spaces_in_front.Given as goal

abbrev pub invariant-loop-i : goal.invariant-loop-i
invariant-loop-i l =
    l.i + prefix_len (λ byte. byte == 32) (drop l.i l.bytes) ≡ prefix_len (λ byte. byte == 32) l.bytes
