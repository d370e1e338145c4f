use Rattle.std.proofs.Common.{length}
use Rattle.term_expand.proofs.expansion.+expand_at.Given as goal

-- proposed from what the function passes where it calls itself
abbrev pub decreases-expand_at : goal.decreases-expand_at
decreases-expand_at l = length l.address.now
