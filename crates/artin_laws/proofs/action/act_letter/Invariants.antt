use Rattle.std.proofs.Common.{◌≡◌, take}
use Rattle.artin_laws.specs.Action.{act_letter}
use Rattle.artin_laws.proofs.action.act_letter.Given as goal

-- The image of the generators before this one.
abbrev pub invariant-loop-y : goal.invariant-loop-y
invariant-loop-y l = l.image ≡ act_letter l.x (take l.y-index l.word)
