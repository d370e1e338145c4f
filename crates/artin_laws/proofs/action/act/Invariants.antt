use Rattle.std.proofs.Common.{◌≡◌, drop}
use Rattle.artin_laws.specs.Action.{act, ImagesFit}
use Rattle.artin_laws.proofs.action.act.Given as goal

-- The image under the letters from this place on, and that it and those before it fit.
abbrev pub invariant-loop-k : goal.invariant-loop-k
invariant-loop-k l = record {
  is : l.image ≡ act (drop l.k l.word) l.start;
  fit : ImagesFit l.limit (drop l.k l.word) l.start;
}
