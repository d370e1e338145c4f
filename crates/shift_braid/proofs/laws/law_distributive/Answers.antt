use Rattle.shift_braid.proofs.BracketLemmas.{Equivalent-distributive}
use Rattle.shift_braid.proofs.laws.law_distributive.Goals as goal

pub returns : goal.returns
returns c = Equivalent-distributive c.args.a.now c.args.b.now c.args.c.now
