use Rattle.shift_braid.proofs.BracketLemmas.{less-bracket}
use Rattle.shift_braid.proofs.laws.law_less.Goals as goal

pub returns : goal.returns
returns c = less-bracket c.args.a.now c.args.b.now
