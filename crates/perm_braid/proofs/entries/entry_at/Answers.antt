use Rattle.std.proofs.Common.{sym, arith, ◌-◌}
use Rattle.perm_braid.proofs.PlaceLemmas.{entry_at}
use Rattle.perm_braid.proofs.entries.entry_at.Goals as goal

pub returns : goal.returns
returns c = sym (entry_at c.args.numbers.now c.args.place (c.args.place - 1) (omega (arith, c.requires.low)))
