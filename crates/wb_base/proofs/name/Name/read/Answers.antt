use Rattle.std.proofs.Common.{sym}
use Rattle.wb_base.proofs.NameLemmas.{stored-new}
use Rattle.wb_base.proofs.name.Name.read.Goals as goal

pub invariant_of-result : goal.invariant_of-result
invariant_of-result c =
    rw c.copy_from_slice.ensures.after (stored-new c.args.bytes.now (sym c.if-not-is_name.ensures))
