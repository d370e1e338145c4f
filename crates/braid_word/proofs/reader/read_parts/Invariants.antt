use Rattle.std.proofs.Common.{length}
use Rattle.braid_word.proofs.PieceLemmas.{IsRead}
use Rattle.braid_word.proofs.reader.read_parts.Given as goal

abbrev pub invariant-loop-part : goal.invariant-loop-part
invariant-loop-part l = IsRead l.strict l.bytes (length l.yielded) l.place l.count l.letters.items
