use Rattle.braid_word.proofs.ByteLemmas.{IsReadTo}
use Rattle.braid_word.proofs.reader.read_bytes.Given as goal

abbrev pub invariant-loop-byte : goal.invariant-loop-byte
invariant-loop-byte l = IsReadTo l.bytes l.byte-index l.place l.count l.letters.items
