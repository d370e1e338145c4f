use Rattle.std.proofs.Common.{sym}
use Rattle.braid_word.proofs.PieceLemmas.{AllDigits-is_numeral}
use Rattle.braid_word.proofs.reader.read_letter.Goals as goal

pub index_of-requires : goal.index_of-requires
index_of-requires c = AllDigits-is_numeral _ (sym c.if-not-is_numeral.ensures)
