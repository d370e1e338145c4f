use Rattle.std.proofs.Common.{Ok, ap, sym, ◌∙◌}
use Rattle.braid_word.proofs.PieceLemmas.{strict_word_of-some, strict_word_of-none}
use Rattle.braid_word.proofs.reader.read_strictly.Goals as goal

pub returns-then-is_empty : goal.returns-then-is_empty
returns-then-is_empty c =
    strict_word_of-none c.args.bytes.now (sym c.if-is_empty.ensures) ∙ ap Ok (sym c.new.ensures)

pub returns : goal.returns
returns c =
    rw (strict_word_of-some c.args.bytes.now (sym c.if-is_empty.ensures)) c.read_parts.ensures
