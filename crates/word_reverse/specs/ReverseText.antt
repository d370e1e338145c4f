-- The text of a reverse file, version 1.
--
-- A file has a word, the places of the corners that were turned, one after the other, and the fraction that
-- was reached. Each line ends with LF (byte 10); fields are parted by one space.
-- Source: this project's own.
--
--   Reversal          what a reverse file says
--   reverse_text r    its text
use Rattle.std.specs.Prelude.{ℕ, List, ◌++◌, codes, decimal}
use Rattle.std.specs.List.{flat_map}
use Rattle.wb_base.specs.Lines.{line}
use Rattle.braid_word.specs.Words.{Letter}
use Rattle.braid_word.specs.Notation.{word_field}

-- A word, the place of each corner in the word before it, counted from 1, and the two words u and v of the
-- fraction u v^-1.
pub record Reversal : Type 0 where
  pub word : List Letter
  pub places : List ℕ
  pub left : List Letter
  pub right : List Letter

-- The line of a step: `r 2` turns the corner at 2.
abbrev pub step_line : ℕ → List ℕ
step_line p = line (codes "r " ++ decimal p)

-- The lines before the steps.
abbrev pub head_text : List Letter → List ℕ
head_text w = line (codes "reverse-trace 1") ++ line (codes "word" ++ word_field w)

-- The lines behind the steps.
abbrev pub tail_text : List Letter → List Letter → List ℕ
tail_text u v =
    line (codes "left" ++ word_field u) ++ line (codes "right" ++ word_field v) ++ line (codes "end")

unfoldable pub reverse_text : Reversal → List ℕ
reverse_text r = head_text r.word ++ flat_map step_line r.places ++ tail_text r.left r.right
