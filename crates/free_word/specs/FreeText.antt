-- How free words are written: signed indices with one space between them.
--
-- Source: this project's own, as the number notation of braid words.
--
--   gen_text x     the index of x, behind a minus sign for an inverse
--   next_text x    the same behind a space
--   free_text f    the texts of the generators of f, with one space between them
use Rattle.std.specs.Prelude.{ℕ, List, ◌∷◌, map}
use Rattle.std.specs.List.{join_with_byte}
use Rattle.wb_base.specs.Numbers.{signed_text}
use Rattle.free_word.specs.FreeWords.{Gen}

-- The text of a generator: `2` or `-2`.
abbrev pub gen_text : Gen → List ℕ
gen_text x = signed_text x.negative x.index

-- A generator behind a space. No public clause cites it.
abbrev pub next_text : Gen → List ℕ
next_text x = 32 ∷ gen_text x

-- The text of a free word: `1 2 -1`. The empty word has no bytes.
unfoldable pub free_text : List Gen → List ℕ
free_text f = join_with_byte 32 (map gen_text f)
