-- How Laver tables are written: a line for each row, its entries with one space between them.
--
-- Source: this project's own.
--
--   row_line row        a row as a line, with its LF
--   table_text rows     the lines of all rows, from the first on
use Rattle.std.specs.Prelude.{ℕ, List, map, decimal}
use Rattle.std.specs.List.{join_with_byte, flat_map}
use Rattle.wb_base.specs.Lines.{line}

-- A row as a line: `2 4 2 4`, and LF.
unfoldable pub row_line : List ℕ → List ℕ
row_line row = line (join_with_byte 32 (map decimal row))

-- All rows as lines.
unfoldable pub table_text : List (List ℕ) → List ℕ
table_text rows = flat_map row_line rows
