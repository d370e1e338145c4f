-- The values of terms in a Laver table.
--
-- A Laver table is a left-distributive system that 1 generates; so each term has a value in it, that of the
-- variable being 1, and equivalent terms have the same value.
-- Source: R. Laver, On the algebra of elementary embeddings of a rank into itself, 1995; P. Dehornoy, Braids
-- and Self-Distributivity, 2000, chapter X.
--
--   value_of rows t   the value of t in the table of these rows
use Rattle.std.specs.Prelude.{ℕ, List}
use Rattle.ld_term.specs.Terms.{Term, variable, multiply}
use Rattle.laver_table.specs.Table.{entry}

-- The value: in the table of size 8 that of x(xx) is 4.
abbrev pub value_of : List (List ℕ) → Term → ℕ
value_of rows variable = 1
value_of rows (multiply t u) = entry rows (value_of rows t) (value_of rows u)
