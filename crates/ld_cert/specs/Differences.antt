-- The least Laver table that tells two terms apart.
--
-- Source: this project's own; the tables are those of R. Laver, On the algebra of elementary embeddings of a
-- rank into itself, 1995.
--
--   AreAlikeIn m t u           t and u have one value in the Laver table of size 2^m
--   IsLeastApart n t u found   the least m up to n in whose table they have two values, if there is one
use Rattle.std.specs.Prelude.{◌≡◌, ℕ, ◌<◌, ◌≤◌, List, Option, Some, None}
use Rattle.ld_term.specs.Terms.{Term}
use Rattle.laver_table.specs.Table.{IsLaver}
use Rattle.term_eval.specs.Values.{value_of}

abbrev pub AreAlikeIn : ℕ → Term → Term → Type 0
AreAlikeIn m t u = (rows : List (List ℕ)) → IsLaver m rows → value_of rows t ≡ value_of rows u

abbrev pub IsLeastApart : ℕ → Term → Term → Option ℕ → Type 0
IsLeastApart n t u None = (k : ℕ) → k ≤ n → AreAlikeIn k t u
IsLeastApart n t u (Some m) = (m ≤ n) × (AreAlikeIn m t u → ⊥) × ((k : ℕ) → k < m → AreAlikeIn k t u)
