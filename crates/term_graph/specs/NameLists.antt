-- Names of terms: a list of pairs of a name's bytes and a number, in order of definition.
-- Source: this project's own.
--
--   number_of name names   the number of a name, where it is there
use Rattle.std.specs.Prelude.{ℕ, if◌then◌else◌, List, [], ◌∷◌, Option, Some, None}
use Rattle.std.specs.Str.{bytes_eq}

-- The number of a name.
abbrev pub number_of : List ℕ → List (List ℕ × ℕ) → Option ℕ
number_of name [] = None
number_of name (own ∷ names) = if bytes_eq name own.0 then Some own.1 else number_of name names
