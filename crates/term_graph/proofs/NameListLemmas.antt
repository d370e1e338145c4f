-- Names of terms, and the map that has their numbers.
use Rattle.std.proofs.Common.{◌≡◌, ℕ, List, [], ◌∷◌, refl}
use Rattle.std.specs.Map.{lookup}
use Rattle.wb_base.proofs.NameLemmas.{same_name, same_name-bytes}
use Rattle.term_graph.specs.NameLists.{number_of}

-- the number of a name is what the map has under it
pub number_of-lookup
    : (name : List ℕ) (names : List (List ℕ × ℕ))
    → lookup (same_name name) names ≡ number_of name names
number_of-lookup name [] = refl
number_of-lookup name (own ∷ names) = rw (same_name-bytes name own.0, number_of-lookup name names) refl
