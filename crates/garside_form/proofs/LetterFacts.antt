-- Worked rows of half turns and of the simple braids of letters, by computation.
use Rattle.std.proofs.Common.{◌≡◌, pos, negsuc, true, false, [], ◌∷◌, refl}
use Rattle.braid_word.specs.Words.{letter}
use Rattle.perm_braid.specs.SimpleWords.{generator}
use Rattle.garside_form.specs.NormalForms.{delta_power}
use Rattle.garside_form.specs.FactorLists.{half_turns, is_odd, turned_index, turned_factors, letter_factor}

-- the powers 0, -1 and 2 of the half turn
no_turns : delta_power 3 (pos 0) ≡ []
no_turns = refl

inverse_turn : delta_power 3 (negsuc 0) ≡ letter 1 true ∷ letter 2 true ∷ letter 1 true ∷ []
inverse_turn = refl

two_turns : delta_power 2 (pos 2) ≡ generator 1 ∷ generator 1 ∷ []
two_turns = refl

-- two inverse half turns of 2 strands and then one half turn
turns_behind : half_turns 2 1 2 ≡ letter 1 true ∷ letter 1 true ∷ generator 1 ∷ []
turns_behind = refl

-- `-1` on 3 strands: the half turn without its first letter, before an inverse half turn; behind that it is
-- `2 3 1`
inverse_letter : letter_factor 3 1 true ≡ 3 ∷ 1 ∷ 2 ∷ []
inverse_letter = refl

turned : turned_factors (is_odd 1) (letter_factor 3 1 true ∷ []) ≡ (2 ∷ 3 ∷ 1 ∷ []) ∷ []
turned = refl

-- on 2 strands nothing is left of it, and no index turns
inverse_of_two : letter_factor 2 1 true ∷ letter_factor 2 1 false ∷ [] ≡ (1 ∷ 2 ∷ []) ∷ ((2 ∷ 1 ∷ []) ∷ [])
inverse_of_two = refl

index_of_two : turned_index 2 true 1 ∷ turned_index 3 true 1 ∷ turned_index 3 false 1 ∷ [] ≡ 1 ∷ 2 ∷ 1 ∷ []
index_of_two = refl
