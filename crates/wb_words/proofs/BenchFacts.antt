-- Worked rows of the commands' numbers and of pseudorandom words, by computation.
use Rattle.std.proofs.Common.{◌≡◌, [], ◌∷◌, codes, Some, None, true, false, refl}
use Rattle.braid_word.specs.Words.{letter}
use Rattle.wb_words.specs.Normal.{normal_of}
use Rattle.wb_words.specs.Act.{act_of}
use Rattle.wb_words.specs.Bench.{made_word, state_after, bench_of}

-- there is a normal form on two strands, and none on one
normal_row : normal_of (codes "2" ∷ []) ∷ (normal_of (codes "1" ∷ []) ∷ []) ≡ Some 2 ∷ (None ∷ [])
normal_row = refl

-- the last generator of two strands, and an image of one generator
act_row : act_of (codes "2" ∷ (codes "2" ∷ (codes "1" ∷ []))) ≡ Some
    (record { strands = 2; index = 2; limit = 1 })
act_row = refl

-- the limits of a run stand after the number of pairs and the first state
bench_row
    : bench_of (codes "4" ∷ (codes "12" ∷ (codes "3" ∷ (codes "7" ∷ (codes "50" ∷ (codes "60" ∷ []))))))
    ≡ Some (record {
      pairs = record { strands = 4; size = 12; handles = 50; limit = 60 };
      count = 3;
      seed = 7;
    })
bench_row = refl

-- from 0 the second state is this, and the first two letters on two strands are `1` and `-1`
state_row : state_after 2 0 ≡ 1876011003808476466
state_row = refl

letters_row : made_word 2 2 0 ≡ letter 1 false ∷ (letter 1 true ∷ [])
letters_row = refl
