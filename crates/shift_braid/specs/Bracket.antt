-- The bracket of two braid words: the left-distributive operation on braids.
--
-- Up to equivalence, the bracket of a with the bracket of b and c is the bracket of the brackets of a with
-- b and with c; and a is less than its bracket with any word.
-- Source: P. Dehornoy, Braid groups and left distributive operations, 1994.
--
--   bracket a b        a, then b shifted, then s_1, then the inverse of a shifted
--   HasIndexFrom k w   some index of w is k or more
--
-- The laws stand in `proofs/BracketLemmas.antt`.
use Rattle.std.specs.Prelude.{ℕ, ◌≤◌, false, List, ◌∷◌, ◌++◌}
use Rattle.braid_word.specs.Words.{Letter, letter, inverse, shift, SomeLetter}

-- The word of a sh(b) s_1 sh(a)^-1: of `1` and `2` it is `1 3 1 -2`.
abbrev pub bracket : List Letter → List Letter → List Letter
bracket a b = a ++ (shift b ++ (letter 1 false ∷ inverse (shift a)))

-- Some index is this one or above it.
abbrev pub HasIndexFrom : ℕ → List Letter → Type 0
HasIndexFrom k = SomeLetter (λ x. k ≤ x.index)
