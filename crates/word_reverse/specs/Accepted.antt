-- When a reverse file is accepted, and what an accepted one shows.
--
-- Its bytes are the text of a reversal whose steps turn corners, over words that aren't too long, from its
-- word to one that its two words are the fraction of as it stands.
-- Source: this project's own; the steps are those of right reversing.
--
--   IsTurns a ps b       turning the corners at the places ps, one after the other, leads from a to b
--   IsAccepted bytes r   the bytes are the text of the reversal r, and it is so
--   IsValid r            the fraction of r represents the braid of its word
--   Claim, claim_of r    what a reversal claims
--
-- An accepted reversal is valid: `IsValid-accepted` in `proofs/AcceptedLemmas.antt`.
use Rattle.std.specs.Prelude.{◌≡◌, ℕ, ◌-◌, ◌≤◌, List, [], ◌∷◌, length}
use Rattle.braid_word.specs.Words.{Letter}
use Rattle.braid_word.specs.declared.TheConstants.{MAX_LETTERS}
use Rattle.word_reverse.specs.Corners.{IsCorner, turned_at}
use Rattle.word_reverse.specs.Fractions.{IsSplit, IsFraction}
use Rattle.word_reverse.specs.ReverseText.{Reversal, reverse_text}
use Rattle.word_reverse.specs.ReverseLines.{IsReversal}

-- At each place, counted from 1, the word before it has a corner, and no word on the way is too long.
abbrev pub IsTurns : List Letter → List ℕ → List Letter → Type 0
IsTurns a [] b = b ≡ a
IsTurns a (p ∷ ps) b =
    (1 ≤ p) × IsCorner a (p - 1) × (length (turned_at a (p - 1)) ≤ MAX_LETTERS)
    × IsTurns (turned_at a (p - 1)) ps b

-- The steps of the file lead to a word that is its fraction as it stands.
pub record IsAccepted (bytes : List ℕ) (r : Reversal) : Type 0 where
  pub text : bytes ≡ reverse_text r
  pub bounds : IsReversal r
  pub last : List Letter
  pub turns : IsTurns r.word r.places last
  pub split : IsSplit last r.left r.right

-- For its words u and v, which are positive, u v^-1 represents the braid of its word, on as few strands.
abbrev pub IsValid : Reversal → Type 0
IsValid r = IsFraction r.word r.left r.right

-- ---- Claims ----

-- A word, and the two words of its fraction.
pub record Claim : Type 0 where
  pub word : List Letter
  pub left : List Letter
  pub right : List Letter

-- What a reversal claims.
abbrev pub claim_of : Reversal → Claim
claim_of r = record { word = r.word; left = r.left; right = r.right }
