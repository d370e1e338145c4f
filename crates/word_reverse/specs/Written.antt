-- What is written of a run of right reversing that is done.
--
-- Source: this project's own.
--
--   reversal_of w s   the reversal that is written of w and its run, which has come to s
--   side_of side w    the word of a fraction that is written of w
--
-- Each is accepted as a file: the law `law_written_reversal`.
use Rattle.std.specs.Prelude.{ℕ, List, take, drop}
use Rattle.braid_word.specs.Words.{Letter, inverse}
use Rattle.word_reverse.specs.Fractions.{positive_front, behind_front}
use Rattle.word_reverse.specs.RevRuns.{RevState}
use Rattle.word_reverse.specs.ReverseText.{Reversal}
use Rattle.word_reverse.specs.declared.text.Side.{Side}
use Rattle.word_reverse.specs.declared.text.Side.TheVariants as sides

-- The word, the places of the run's steps, and the fraction that the word which it has reached is.
abbrev pub reversal_of : List Letter → RevState → Reversal
reversal_of w s = record {
  word = w;
  places = s.places;
  left = positive_front s.present;
  right = inverse (behind_front s.present);
}

-- The two words of a fraction, where w is cut at a place: what stands before that, and the inverse of the
-- rest. No public clause cites them.
abbrev pub side_of : Side → List Letter → List Letter
side_of (sides.Left cut) w = take cut w
side_of (sides.Right cut) w = inverse (drop cut w)

-- That place.
abbrev pub cut_of : Side → ℕ
cut_of (sides.Left cut) = cut
cut_of (sides.Right cut) = cut
