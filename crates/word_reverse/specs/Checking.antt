-- How a reverse file is checked, line by line, and its first refusal.
--
-- The lines are taken in order, each in a state that says which line is due. The first line that can't be
-- kept is refused, for the first cause that holds of it.
-- Source: this project's own.
--
--   stepped w p          the word that the step at p leads to, or why it leads to none
--   kept_short due line  what is due after a line that isn't too long, or why it can't be kept
--   reverse_file         reverse files as files of lines: with this, and the causes of what no file may have
--   checked_of bytes     what a file claims, or the line and the cause of its first refusal
--
-- The first refusal in the words of lines is `IsFirstRefusal` in `FirstRefusal.antt`. That a file claims
-- something exactly where it is accepted is a clause of `check_reverse`.
use Rattle.std.specs.Prelude.{ℕ, ◌-◌, ◌==◌, ◌&&◌, nat_lt, Bool, true, false, not, if◌then◌else◌, List, ◌++◌, length, drop, codes, Option, Some, None, is_some, Result, Ok, Err}
use Rattle.std.specs.Bool.{beq}
use Rattle.std.specs.Cmp.Lexicographic.{pointwise}
use Rattle.std.specs.Str.{bytes_eq}
use Rattle.line_file.specs.Formats.{Format}
use Rattle.line_file.specs.Formats as files
use Rattle.braid_word.specs.Words.{Letter, inverse, first_negative}
use Rattle.braid_word.specs.declared.TheConstants.{MAX_LETTERS}
use Rattle.word_reverse.specs.Corners.{begins_with_corner, turned_at}
use Rattle.word_reverse.specs.Fractions.{positive_front}
use Rattle.wb_base.specs.Fields.{keyword_of, behind_keyword}
use Rattle.word_reverse.specs.ReverseLines.{word_behind, place_behind}
use Rattle.word_reverse.specs.Accepted.{Claim}
use Rattle.word_reverse.specs.States.{Replay, State}
use Rattle.word_reverse.specs.States as due
use Rattle.word_reverse.specs.declared.TheConstants.{MAX_LINE}
use Rattle.word_reverse.specs.declared.fraction.ReverseWhy.{ReverseWhy}
use Rattle.word_reverse.specs.declared.fraction.ReverseWhy.TheVariants.{Form, Header, Step, Long, Fraction, Truncated, Extra}

-- ---- Tests ----

-- Whether two letters, and two words, are one.
abbrev pub letter_eq : Letter → Letter → Bool
letter_eq x y = (x.index == y.index) && beq x.negative y.negative

abbrev pub word_eq : List Letter → List Letter → Bool
word_eq = pointwise letter_eq

-- Whether a line begins with this keyword.
abbrev pub has_keyword : List ℕ → List ℕ → Bool
has_keyword line keyword = bytes_eq (keyword_of line) keyword

-- Whether a word is u v^-1 as it stands, with v positive.
abbrev pub is_split : List Letter → List Letter → List Letter → Bool
is_split w u v = not (is_some (first_negative v)) && word_eq w (u ++ inverse v)

-- ---- Steps ----

-- A word that is come to, where it isn't too long.
abbrev pub stepped_to : List Letter → Result (List Letter) ReverseWhy
stepped_to w = if nat_lt MAX_LETTERS (length w) then Err Long else Ok w

-- The word that the step at a place, counted from 1, leads to.
abbrev pub stepped : List Letter → ℕ → Result (List Letter) ReverseWhy
stepped w p =
    if begins_with_corner (drop (p - 1) w) then stepped_to (turned_at w (p - 1)) else Err Step

-- ---- One line ----

-- The first line.
abbrev pub kept_start : Bool → Result State ReverseWhy
kept_start true = Ok due.word
kept_start false = Err Header

-- The word, with which the steps begin.
abbrev pub kept_word : Result (List Letter) ReverseWhy → Result State ReverseWhy
kept_word (Ok w) = Ok (due.step (record { word = w; present = w }))
kept_word (Err why) = Err why

-- A step.
abbrev pub moved : Replay → Result (List Letter) ReverseWhy → Result State ReverseWhy
moved replay (Ok w) = Ok (due.step (record replay { present = w }))
moved replay (Err why) = Err why

abbrev pub kept_step : Replay → Option ℕ → Result State ReverseWhy
kept_step replay None = Err Form
kept_step replay (Some p) = moved replay (stepped replay.present p)

-- The left word: the longest positive word that the present word begins with.
abbrev pub kept_left : Replay → Result (List Letter) ReverseWhy → Result State ReverseWhy
kept_left replay (Ok u) =
    if word_eq u (positive_front replay.present) then Ok (due.right replay u) else Err Fraction
kept_left replay (Err why) = Err why

-- The right word, with which the present word is the fraction.
abbrev pub kept_right : Replay → List Letter → Result (List Letter) ReverseWhy → Result State ReverseWhy
kept_right replay u (Ok v) =
    if is_split replay.present u v
    then Ok (due.finish (record { word = replay.word; left = u; right = v }))
    else Err Fraction
kept_right replay u (Err why) = Err why

-- The last line.
abbrev pub kept_finish : Claim → Bool → Result State ReverseWhy
kept_finish claim true = Ok (due.passed claim)
kept_finish claim false = Err Form

-- A line with the due keyword is looked at; any other has this cause.
abbrev pub of_keyword : Bool → ReverseWhy → Result State ReverseWhy → Result State ReverseWhy
of_keyword true why kept = kept
of_keyword false why kept = Err why

-- What is due after a line that isn't too long.
abbrev pub kept_short : State → List ℕ → Result State ReverseWhy
kept_short due.start line = kept_start (bytes_eq line (codes "reverse-trace 1"))
kept_short due.word line =
    of_keyword (has_keyword line (codes "word")) Header (kept_word (word_behind (behind_keyword line)))
kept_short (due.step replay) line =
    if has_keyword line (codes "r")
    then kept_step replay (place_behind (behind_keyword line))
    else of_keyword (has_keyword line (codes "left")) Form
    (kept_left replay (word_behind (behind_keyword line)))
kept_short (due.right replay u) line =
    of_keyword (has_keyword line (codes "right")) Form
    (kept_right replay u (word_behind (behind_keyword line)))
kept_short (due.finish claim) line = kept_finish claim (bytes_eq line (codes "end"))
kept_short (due.passed claim) line = Err Extra

-- ---- All lines ----

-- What a file claims whose last line was passed.
abbrev pub claim_passed : State → Option Claim
claim_passed (due.passed claim) = Some claim
claim_passed now = None

-- Reverse files, as files of lines.
abbrev pub reverse_file : Format State ReverseWhy Claim
reverse_file = record {
  start = due.start;
  kept = kept_short;
  passed = claim_passed;
  most = MAX_LINE;
  extra = Extra;
  long = Long;
  truncated = Truncated;
}

-- What a file claims, or its first refusal. Its lines count from 1.
abbrev pub checked_of : List ℕ → Result Claim (ℕ × ReverseWhy)
checked_of bytes = files.checked_of reverse_file bytes
