-- The words of a command's input, or its first fault.
--
-- Lines count from 1. The first line with a fault decides: one that is missing, that is no word, that has
-- an index which the strands don't allow, that has an inverse letter where the words are to be positive, or
-- that is one too many.
-- Source: this project's own.
--
--   word_on N k text            the word on N strands of line k, or its fault
--   positive_word_on N k text   the same of a positive word
--   line_word P N k text        one or the other, as P is false or true
--   one_word N input            the word of an input of exactly one line, or its first fault
--   two_words_of read lines     the words that `read` gives of exactly two lines, or the first fault
--   two_words N input           the words of an input of exactly two lines, or its first fault
--   two_positive_words N input  the same of positive words
use Rattle.std.specs.Prelude.{ℕ, ◌+◌, Bool, true, false, List, [], ◌∷◌, Option, Some, None, Result, Ok, Err}
use Rattle.wb_base.specs.Lines.{lines_of}
use Rattle.braid_word.specs.Words.{Letter, first_outside, first_negative}
use Rattle.braid_word.specs.Notation.{word_of}
use Rattle.braid_word.specs.declared.reader.WordErr.{WordErr}
use Rattle.braid_word.specs.declared.reader.WordErr.TheVariants as word_errors
use Rattle.wb_command.specs.declared.fault.Fault.{Fault}
use Rattle.wb_command.specs.declared.fault.Fault.TheVariants.{Lines, Letters, Index, Long, Strands, Negative}

-- ---- One line ----

-- A fault of a word, at its line. Want of memory has a line here for completeness: a definition never answers
-- it.
abbrev pub fault_of : ℕ → WordErr → Fault
fault_of k (word_errors.BadLetter place) = Letters k place
fault_of k (word_errors.BadIndex place) = Index k place
fault_of k (word_errors.TooLong count) = Long k count
fault_of k word_errors.Memory = Lines k

abbrev pub unless_outside : ℕ → List Letter → Option ℕ → Result (List Letter) Fault
unless_outside k w None = Ok w
unless_outside k w (Some place) = Err (Strands k (place + 1))

abbrev pub word_by : ℕ → ℕ → Result (List Letter) WordErr → Result (List Letter) Fault
word_by strands k (Ok w) = unless_outside k w (first_outside strands w)
word_by strands k (Err e) = Err (fault_of k e)

-- The word of a line. Its spelling comes before the strands.
abbrev pub word_on : ℕ → ℕ → List ℕ → Result (List Letter) Fault
word_on strands k text = word_by strands k (word_of text)

-- ---- One line, of a positive word ----

-- A word has a fault where it has an inverse letter: the place of the first such.
abbrev pub unless_negative : ℕ → List Letter → Option ℕ → Result (List Letter) Fault
unless_negative k w None = Ok w
unless_negative k w (Some place) = Err (Negative k (place + 1))

abbrev pub positive_by : ℕ → Result (List Letter) Fault → Result (List Letter) Fault
positive_by k (Ok w) = unless_negative k w (first_negative w)
positive_by k (Err fault) = Err fault

-- The positive word of a line. Its spelling and the strands come before inverse letters.
abbrev pub positive_word_on : ℕ → ℕ → List ℕ → Result (List Letter) Fault
positive_word_on strands k text = positive_by k (word_on strands k text)

-- The word of a line, which has to be positive where the Bool is true.
abbrev pub line_word : Bool → ℕ → ℕ → List ℕ → Result (List Letter) Fault
line_word false strands k text = word_on strands k text
line_word true strands k text = positive_word_on strands k text

-- ---- Whole inputs ----

-- No line is left; one that is, is one too many.
abbrev pub ends_with : {X : Type 0} → X → ℕ → List (List ℕ) → Result X Fault
ends_with words k [] = Ok words
ends_with words k (text ∷ rest) = Err (Lines k)

-- One word, and no more.
abbrev pub only_word : List (List ℕ) → Result (List Letter) Fault → Result (List Letter) Fault
only_word rest (Ok w) = ends_with w 2 rest
only_word rest (Err fault) = Err fault

abbrev pub one_word_of : ℕ → List (List ℕ) → Result (List Letter) Fault
one_word_of strands [] = Err (Lines 1)
one_word_of strands (text ∷ rest) = only_word rest (word_on strands 1 text)

unfoldable pub one_word : ℕ → List ℕ → Result (List Letter) Fault
one_word strands input = one_word_of strands (lines_of input)

-- A second word, and no more.
abbrev pub second_word : List Letter → List (List ℕ) → Result (List Letter) Fault
    → Result (List Letter × List Letter) Fault
second_word u rest (Ok v) = ends_with (u, v) 3 rest
second_word u rest (Err fault) = Err fault

-- A first word, and then a second, which `read` gives of a line and its text.
abbrev pub first_word : (ℕ → List ℕ → Result (List Letter) Fault) → List (List ℕ)
    → Result (List Letter) Fault → Result (List Letter × List Letter) Fault
first_word read [] (Ok u) = Err (Lines 2)
first_word read (text ∷ rest) (Ok u) = second_word u rest (read 2 text)
first_word read rest (Err fault) = Err fault

abbrev pub two_words_of : (ℕ → List ℕ → Result (List Letter) Fault) → List (List ℕ)
    → Result (List Letter × List Letter) Fault
two_words_of read [] = Err (Lines 1)
two_words_of read (text ∷ rest) = first_word read rest (read 1 text)

unfoldable pub two_words : ℕ → List ℕ → Result (List Letter × List Letter) Fault
two_words strands input = two_words_of (line_word false strands) (lines_of input)

unfoldable pub two_positive_words : ℕ → List ℕ → Result (List Letter × List Letter) Fault
two_positive_words strands input = two_words_of (line_word true strands) (lines_of input)
