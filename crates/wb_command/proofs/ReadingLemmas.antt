-- What the functions that read the words of an input answer.
--
-- What the first lines of an input are decides what its words are, or its fault (`one_word-first`,
-- `two_words_of-first` and their kin).
use Rattle.std.proofs.Common.{◌≡◌, ℕ, false, true, List, [], ◌∷◌, Result, Ok, Err, refl, ap, sym, subst, ◌∙◌}
use Rattle.std.specs.Result.{IsErrAnd}
use Rattle.wb_base.specs.Memory.{FailsAs}
use Rattle.wb_base.specs.Lines.{lines_of}
use Rattle.braid_word.specs.Words.{Letter}
use Rattle.wb_command.specs.declared.fault.Fault.{Fault}
use Rattle.wb_command.specs.declared.fault.Fault.TheVariants.{Lines}
use Rattle.wb_command.specs.declared.input.InputErr.{InputErr}
use Rattle.wb_command.specs.declared.input.InputErr.TheVariants as input_errors
use Rattle.wb_command.specs.Inputs.{word_on, line_word, only_word, one_word_of, one_word, second_word, first_word, two_words_of, two_words, two_positive_words}
use Rattle.wb_command.specs.Reading.{fault_in, Reads}

-- ---- Faults ----

-- what goes on with a fault has it
Reads-failed
    : {X : Type 0} (result : Result X InputErr) (e : InputErr) (words : Result X Fault)
    → IsErrAnd result (λ g. g ≡ e)
    → FailsAs (fault_in e) words
    → Reads result words
Reads-failed (Ok x) e words goes fails = absurd goes
Reads-failed (Err g) e words goes fails = subst (λ g. FailsAs (fault_in g) words) (sym goes) fails

-- ---- One word ----

-- The lines of an input.
module _ (strands : ℕ) (input : List ℕ) (all : List (List ℕ)) (are : all ≡ lines_of input) where
  -- no line
  pub one_word-none : all ≡ [] → one_word strands input ≡ Err (Lines 1)
  unfolding one_word
  one_word-none none = ap (one_word_of strands) (sym are ∙ none)

  -- what the first line gives
  pub one_word-first
      : (a : List ℕ) (rest : List (List ℕ))
      → all ≡ a ∷ rest
      → one_word strands input ≡ only_word rest (word_on strands 1 a)
  unfolding one_word
  one_word-first a rest first = ap (one_word_of strands) (sym are ∙ first)

-- a first word that isn't read
Fails-only_word
    : (e : InputErr) (rest : List (List ℕ)) (read : Result (List Letter) Fault)
    → FailsAs (fault_in e) read
    → FailsAs (fault_in e) (only_word rest read)
Fails-only_word input_errors.Memory rest read fails = tt
Fails-only_word (input_errors.Fault fault) rest read fails = ap (only_word rest) fails

pub one_word-failed
    : (strands : ℕ) (input : List ℕ) (all rest : List (List ℕ)) (a : List ℕ) (e : InputErr)
    (result : Result (List Letter) InputErr)
    → all ≡ lines_of input
    → all ≡ a ∷ rest
    → FailsAs (fault_in e) (word_on strands 1 a)
    → IsErrAnd result (λ g. g ≡ e)
    → Reads result (one_word strands input)
one_word-failed strands input all rest a e result are first fails goes =
    let whole = one_word-first strands input all are a rest first in
    Reads-failed result e (one_word strands input) goes
    (subst (FailsAs (fault_in e)) (sym whole) (Fails-only_word e rest (word_on strands 1 a) fails))

-- one that is, with no line left
pub only_word-Ok
    : (rest : List (List ℕ)) (read : Result (List Letter) Fault) (w : List Letter)
    → read ≡ Ok w
    → rest ≡ []
    → only_word rest read ≡ Ok w
only_word-Ok rest read w is none = rw (is, none) refl

-- or with more
pub only_word-more
    : (rest more : List (List ℕ)) (b : List ℕ) (read : Result (List Letter) Fault) (w : List Letter)
    → read ≡ Ok w
    → rest ≡ b ∷ more
    → only_word rest read ≡ Err (Lines 2)
only_word-more rest more b read w is some = rw (is, some) refl

-- ---- Two words ----

-- a first word that isn't read
Fails-first_word
    : (e : InputErr) (read : ℕ → List ℕ → Result (List Letter) Fault) (rest : List (List ℕ))
    (first : Result (List Letter) Fault)
    → FailsAs (fault_in e) first
    → FailsAs (fault_in e) (first_word read rest first)
Fails-first_word input_errors.Memory read rest first fails = tt
Fails-first_word (input_errors.Fault fault) read [] first fails = ap (first_word read []) fails
Fails-first_word (input_errors.Fault fault) read (a ∷ rest) first fails =
    ap (first_word read (a ∷ rest)) fails

-- a second word that isn't read
Fails-second_word
    : (e : InputErr) (u : List Letter) (rest : List (List ℕ)) (second : Result (List Letter) Fault)
    → FailsAs (fault_in e) second
    → FailsAs (fault_in e) (second_word u rest second)
Fails-second_word input_errors.Memory u rest second fails = tt
Fails-second_word (input_errors.Fault fault) u rest second fails = ap (second_word u rest) fails

-- The lines of an input, and how they are read.
module _ (read : ℕ → List ℕ → Result (List Letter) Fault) (all lines : List (List ℕ)) (are : all ≡ lines)
  where
    -- no line
    pub two_words_of-none : all ≡ [] → two_words_of read lines ≡ Err (Lines 1)
    two_words_of-none none = ap (two_words_of read) (sym are ∙ none)

    -- what the first line gives
    pub two_words_of-first
        : (a : List ℕ) (rest : List (List ℕ))
        → all ≡ a ∷ rest
        → two_words_of read lines ≡ first_word read rest (read 1 a)
    two_words_of-first a rest first = ap (two_words_of read) (sym are ∙ first)

    pub two_words_of-failed
        : (a : List ℕ) (rest : List (List ℕ)) (e : InputErr)
        (result : Result (List Letter × List Letter) InputErr)
        → all ≡ a ∷ rest
        → FailsAs (fault_in e) (read 1 a)
        → IsErrAnd result (λ g. g ≡ e)
        → Reads result (two_words_of read lines)
    two_words_of-failed a rest e result first fails goes =
        Reads-failed result e (two_words_of read lines) goes
        (subst (FailsAs (fault_in e)) (sym (two_words_of-first a rest first))
        (Fails-first_word e read rest (read 1 a) fails))

-- a first word that is read, with no line left
pub first_word-none
    : (read : ℕ → List ℕ → Result (List Letter) Fault) (rest : List (List ℕ))
    (first : Result (List Letter) Fault) (u : List Letter)
    → first ≡ Ok u
    → rest ≡ []
    → first_word read rest first ≡ Err (Lines 2)
first_word-none read rest first u is none = rw (is, none) refl

-- or with more
pub first_word-more
    : (read : ℕ → List ℕ → Result (List Letter) Fault) (rest more : List (List ℕ)) (b : List ℕ)
    (first : Result (List Letter) Fault) (u : List Letter)
    → first ≡ Ok u
    → rest ≡ b ∷ more
    → first_word read rest first ≡ second_word u more (read 2 b)
first_word-more read rest more b first u is some = rw (is, some) refl

-- a second word that is read, with no line left
pub second_word-Ok
    : (u : List Letter) (rest : List (List ℕ)) (second : Result (List Letter) Fault) (v : List Letter)
    → second ≡ Ok v
    → rest ≡ []
    → second_word u rest second ≡ Ok (u, v)
second_word-Ok u rest second v is none = rw (is, none) refl

-- or with more
pub second_word-more
    : (u : List Letter) (rest more : List (List ℕ)) (c : List ℕ) (second : Result (List Letter) Fault)
    (v : List Letter)
    → second ≡ Ok v
    → rest ≡ c ∷ more
    → second_word u rest second ≡ Err (Lines 3)
second_word-more u rest more c second v is some = rw (is, some) refl

-- a second word that isn't read
pub two_words_of-failed_second
    : (read : ℕ → List ℕ → Result (List Letter) Fault) (all lines rest more : List (List ℕ)) (a b : List ℕ)
    (u : List Letter) (e : InputErr) (result : Result (List Letter × List Letter) InputErr)
    → all ≡ lines
    → all ≡ a ∷ rest
    → rest ≡ b ∷ more
    → read 1 a ≡ Ok u
    → FailsAs (fault_in e) (read 2 b)
    → IsErrAnd result (λ g. g ≡ e)
    → Reads result (two_words_of read lines)
two_words_of-failed_second read all lines rest more a b u e result are first next is fails goes =
    let whole = two_words_of-first read all lines are a rest first in
    let then = first_word-more read rest more b (read 1 a) u is next in
    Reads-failed result e (two_words_of read lines) goes
    (subst (FailsAs (fault_in e)) (sym (whole ∙ then)) (Fails-second_word e u more (read 2 b) fails))

-- ---- Which words are asked for ----

-- words of any letters
pub Reads-two_words
    : (strands : ℕ) (input : List ℕ) (result : Result (List Letter × List Letter) InputErr)
    → Reads result (two_words_of (line_word false strands) (lines_of input))
    → Reads result (two_words strands input)
unfolding two_words
Reads-two_words strands input result reads = reads

-- positive words
pub Reads-two_positive_words
    : (strands : ℕ) (input : List ℕ) (result : Result (List Letter × List Letter) InputErr)
    → Reads result (two_words_of (line_word true strands) (lines_of input))
    → Reads result (two_positive_words strands input)
unfolding two_positive_words
Reads-two_positive_words strands input result reads = reads
