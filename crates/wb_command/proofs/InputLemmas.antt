-- Laws of the words of an input.
--
-- Words that are read on so many strands are on them, and can be read again (`two_words-IsReadOn`), also on
-- more strands (`two_words-more_strands`); positive words are positive (`two_positive_words-IsReadPositive`).
use Rattle.std.proofs.Common.{◌≡◌, ℕ, ◌+◌, ◌<◌, ◌≤◌, Bool, true, false, length, arith, List, [], ◌∷◌, Option, Some, None, Result, Ok, Err, refl, ap, subst}
use Rattle.std.specs.List.{position_or_len}
use Rattle.wb_base.specs.Lines.{lines_of}
use Rattle.wb_base.proofs.PartLemmas.{position-None}
use Rattle.braid_word.specs.Words.{Letter, IsOn, IsPositiveWord, first_outside, first_negative}
use Rattle.braid_word.specs.Notation.{word_of, IsReadable}
use Rattle.braid_word.specs.declared.reader.WordErr.{WordErr}
use Rattle.braid_word.specs.declared.TheConstants.{MAX_INDEX}
use Rattle.braid_word.proofs.WordLemmas.{each_weaker, first_outside-on, on-first_outside}
use Rattle.braid_word.proofs.ReadWordLemmas.{IsReadable-word_of}
use Rattle.wb_command.specs.declared.fault.Fault.{Fault}
use Rattle.wb_command.specs.Inputs.{unless_outside, word_by, word_on, unless_negative, positive_by, positive_word_on, line_word, only_word, one_word_of, one_word, second_word, first_word, two_words_of, two_words, two_positive_words}

-- ---- Words on so many strands ----

-- What a word is that was read on so many strands.
pub record IsReadOn (strands : ℕ) (w : List Letter) : Type 0 where
  pub readable : IsReadable w
  pub on : IsOn strands w

-- such a word of a line
word_by-Ok
    : (strands k : ℕ) (read : Result (List Letter) WordErr) (w : List Letter)
    → word_by strands k read ≡ Ok w
    → (read ≡ Ok w) × (first_outside strands w ≡ None)
word_by-Ok strands k (Ok v) w is = go (first_outside strands v) refl is
  where
    go
        : (o : Option ℕ)
        → first_outside strands v ≡ o
        → unless_outside k v o ≡ Ok w
        → (◌≡◌ {A = Result (List Letter) WordErr} (Ok v) (Ok w)) × (first_outside strands w ≡ None)
    go None none is =
        let same : v ≡ w = cc in
        (ap (λ z. Ok z) same, subst (λ z. first_outside strands z ≡ None) same none)
    go (Some place) found is = absurd (cc)
word_by-Ok strands k (Err e) w is = absurd (cc)

word_on-IsReadOn
    : (strands k : ℕ) (text : List ℕ) (w : List Letter)
    → word_on strands k text ≡ Ok w
    → IsReadOn strands w
word_on-IsReadOn strands k text w is =
    let (read, none) = word_by-Ok strands k (word_of text) w is in
    let readable = IsReadable-word_of text w read in
    record {
      readable = readable;
      on = on-first_outside strands (MAX_INDEX + 1) w readable.on none;
    }

-- a word that is read on some strands is read on more
word_on-more
    : (strands more k : ℕ) (text : List ℕ) (w : List Letter)
    → strands ≤ more
    → word_on strands k text ≡ Ok w
    → word_on more k text ≡ Ok w
word_on-more strands more k text w few is =
    let (read, none) = word_by-Ok strands k (word_of text) w is in
    let on = each_weaker (λ x. (1 ≤ x.index) × (x.index < strands)) (λ x. (1 ≤ x.index) × (x.index < more))
    (λ x low. (low.0, let below = low.1 in omega (arith, below))) w
    (word_on-IsReadOn strands k text w is).on in
    rw (read, first_outside-on more w on) refl

-- ---- Positive words on so many strands ----

-- What a word is that was read as a positive one.
pub record IsReadPositive (strands : ℕ) (w : List Letter) : Type 0 where
  pub word : IsReadOn strands w
  pub positive : IsPositiveWord w

-- where no place is that of an inverse letter, the word is positive
positive-position
    : (w : List Letter)
    → length w ≤ position_or_len (λ (x : Letter). x.negative) w
    → IsPositiveWord w
positive-position [] past = tt
positive-position (x ∷ w) past = go x.negative refl (positive-position w)
  where
    go
        : (negative : Bool)
        → x.negative ≡ negative
        → (length w ≤ position_or_len (λ (x : Letter). x.negative) w → IsPositiveWord w)
        → IsPositiveWord (x ∷ w)
    go false sign rest = (sign, rest (let more = rw sign at past in omega arith))
    go true sign rest = absurd (let more = rw sign at past in omega arith)

-- so it is, where there is no first one
positive-first_negative : (w : List Letter) → first_negative w ≡ None → IsPositiveWord w
positive-first_negative w none =
    positive-position w (position-None (λ (x : Letter). x.negative) w none)

-- such a word of a line
positive_by-Ok
    : (k : ℕ) (read : Result (List Letter) Fault) (w : List Letter)
    → positive_by k read ≡ Ok w
    → (read ≡ Ok w) × (first_negative w ≡ None)
positive_by-Ok k (Ok v) w is = go (first_negative v) refl is
  where
    go
        : (o : Option ℕ)
        → first_negative v ≡ o
        → unless_negative k v o ≡ Ok w
        → (◌≡◌ {A = Result (List Letter) Fault} (Ok v) (Ok w)) × (first_negative w ≡ None)
    go None none is =
        let same : v ≡ w = cc in
        (ap (λ z. Ok z) same, subst (λ z. first_negative z ≡ None) same none)
    go (Some place) found is = absurd (cc)
positive_by-Ok k (Err fault) w is = absurd (cc)

positive_word_on-IsReadPositive
    : (strands k : ℕ) (text : List ℕ) (w : List Letter)
    → positive_word_on strands k text ≡ Ok w
    → IsReadPositive strands w
positive_word_on-IsReadPositive strands k text w is =
    let (read, none) = positive_by-Ok k (word_on strands k text) w is in
    record {
      word = word_on-IsReadOn strands k text w read;
      positive = positive-first_negative w none;
    }

-- ---- The words of an input ----

-- What each word of a line is, the words of an input are, for any property of words and any reading of lines.
module _ (P : List Letter → Type 0) (read : ℕ → List ℕ → Result (List Letter) Fault)
    (each : (k : ℕ) (text : List ℕ) (w : List Letter) → read k text ≡ Ok w → P w) where
  -- two words, the second after the first
  second_word-each
      : (s : List Letter) (rest : List (List ℕ)) (second : Result (List Letter) Fault) (u v : List Letter)
      → ((w : List Letter) → second ≡ Ok w → P w)
      → P s
      → second_word s rest second ≡ Ok (u, v)
      → P u × P v
  second_word-each s [] (Ok t) u v holds first is =
      let both : (s, t) ≡ (u, v) = cc in
      subst (λ (r : List Letter × List Letter). P r.0 × P r.1) both (first, holds t refl)
  second_word-each s (text ∷ rest) (Ok t) u v holds first is = absurd (cc)
  second_word-each s rest (Err fault) u v holds first is = absurd (cc)

  first_word-each
      : (rest : List (List ℕ)) (first : Result (List Letter) Fault) (u v : List Letter)
      → ((w : List Letter) → first ≡ Ok w → P w)
      → first_word read rest first ≡ Ok (u, v)
      → P u × P v
  first_word-each [] (Ok s) u v holds is = absurd (cc)
  first_word-each (text ∷ rest) (Ok s) u v holds is =
      second_word-each s rest (read 2 text) u v (each 2 text) (holds s refl) is
  first_word-each [] (Err fault) u v holds is = absurd (cc)
  first_word-each (text ∷ rest) (Err fault) u v holds is = absurd (cc)

  two_words_of-each
      : (all : List (List ℕ)) (u v : List Letter)
      → two_words_of read all ≡ Ok (u, v)
      → P u × P v
  two_words_of-each [] u v is = absurd (cc)
  two_words_of-each (text ∷ rest) u v is = first_word-each rest (read 1 text) u v (each 1 text) is

-- the word of an input
only_word-IsReadOn
    : (strands : ℕ) (rest : List (List ℕ)) (read : Result (List Letter) Fault) (w : List Letter)
    → ((v : List Letter) → read ≡ Ok v → IsReadOn strands v)
    → only_word rest read ≡ Ok w
    → IsReadOn strands w
only_word-IsReadOn strands [] (Ok v) w first is =
    let same : v ≡ w = cc in subst (IsReadOn strands) same (first v refl)
only_word-IsReadOn strands (text ∷ rest) (Ok v) w first is = absurd (cc)
only_word-IsReadOn strands rest (Err fault) w first is = absurd (cc)

pub one_word-IsReadOn
    : (strands : ℕ) (input : List ℕ) (w : List Letter)
    → one_word strands input ≡ Ok w
    → IsReadOn strands w
unfolding one_word
one_word-IsReadOn strands input w is = go (lines_of input) is
  where
    go : (all : List (List ℕ)) → one_word_of strands all ≡ Ok w → IsReadOn strands w
    go [] is = absurd (cc)
    go (text ∷ rest) is =
        only_word-IsReadOn strands rest (word_on strands 1 text) w (word_on-IsReadOn strands 1 text) is

-- the words of an input
pub two_words-IsReadOn
    : (strands : ℕ) (input : List ℕ) (u v : List Letter)
    → two_words strands input ≡ Ok (u, v)
    → IsReadOn strands u × IsReadOn strands v
unfolding two_words
two_words-IsReadOn strands input u v is =
    two_words_of-each (IsReadOn strands) (line_word false strands) (word_on-IsReadOn strands) (lines_of input)
    u v is

-- positive ones
pub two_positive_words-IsReadPositive
    : (strands : ℕ) (input : List ℕ) (u v : List Letter)
    → two_positive_words strands input ≡ Ok (u, v)
    → IsReadPositive strands u × IsReadPositive strands v
unfolding two_positive_words
two_positive_words-IsReadPositive strands input u v is =
    two_words_of-each (IsReadPositive strands) (line_word true strands)
    (positive_word_on-IsReadPositive strands) (lines_of input) u v is

-- words that are read on some strands are read on more
second_word-more_strands
    : (s : List Letter) (rest : List (List ℕ)) (read again : Result (List Letter) Fault)
    (u v : List Letter)
    → ((w : List Letter) → read ≡ Ok w → again ≡ Ok w)
    → second_word s rest read ≡ Ok (u, v)
    → second_word s rest again ≡ Ok (u, v)
second_word-more_strands s rest (Ok t) again u v wide is = rw (wide t refl) is
second_word-more_strands s rest (Err fault) again u v wide is = absurd (cc)

first_word-more_strands
    : (strands more : ℕ) (rest : List (List ℕ)) (read again : Result (List Letter) Fault)
    (u v : List Letter)
    → strands ≤ more
    → ((w : List Letter) → read ≡ Ok w → again ≡ Ok w)
    → first_word (line_word false strands) rest read ≡ Ok (u, v)
    → first_word (line_word false more) rest again ≡ Ok (u, v)
first_word-more_strands strands more [] (Ok s) again u v few wide is = absurd (cc)
first_word-more_strands strands more (text ∷ rest) (Ok s) again u v few wide is =
    rw (wide s refl)
    (second_word-more_strands s rest (word_on strands 2 text) (word_on more 2 text) u v
    (λ w. word_on-more strands more 2 text w few) is)
first_word-more_strands strands more [] (Err fault) again u v few wide is = absurd (cc)
first_word-more_strands strands more (text ∷ rest) (Err fault) again u v few wide is = absurd (cc)

pub two_words-more_strands
    : (strands more : ℕ) (input : List ℕ) (u v : List Letter)
    → strands ≤ more
    → two_words strands input ≡ Ok (u, v)
    → two_words more input ≡ Ok (u, v)
unfolding two_words
two_words-more_strands strands more input u v few is = go (lines_of input) is
  where
    go
        : (all : List (List ℕ))
        → two_words_of (line_word false strands) all ≡ Ok (u, v)
        → two_words_of (line_word false more) all ≡ Ok (u, v)
    go [] is = absurd (cc)
    go (text ∷ rest) is =
        first_word-more_strands strands more rest (word_on strands 1 text) (word_on more 1 text) u v few
        (λ w. word_on-more strands more 1 text w few) is
