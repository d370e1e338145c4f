-- Laws of the fields of a line: keywords, and the words and places behind them.
--
-- What is read is spelled so (`has_keyword-is`, `word_behind-is`, `place_behind-is`), and what is spelled so
-- is read (`has_keyword-append`, `word_behind-word_field`, `place_behind-decimal`).
use Rattle.std.proofs.Common.{◌≡◌, ℕ, true, List, [], ◌∷◌, ◌++◌, decimal, append-nil, Option, Some, None, Result, Ok, Err, refl, ap, sym, ◌∙◌, subst, arith}
use Rattle.std.specs.Str.{bytes_eq}
use Rattle.std.proofs.lemmas.Slice.Eq.{bytes_eq-Decides}
use Rattle.wb_base.specs.Fields.{keyword_of, behind_keyword, IsBehind, place_at, IsPlace}
use Rattle.wb_base.proofs.FieldLemmas.{no_space, append-behind_keyword, keyword_of-append, place_at-is, place_at-decimal}
use Rattle.wb_base.proofs.PartLemmas.{Ok-injective, Some-injective}
use Rattle.braid_word.specs.Words.{Letter}
use Rattle.braid_word.specs.Notation.{IsReadable, field_word, word_field}
use Rattle.braid_word.specs.declared.reader.WordErr.{WordErr}
use Rattle.braid_word.specs.declared.reader.WordErr.TheVariants as word_errors
use Rattle.braid_word.proofs.SpellingLemmas.{strict_word_of-is}
use Rattle.braid_word.proofs.FieldLemmas.{IsField, field_word-is, field_word-word_field}
use Rattle.word_reverse.specs.ReverseLines.{strict_result, word_behind, only_place, place_behind}
use Rattle.word_reverse.specs.Checking.{has_keyword}

-- ---- Keywords ----

-- a line with a keyword is that, and what stands behind it
pub has_keyword-is
    : (line keyword : List ℕ)
    → has_keyword line keyword ≡ true
    → line ≡ keyword ++ behind_keyword line
has_keyword-is line keyword test =
    sym (append-behind_keyword line)
    ∙ ap (λ word. word ++ behind_keyword line) ((bytes_eq-Decides (keyword_of line) keyword).0 test)

-- a line that begins with a keyword has another only where the two are one
pub has_keyword-append
    : (word rest other : List ℕ)
    → no_space word ≡ true
    → IsBehind rest
    → has_keyword (word ++ rest) other ≡ bytes_eq word other
has_keyword-append word rest other none behind =
    ap (λ (keyword : List ℕ). bytes_eq keyword other) (keyword_of-append word rest none behind)

-- ---- Words ----

-- a word whose reading is no fault was read
strict_result-is
    : (r : Result (List Letter) WordErr) (w : List Letter)
    → strict_result r ≡ Ok w
    → r ≡ Ok w
strict_result-is (Ok v) w is = ap Ok (Ok-injective v w is)
strict_result-is (Err (word_errors.TooLong count)) w is = absurd (cc)
strict_result-is (Err (word_errors.BadLetter place)) w is = absurd (cc)
strict_result-is (Err (word_errors.BadIndex place)) w is = absurd (cc)
strict_result-is (Err word_errors.Memory) w is = absurd (cc)

-- a word that is read behind a keyword stands so there
pub word_behind-is
    : (behind : List ℕ) (w : List Letter)
    → IsBehind behind
    → word_behind behind ≡ Ok w
    → IsField behind w
word_behind-is behind w spaced read = field_word-is behind w spaced (strict_result-is _ w read)

-- it can be read
pub IsReadable-field_word : (behind : List ℕ) (w : List Letter) → field_word behind ≡ Ok w → IsReadable w
IsReadable-field_word [] w read =
    subst IsReadable (Ok-injective _ _ read) (record { short = omega arith; on = tt })
IsReadable-field_word (space ∷ []) w read = absurd (cc)
IsReadable-field_word (space ∷ (byte ∷ bytes)) w read =
    (strict_word_of-is (byte ∷ bytes) w read).readable

-- a word that can be read is read behind a keyword
pub word_behind-word_field : (w : List Letter) → IsReadable w → word_behind (word_field w) ≡ Ok w
word_behind-word_field w readable = ap strict_result (field_word-word_field w readable)

-- words that can be read are told by their fields
pub word_field-injective
    : (u v : List Letter)
    → IsReadable u
    → IsReadable v
    → word_field u ≡ word_field v
    → u ≡ v
word_field-injective u v first second same =
    Ok-injective u v
    (sym (field_word-word_field u first) ∙ ap field_word same ∙ field_word-word_field v second)

-- ---- Places ----

-- What some bytes behind a keyword are where a place was read.
pub record IsPlaceField (behind : List ℕ) (p : ℕ) : Type 0 where
  pub text : behind ≡ 32 ∷ decimal p
  pub place : IsPlace p

-- a place that is read behind a keyword is all that stands there
pub place_behind-is
    : (behind : List ℕ) (p : ℕ)
    → place_behind behind ≡ Some p
    → IsPlaceField behind p
place_behind-is behind p = go (place_at behind) refl
  where
    go
        : (found : Option (ℕ × List ℕ))
        → place_at behind ≡ found
        → only_place found ≡ Some p
        → IsPlaceField behind p
    go None read is = absurd (cc)
    go (Some (q, [])) read is =
        let (text, place) = place_at-is behind q [] read in
        subst (IsPlaceField behind) (Some-injective is) (record {
          text = text ∙ ap (λ digits. 32 ∷ digits) (append-nil (decimal q));
          place = place;
        })
    go (Some (q, byte ∷ rest)) read is = absurd (cc)

-- a place is read behind a keyword
pub place_behind-decimal : (p : ℕ) → IsPlace p → place_behind (32 ∷ decimal p) ≡ Some p
place_behind-decimal p place =
    ap (λ digits. place_behind (32 ∷ digits)) (sym (append-nil (decimal p)))
    ∙ ap only_place (place_at-decimal p [] place refl)

-- so places are told by their texts
pub decimal-injective : (p q : ℕ) → IsPlace p → IsPlace q → decimal p ≡ decimal q → p ≡ q
decimal-injective p q first second same =
    Some-injective
    (sym (place_behind-decimal p first) ∙ ap (λ digits. place_behind (32 ∷ digits)) same
    ∙ place_behind-decimal q second)
