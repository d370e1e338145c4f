-- Laws of a word behind a keyword: what is read there is written so, and what is written so is read.
use Rattle.std.proofs.Common.{◌≡◌, ℕ, ◌<◌, List, [], ◌∷◌, length, Result, Ok, Err, refl, ap, ap₂, sym, ◌∙◌, subst, arith}
use Rattle.std.specs.List.{flat_map}
use Rattle.wb_base.specs.Fields.{IsBehind}
use Rattle.wb_base.proofs.PartLemmas.{Ok-injective}
use Rattle.braid_word.specs.Words.{Letter}
use Rattle.braid_word.specs.Notation.{strict_word_of, IsReadable, next_text, word_text, field_word, word_field}
use Rattle.braid_word.proofs.NotationLemmas.{word_text-nil, word_text-cons}
use Rattle.braid_word.proofs.SpellingLemmas.{strict_word_of-is, strict_word_of-word_text, length-word_text}

-- ---- Its text ----

-- a word that isn't empty stands behind a space
pub word_field-some : (w : List Letter) → 0 < length w → word_field w ≡ 32 ∷ word_text w
word_field-some [] some = absurd (omega arith)
word_field-some (x ∷ w) some = refl

-- the empty word leaves nothing
pub word_field-none : (w : List Letter) → length w ≡ 0 → word_field w ≡ []
word_field-none [] none = refl
word_field-none (x ∷ w) none = absurd (omega arith)

-- a word behind its keyword is its letters, each behind a space
pub word_field-flat_map : (w : List Letter) → word_field w ≡ flat_map next_text w
word_field-flat_map [] = refl
word_field-flat_map (x ∷ w) = rw (word_text-cons x w) refl

-- it can stand behind a keyword
pub IsBehind-word_field : (w : List Letter) → IsBehind (word_field w)
IsBehind-word_field [] = tt
IsBehind-word_field (x ∷ w) = refl

-- ---- Reading it ----

-- a word whose spelling has a byte has a letter
length-from_word_text : (w : List Letter) → 0 < length (word_text w) → 0 < length w
length-from_word_text [] some = absurd (omega (arith, ap length word_text-nil))
length-from_word_text (x ∷ w) some = omega arith

-- What some bytes behind a keyword are where a word was read.
pub record IsField (behind : List ℕ) (w : List Letter) : Type 0 where
  pub text : behind ≡ word_field w
  pub readable : IsReadable w

-- a word that is read behind a keyword stands so there
pub field_word-is
    : (behind : List ℕ) (w : List Letter)
    → IsBehind behind
    → field_word behind ≡ Ok w
    → IsField behind w
field_word-is [] w spaced read =
    subst (IsField []) (Ok-injective _ _ read) (record {
      text = refl;
      readable = record { short = omega arith; on = tt };
    })
field_word-is (space ∷ []) w spaced read = absurd (cc)
field_word-is (space ∷ (byte ∷ bytes)) w spaced read =
    let word = strict_word_of-is (byte ∷ bytes) w read in
    let some : 0 < length (word_text w) = omega (arith, ap length word.text) in
    record {
      text = ap₂ (λ (b : ℕ) text. b ∷ text) spaced word.text
          ∙ sym (word_field-some w (length-from_word_text w some));
      readable = word.readable;
    }

-- a space and a byte are followed by a word
field_word-some
    : (bytes : List ℕ)
    → 0 < length bytes
    → field_word (32 ∷ bytes) ≡ strict_word_of bytes
field_word-some [] some = absurd (omega arith)
field_word-some (byte ∷ bytes) some = refl

-- a word that can be read is read behind a keyword
pub field_word-word_field : (w : List Letter) → IsReadable w → field_word (word_field w) ≡ Ok w
field_word-word_field [] readable = refl
field_word-word_field (x ∷ w) readable =
    field_word-some (word_text (x ∷ w)) (length-word_text x w readable.on)
    ∙ strict_word_of-word_text (x ∷ w) readable
