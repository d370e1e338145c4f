-- Laws of the fields of a line: words, places and verdicts behind a keyword.
--
-- For each kind of field, what is read is spelled so (`field_word-is`, `only_place-is`, `two_places-is`,
-- `place_and_letter-is`, `verdict_by-is`), and what is spelled so is read.
use Rattle.std.proofs.Common.{◌≡◌, ℕ, ◌+◌, Bool, true, false, cond, List, [], ◌∷◌, ◌++◌, codes, decimal, Option, Some, None, Result, Ok, Err, refl, ap, ap₂, sym, ◌∙◌, subst, arith}
use Rattle.std.specs.Str.{bytes_eq}
use Rattle.std.proofs.lemmas.Bool.{eqb-true}
use Rattle.std.proofs.lemmas.Slice.Eq.{bytes_eq-Decides}
use Rattle.std.proofs.lemmas.List.{append-nil}
use Rattle.wb_base.proofs.FieldLemmas.{place_at-is, place_at-decimal}
use Rattle.braid_word.specs.Words.{Letter, IsOn}
use Rattle.braid_word.specs.Notation.{strict_word_of, letter_text, next_text, word_text}
use Rattle.braid_word.specs.declared.TheConstants.{MAX_INDEX}
use Rattle.braid_word.specs.declared.reader.WordErr.{WordErr}
use Rattle.braid_word.specs.declared.reader.WordErr.TheVariants as word_errors
use Rattle.wb_base.proofs.PartLemmas.{Ok-cond, Ok-injective}
use Rattle.braid_word.proofs.SpellingLemmas.{strict_word_of-is, strict_word_of-word_text}
use Rattle.trace_format.specs.declared.verdict.Verdict.{Verdict}
use Rattle.trace_format.specs.declared.verdict.Verdict.TheVariants.{Less, Equal, Greater}
use Rattle.trace_format.specs.declared.line.StepLine.{StepLine}
use Rattle.trace_format.specs.declared.line.StepLine.TheVariants.{Handle, Insert}
use Rattle.trace_format.specs.declared.line.LineErr.{LineErr}
use Rattle.trace_format.specs.declared.line.LineErr.TheVariants.{Form}
use Rattle.trace_format.specs.TraceText.{verdict_word}
use Rattle.wb_base.specs.Fields.{place_at, IsPlace}
use Rattle.trace_format.specs.TraceLines.{strict_result, made_of, only_place, two_places, letter_alone, only_letter, place_and_letter, verdict_by}

-- ---- Words ----

-- a word whose reading is no fault was read
pub strict_result-is
    : (r : Result (List Letter) WordErr) (w : List Letter)
    → strict_result r ≡ Ok w
    → r ≡ Ok w
strict_result-is (Ok v) w is = ap Ok (Ok-injective v w is)
strict_result-is (Err (word_errors.TooLong count)) w is = absurd (cc)
strict_result-is (Err (word_errors.BadLetter place)) w is = absurd (cc)
strict_result-is (Err (word_errors.BadIndex place)) w is = absurd (cc)
strict_result-is (Err word_errors.Memory) w is = absurd (cc)

-- ---- Steps ----

-- what is made of a part has a part that was read
pub made_of-Ok
    : {X Y : Type 0} (f : X → Y) (read : Result X LineErr) (y : Y)
    → made_of f read ≡ Ok y
    → (x : X) × (read ≡ Ok x) × (f x ≡ y)
made_of-Ok f (Ok x) y is = (x, refl, Ok-injective _ _ is)
made_of-Ok f (Err e) y is = absurd (cc)

-- What some bytes are where a place alone was read.
pub record IsOnlyPlace (behind : List ℕ) (p : ℕ) : Type 0 where
  pub text : behind ≡ 32 ∷ decimal p
  pub place : IsPlace p

-- a place that is read alone is all that stands there
only_place-by
    : (behind : List ℕ) (found : Option (ℕ × List ℕ)) (p : ℕ)
    → place_at behind ≡ found
    → only_place found ≡ Ok p
    → IsOnlyPlace behind p
only_place-by behind None p read is = absurd (cc)
only_place-by behind (Some (q, [])) p read is =
    let (text, place) = place_at-is behind q [] read in
    subst (IsOnlyPlace behind) (Ok-injective _ _ is) (record {
      text = text ∙ ap (λ ds. 32 ∷ ds) (append-nil (decimal q));
      place = place;
    })
only_place-by behind (Some (q, byte ∷ rest)) p read is = absurd (cc)

pub only_place-is
    : (behind : List ℕ) (p : ℕ)
    → only_place (place_at behind) ≡ Ok p
    → IsOnlyPlace behind p
only_place-is behind p = only_place-by behind (place_at behind) p refl

-- a place is read alone
pub only_place-decimal : (p : ℕ) → IsPlace p → only_place (place_at (32 ∷ decimal p)) ≡ Ok p
only_place-decimal p place = ap only_place (rw append-nil at (place_at-decimal p [] place refl))

-- What stands behind the keyword of a step.
abbrev pub places_text : ℕ → ℕ → List ℕ
places_text p q = 32 ∷ (decimal p ++ (32 ∷ decimal q))

abbrev pub insertion_text : ℕ → Letter → List ℕ
insertion_text p x = 32 ∷ (decimal p ++ next_text x)

-- What two places and what follows them were read of.
pub record ArePlaces (behind : List ℕ) (step : StepLine) : Type 0 where
  pub start : ℕ
  pub end : ℕ
  pub is : Handle start end ≡ step
  pub text : behind ≡ places_text start end
  pub first : IsPlace start
  pub last : IsPlace end

-- two places that are read stand so
two_places-by
    : (behind : List ℕ) (found : Option (ℕ × List ℕ)) (step : StepLine)
    → place_at behind ≡ found
    → two_places found ≡ Ok step
    → ArePlaces behind step
two_places-by behind None step read is = absurd (cc)
two_places-by behind (Some (p, rest)) step read is =
    let (text, place) = place_at-is behind p rest read in
    let (q, found, same) = made_of-Ok (Handle p) (only_place (place_at rest)) step is in
    let last = only_place-is rest q found in
    record {
      start = p;
      end = q;
      is = same;
      text = text ∙ ap (λ left. 32 ∷ (decimal p ++ left)) last.text;
      first = place;
      last = last.place;
    }

pub two_places-is
    : (behind : List ℕ) (step : StepLine)
    → two_places (place_at behind) ≡ Ok step
    → ArePlaces behind step
two_places-is behind step = two_places-by behind (place_at behind) step refl

-- two places are read
pub two_places-places_text
    : (p q : ℕ)
    → IsPlace p
    → IsPlace q
    → two_places (place_at (places_text p q)) ≡ Ok (Handle p q)
two_places-places_text p q first last =
    ap two_places (place_at-decimal p (32 ∷ decimal q) first refl)
    ∙ ap (made_of (Handle p)) (only_place-decimal q last)

-- a word that gives its letter has one
letter_alone-is
    : (r : Result (List Letter) WordErr) (x : Letter)
    → letter_alone r ≡ Ok x
    → r ≡ Ok (x ∷ [])
letter_alone-is (Ok []) x is = absurd (cc)
letter_alone-is (Ok (y ∷ [])) x is = ap (λ z. Ok (z ∷ [])) (Ok-injective y x is)
letter_alone-is (Ok (y ∷ (z ∷ w))) x is = absurd (cc)
letter_alone-is (Err e) x is = absurd (cc)

-- the spelling of one letter
pub word_text-one : (x : Letter) → word_text (x ∷ []) ≡ letter_text x
unfolding word_text
word_text-one x = refl

-- What some bytes are where a letter alone was read.
pub record IsOnlyLetter (behind : List ℕ) (x : Letter) : Type 0 where
  pub text : behind ≡ next_text x
  pub on : IsOn (MAX_INDEX + 1) (x ∷ [])

-- a letter that is read alone is all that stands there
only_letter-is
    : (behind : List ℕ) (x : Letter)
    → only_letter behind ≡ Ok x
    → IsOnlyLetter behind x
only_letter-is [] x read = absurd (cc)
only_letter-is (byte ∷ bytes) x read =
    let (space, alone) = Ok-cond _ _ _ _ read in
    let word = strict_word_of-is bytes (x ∷ []) (letter_alone-is _ x alone) in
    record {
      text = ap₂ (λ (b : ℕ) text. b ∷ text) (eqb-true byte 32 space) (word.text ∙ word_text-one x);
      on = word.readable.on;
    }

-- a letter is read alone
only_letter-next_text
    : (x : Letter)
    → IsOn (MAX_INDEX + 1) (x ∷ [])
    → only_letter (next_text x) ≡ Ok x
only_letter-next_text x on =
    ap (λ bytes. letter_alone (strict_word_of bytes)) (sym (word_text-one x))
    ∙ ap letter_alone (strict_word_of-word_text (x ∷ []) (record { short = omega arith; on = on }))

-- What a place and a letter were read of.
pub record IsInsertionText (behind : List ℕ) (step : StepLine) : Type 0 where
  pub place : ℕ
  pub letter : Letter
  pub is : Insert place letter ≡ step
  pub text : behind ≡ insertion_text place letter
  pub within : IsPlace place
  pub on : IsOn (MAX_INDEX + 1) (letter ∷ [])

-- a place and a letter that are read stand so
place_and_letter-by
    : (behind : List ℕ) (found : Option (ℕ × List ℕ)) (step : StepLine)
    → place_at behind ≡ found
    → place_and_letter found ≡ Ok step
    → IsInsertionText behind step
place_and_letter-by behind None step read is = absurd (cc)
place_and_letter-by behind (Some (p, rest)) step read is =
    let (text, place) = place_at-is behind p rest read in
    let (x, found, same) = made_of-Ok (Insert p) (only_letter rest) step is in
    let last = only_letter-is rest x found in
    record {
      place = p;
      letter = x;
      is = same;
      text = text ∙ ap (λ left. 32 ∷ (decimal p ++ left)) last.text;
      within = place;
      on = last.on;
    }

pub place_and_letter-is
    : (behind : List ℕ) (step : StepLine)
    → place_and_letter (place_at behind) ≡ Ok step
    → IsInsertionText behind step
place_and_letter-is behind step = place_and_letter-by behind (place_at behind) step refl

-- a place and a letter are read
pub place_and_letter-insertion_text
    : (p : ℕ) (x : Letter)
    → IsPlace p
    → IsOn (MAX_INDEX + 1) (x ∷ [])
    → place_and_letter (place_at (insertion_text p x)) ≡ Ok (Insert p x)
place_and_letter-insertion_text p x place on =
    ap place_and_letter (place_at-decimal p (next_text x) place refl)
    ∙ ap (made_of (Insert p)) (only_letter-next_text x on)

-- ---- Verdicts ----

-- what is read where some bytes are a text, or else by another test
cond-bytes_eq
    : {A E : Type 0} (P : A → Type 0) (bytes text : List ℕ) (x : A) (other : Result A E) (y : A)
    → cond (bytes_eq bytes text) (Ok x) other ≡ Ok y
    → (bytes ≡ text → P x)
    → (other ≡ Ok y → P y)
    → P y
cond-bytes_eq P bytes text x other y is same else = go (bytes_eq bytes text) refl is
  where
    go : (b : Bool) → bytes_eq bytes text ≡ b → cond b (Ok x) other ≡ Ok y → P y
    go true test read =
        subst P (Ok-injective x y read) (same ((bytes_eq-Decides bytes text).0 test))
    go false test read = else read

-- a verdict that is read stands so behind its keyword
pub verdict_by-is
    : (behind : List ℕ) (v : Verdict)
    → verdict_by behind ≡ Ok v
    → behind ≡ 32 ∷ verdict_word v
verdict_by-is behind v read =
    cond-bytes_eq stands behind (codes " less") Less _ v read (λ is. is)
    (λ more. cond-bytes_eq stands behind (codes " equal") Equal _ v more (λ is. is)
    (λ last. cond-bytes_eq stands behind (codes " greater") Greater (Err Form) v last (λ is. is)
    (λ none. absurd (cc))))
  where
    stands : Verdict → Type 0
    stands v = behind ≡ 32 ∷ verdict_word v

-- a verdict is read behind its keyword
pub verdict_by-verdict_word : (v : Verdict) → verdict_by (32 ∷ verdict_word v) ≡ Ok v
verdict_by-verdict_word Less = refl
verdict_by-verdict_word Equal = refl
verdict_by-verdict_word Greater = refl
