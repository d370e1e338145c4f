-- Laws of a term behind its keyword.
--
-- What is read there is a space and the strict text of a term that isn't too large (`field_term-is`), and the
-- strict text of such a term is read (`field_term-strict_text`).
use Rattle.std.proofs.Common.{◌≡◌, inl, inr, ℕ, ◌+◌, ◌-◌, ◌<◌, ◌≤◌, ◌||◌, Bool, true, false, cond, ltb, List, [], ◌∷◌, length, take, drop, Option, Some, None, Ok, Err, refl, sym, ap, ap₂, ◌∙◌, subst, arith}
use Rattle.std.proofs.lemmas.Bool.{cases_lt, le-ltb, lt-ltb, ltb-false}
use Rattle.std.proofs.lemmas.List.{take_all}
use Rattle.std.proofs.lemmas.List.Elements.{All-nil, All-cons, All-append}
use Rattle.braid_word.specs.declared.TheConstants.{MAX_INDEX}
use Rattle.wb_base.proofs.PartLemmas.{Ok-injective}
use Rattle.braid_word.proofs.SpellingLemmas.{AllAbove}
use Rattle.ld_term.specs.Terms.{Term, variable, multiply, height, leaf_count}
use Rattle.ld_term.specs.Written.{Written, written_height, written_products}
use Rattle.ld_term.specs.StrictTexts.{as_written, as_term, strict_text, strict_term_of}
use Rattle.ld_term.specs.Refusals.{IsSmall}
use Rattle.ld_term.specs.declared.TheConstants.{MAX_PRODUCTS}
use Rattle.ld_term.proofs.StrictLemmas.{as_term-as_written, written_height-as_written, written_products-as_written}
use Rattle.ld_term.proofs.StrictReadingLemmas.{strict_term_of-is, strict_term_of-strict_text}
use Rattle.trace_format.specs.TraceLines.{IsShortTerm, short_term, field_term}
use Rattle.trace_format.specs.declared.line.LineErr.TheVariants.{Long}
use Rattle.wb_base.specs.Fields.{IsBehind}

-- a term that isn't too large is read
pub short_term-small : (t : Term) → IsShortTerm t → short_term (Some t) ≡ Ok t
short_term-small t small =
    rw (le-ltb MAX_INDEX (height t) small.low, le-ltb (MAX_PRODUCTS + 1) (leaf_count t) small.few) refl

-- What is read of a term isn't too large.
record IsRead (found : Option Term) (t : Term) : Type 0 where
  is : found ≡ Some t
  small : IsShortTerm t

-- what is read isn't too large
short_term-Ok : (found : Option Term) (t : Term) → short_term found ≡ Ok t → IsRead found t
short_term-Ok None t read = absurd (cc)
short_term-Ok (Some u) t read =
    go (ltb MAX_INDEX (height u)) (ltb (MAX_PRODUCTS + 1) (leaf_count u)) refl refl read
  where
    go
        : (high many : Bool)
        → ltb MAX_INDEX (height u) ≡ high
        → ltb (MAX_PRODUCTS + 1) (leaf_count u) ≡ many
        → cond (high || many) (Err Long) (Ok u) ≡ Ok t
        → IsRead (Some u) t
    go true many low few read = absurd (cc)
    go false true low few read = absurd (cc)
    go false false low few read =
        subst (IsRead (Some u)) (Ok-injective _ _ read) (record {
          is = refl;
          small = record { low = ltb-false _ _ low; few = ltb-false _ _ few };
        })

-- What some bytes are where a term was read.
pub record IsTermField (behind : List ℕ) (t : Term) : Type 0 where
  pub text : behind ≡ 32 ∷ strict_text t
  pub small : IsShortTerm t

-- what is read behind a keyword is a space and a strict text
pub field_term-is
    : (behind : List ℕ) (t : Term)
    → IsBehind behind
    → field_term behind ≡ Ok t
    → IsTermField behind t
field_term-is [] t spaced read = absurd (cc)
field_term-is (space ∷ bytes) t spaced read =
    let found = short_term-Ok (strict_term_of bytes) t read in
    let first : space ≡ 32 = spaced in
    record {
      text = ap₂ (λ x xs. x ∷ xs) first (strict_term_of-is bytes t found.is);
      small = found.small;
    }

-- a strict text behind a space is read
pub field_term-strict_text
    : (space : ℕ) (t : Term)
    → IsShortTerm t
    → field_term (space ∷ strict_text t) ≡ Ok t
field_term-strict_text space t small =
    ap short_term (strict_term_of-strict_text t) ∙ short_term-small t small

-- no byte of a strict text is below the space
pub strict_text-above : (t : Term) → AllAbove 31 (strict_text t)
strict_text-above variable = All-cons (λ b. 31 < b) 120 [] (omega arith) (All-nil (λ b. 31 < b))
strict_text-above (multiply t u) =
    All-cons (λ b. 31 < b) 40 _ (omega arith)
    (All-append (λ b. 31 < b) (strict_text t) _ (strict_text-above t)
    (All-cons (λ b. 31 < b) 42 _ (omega arith)
    (All-append (λ b. 31 < b) (strict_text u) _ (strict_text-above u)
    (All-cons (λ b. 31 < b) 41 [] (omega arith) (All-nil (λ b. 31 < b))))))

-- ---- What a reader answers ----

-- A tree that was read is a term that is neither too high nor has too many products, but for the bound on its
-- height in a trace file.
module _
    (behind rest : List ℕ) (t : Term) (w : Written)
    (some : 1 ≤ length behind)
    (is : rest ≡ take (length behind - 1) (drop 1 behind))
    (read : strict_term_of rest ≡ Some t)
    (written_is : w ≡ as_written t)
  where
    -- what is read behind the keyword is what is made of the term
    field_term-read : field_term behind ≡ short_term (Some t)
    field_term-read = go behind some is
      where
        go
            : (bytes : List ℕ)
            → 1 ≤ length bytes
            → rest ≡ take (length bytes - 1) (drop 1 bytes)
            → field_term bytes ≡ short_term (Some t)
        go [] some is = absurd (omega arith)
        go (space ∷ bytes) some is =
            let all : take (length (space ∷ bytes) - 1) bytes ≡ bytes = take_all _ bytes (omega arith) in
            ap (λ z. short_term (strict_term_of z)) (sym (is ∙ all)) ∙ ap short_term read

    -- it is as high as it is written
    height-is : height t ≡ written_height w
    height-is = sym (ap written_height written_is ∙ written_height-as_written t)

    -- a tree that is low enough
    pub field_term-low : IsSmall w → written_height w ≤ MAX_INDEX → field_term behind ≡ Ok (as_term w)
    field_term-low small low =
        let products : written_products w + 1 ≡ leaf_count t =
        ap (λ v. written_products v + 1) written_is ∙ written_products-as_written t in
        let same : t ≡ as_term w = sym (ap as_term written_is ∙ as_term-as_written t) in
        field_term-read
        ∙ short_term-small t
        (record { low = omega (arith, height-is, low); few = omega (arith, products, small.few) })
        ∙ ap (λ u. Ok u) same

    -- one that isn't
    pub field_term-high : (written_height w ≤ MAX_INDEX → ⊥) → field_term behind ≡ Err Long
    field_term-high high = elim (cases_lt MAX_INDEX (height t)) [
      | inl above ↦ field_term-read ∙ rw (lt-ltb MAX_INDEX (height t) above) refl
      | inr low ↦ absurd (high (omega (arith, height-is, low)))
    ]
