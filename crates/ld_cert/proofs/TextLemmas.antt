-- Laws of the parts of a line: what stands behind a front, a number, a term, and an address.
--
-- Each part is read exactly where it is spelled so (`behind_front-is`, `behind_front-append`,
-- `exponent_in-is`, `exponent_in-decimal`, `term_behind-is`, `term_behind-strict_text`, `address_behind-is`,
-- `address_behind-append`).
use Rattle.std.proofs.Common.{◌≡◌, ℕ, ◌+◌, ◌^◌, ◌<◌, ◌≤◌, ◌==◌, ◌&&◌, ◌||◌, ◌⊎◌, Bool, true, false, not, ltb, List, [], ◌∷◌, ◌++◌, length, take, drop, decimal, Option, Some, None, Result, Ok, Err, refl, sym, ap, ap₂, ◌∙◌, subst, arith}
use Rattle.std.specs.List.{list_all}
use Rattle.std.specs.Str.{bytes_eq}
use Rattle.std.specs.Bool.{Decides}
use Rattle.std.proofs.lemmas.Bool.Decides.{Decides-or, Decides-by_and}
use Rattle.std.proofs.Math.Seq.{take-append_seam, drop-append_seam, drop-length}
use Rattle.std.proofs.lemmas.Bool.{and_parts, and_from, eq-eqb, eqb-true, ltb-true, ltb-false, le-ltb, lt-ltb}
use Rattle.std.proofs.lemmas.List.{append-nil, take-append-drop}
use Rattle.std.proofs.lemmas.Slice.Eq.{bytes_eq-Decides}
use Rattle.wb_base.specs.Fields.{keyword_of, IsBehind}
use Rattle.wb_base.specs.Numbers.{number_at, whole_number, number_within}
use Rattle.wb_base.proofs.FieldLemmas.{no_space, append-behind_keyword, IsBehind-behind_keyword, keyword_of-append, behind_keyword-append}
use Rattle.wb_base.proofs.NumberLemmas.{number_at-decimal, number_at-is}
use Rattle.wb_base.proofs.PartLemmas.{Ok-cond, Ok-cond_not, Ok-injective, Some-cond, Some-injective}
use Rattle.ld_term.specs.Terms.{Term, height, leaf_count}
use Rattle.ld_term.specs.StrictTexts.{strict_text, strict_term_of}
use Rattle.ld_term.specs.declared.TheConstants.{MAX_HEIGHT, MAX_PRODUCTS}
use Rattle.ld_term.proofs.StrictReadingLemmas.{strict_term_of-strict_text, strict_term_of-is}
use Rattle.laver_table.specs.declared.TheConstants.{MAX_EXPONENT}
use Rattle.term_expand.specs.Expansions.{IsAddress}
use Rattle.term_expand.specs.declared.TheConstants.{MAX_ADDRESS}
use Rattle.ld_cert.specs.Accepted.{IsReadable}
use Rattle.ld_cert.specs.Checking.{behind_front, behind_space, text_behind, readable, term_by, term_behind, is_address, address_in, address_behind, exponent_in}
use Rattle.ld_cert.specs.declared.checked.LdWhy.{LdWhy}

-- ---- Fronts ----

-- what stands behind a front follows it
pub behind_front-is
    : (front bytes rest : List ℕ)
    → behind_front front bytes ≡ Some rest
    → bytes ≡ front ++ rest
behind_front-is front bytes rest is =
    let (test, found) = Some-cond (bytes_eq (take (length front) bytes) front) _ rest is in
    sym (take-append-drop (length front) bytes)
    ∙ ap₂ (λ (f r : List ℕ). f ++ r) ((bytes_eq-Decides (take (length front) bytes) front).0 test)
    (Some-injective found)

-- what follows a front stands behind it
pub behind_front-append
    : (front rest : List ℕ)
    → behind_front front (front ++ rest) ≡ Some rest
behind_front-append front rest =
    let test : bytes_eq (take (length front) (front ++ rest)) front ≡ true
    = (bytes_eq-Decides _ front).1 (take-append_seam front rest) in
    rw test (ap (λ r. Some r) (drop-append_seam front rest))

-- ---- Numbers ----

-- a number that is read within bounds is the whole text
pub number_within-is
    : (low high : ℕ) (text : List ℕ) (n : ℕ)
    → number_within low high text ≡ Some n
    → (text ≡ decimal n) × (low ≤ n) × (n ≤ high)
number_within-is low high text n is = go (number_at text) refl is
  where
    go
        : (number : Option (ℕ × ℕ))
        → number_at text ≡ number
        → whole_number low high (length text) number ≡ Some n
        → (text ≡ decimal n) × (low ≤ n) × (n ≤ high)
    go None read whole = absurd (cc)
    go (Some (value, digits)) read whole =
        let (test, same) = Some-cond _ _ n whole in
        let (first, above) = and_parts ((digits == length text) && not (ltb value low)) (not (ltb high value)) test in
        let (all, below) = and_parts (digits == length text) (not (ltb value low)) first in
        let is = number_at-is text value digits read in
        let value_is : value ≡ n = Some-injective same in
        let end : drop digits text ≡ [] =
        ap (λ k. drop k text) (eqb-true digits (length text) all) ∙ drop-length text in (
          is.is ∙ ap₂ (λ k (rest : List ℕ). decimal k ++ rest) value_is end ∙ append-nil (decimal n),
          omega (arith, ltb-false value low (not-false _ below), value_is),
          omega (arith, ltb-false high value (not-false _ above), value_is),
        )
      where
        not-false : (b : Bool) → not b ≡ true → b ≡ false
        not-false true is = absurd (cc)
        not-false false is = refl

-- the text of a number within bounds is read
pub number_within-decimal
    : (low high n : ℕ)
    → low ≤ n
    → n ≤ high
    → n < 2 ^ 64
    → number_within low high (decimal n) ≡ Some n
number_within-decimal low high n above below fits =
    let read : number_at (decimal n) ≡ Some (n, length (decimal n))
    = ap number_at (sym (append-nil (decimal n))) ∙ number_at-decimal n [] fits refl in
    let size : (length (decimal n) == length (decimal n)) ≡ true
    = eq-eqb (length (decimal n)) (length (decimal n)) refl in
    ap (whole_number low high (length (decimal n))) read
    ∙ rw (size, le-ltb n low above, le-ltb high n below) refl

-- the exponent of a table that can be built is a text by itself
pub exponent_in-is
    : (front line : List ℕ) (n : ℕ)
    → exponent_in (behind_front front line) ≡ Some n
    → (line ≡ front ++ decimal n) × (n ≤ MAX_EXPONENT)
exponent_in-is front line n is = go (behind_front front line) refl is
  where
    go
        : (rest : Option (List ℕ))
        → behind_front front line ≡ rest
        → exponent_in rest ≡ Some n
        → (line ≡ front ++ decimal n) × (n ≤ MAX_EXPONENT)
    go None found read = absurd (cc)
    go (Some bytes) found read =
        let (text, low, high) = number_within-is 0 MAX_EXPONENT bytes n read in
        (behind_front-is front line bytes found ∙ ap (λ rest. front ++ rest) text, high)

pub exponent_in-decimal
    : (front : List ℕ) (n : ℕ)
    → n ≤ MAX_EXPONENT
    → exponent_in (behind_front front (front ++ decimal n)) ≡ Some n
exponent_in-decimal front n low =
    ap exponent_in (behind_front-append front (decimal n))
    ∙ number_within-decimal 0 MAX_EXPONENT n (omega arith) low (omega (arith, low))

-- ---- Terms ----

-- a term that is read isn't too large
readable-Ok : (read : Option Term) (t : Term) → readable read ≡ Ok t → (read ≡ Some t) × IsReadable t
readable-Ok None t is = absurd (cc)
readable-Ok (Some u) t is =
    let (test, same) = Ok-cond_not (ltb MAX_HEIGHT (height u) || ltb (MAX_PRODUCTS + 1) (leaf_count u)) _ _ t is
    in
    let one : u ≡ t = Ok-injective u t same in
    let (low, few) = neither (ltb MAX_HEIGHT (height u)) (ltb (MAX_PRODUCTS + 1) (leaf_count u)) test in (
      ap (λ v. Some v) one,
      subst IsReadable one (record { low = ltb-false _ _ low; few = ltb-false _ _ few }),
    )
  where
    neither : (a b : Bool) → (a || b) ≡ false → (a ≡ false) × (b ≡ false)
    neither true b is = absurd (cc)
    neither false b is = (refl, is)

-- and one that isn't is read
pub readable-some : (t : Term) → IsReadable t → readable (Some t) ≡ Ok t
readable-some t is = rw (le-ltb _ _ is.low, le-ltb _ _ is.few) refl

-- what stands behind a space
behind_space-Ok
    : (behind text : List ℕ)
    → IsBehind behind
    → behind_space behind ≡ Ok text
    → behind ≡ 32 ∷ text
behind_space-Ok [] text can is = absurd (cc)
behind_space-Ok (space ∷ rest) text can is =
    ap₂ (λ byte (bytes : List ℕ). byte ∷ bytes) can (Ok-injective _ _ is)

-- a line with a text behind its keyword is these
text_behind-is
    : (keyword line text : List ℕ)
    → text_behind keyword line ≡ Ok text
    → line ≡ keyword ++ 32 ∷ text
text_behind-is keyword line text is =
    let (test, found) = Ok-cond (bytes_eq (keyword_of line) keyword) _ _ text is in
    sym (append-behind_keyword line)
    ∙ ap₂ (λ (word behind : List ℕ). word ++ behind) ((bytes_eq-Decides (keyword_of line) keyword).0 test)
    (behind_space-Ok _ text (IsBehind-behind_keyword line) found)

-- and they are such a line
text_behind-append
    : (keyword text : List ℕ)
    → no_space keyword ≡ true
    → text_behind keyword (keyword ++ 32 ∷ text) ≡ Ok text
text_behind-append keyword text none =
    let test : bytes_eq (keyword_of (keyword ++ 32 ∷ text)) keyword ≡ true
    = (bytes_eq-Decides _ keyword).1 (keyword_of-append keyword (32 ∷ text) none refl) in
    rw test (ap behind_space (behind_keyword-append keyword (32 ∷ text) none refl))

-- a term that is read of a line is its strict text, behind the keyword and a space
pub term_behind-is
    : (keyword line : List ℕ) (t : Term)
    → term_behind keyword line ≡ Ok t
    → (line ≡ keyword ++ 32 ∷ strict_text t) × IsReadable t
term_behind-is keyword line t is = go (text_behind keyword line) refl is
  where
    go
        : (rest : Result (List ℕ) LdWhy)
        → text_behind keyword line ≡ rest
        → term_by rest ≡ Ok t
        → (line ≡ keyword ++ 32 ∷ strict_text t) × IsReadable t
    go (Err why) behind read = absurd (cc)
    go (Ok bytes) behind read =
        let (found, small) = readable-Ok (strict_term_of bytes) t read in
        let text = text_behind-is keyword line bytes behind in
        (text ∙ ap (λ rest. keyword ++ 32 ∷ rest) (strict_term_of-is bytes t found), small)

-- and such a line is read
pub term_behind-strict_text
    : (keyword : List ℕ) (t : Term)
    → no_space keyword ≡ true
    → IsReadable t
    → term_behind keyword (keyword ++ 32 ∷ strict_text t) ≡ Ok t
term_behind-strict_text keyword t none small =
    ap term_by (text_behind-append keyword (strict_text t) none)
    ∙ ap readable (strict_term_of-strict_text t) ∙ readable-some t small

-- ---- Addresses ----

-- the test of a side
Decides-side : (byte : ℕ) → Decides ((byte == 48) || (byte == 49)) ((byte ≡ 48) ⊎ (byte ≡ 49))
Decides-side byte =
    Decides-or (byte == 48) (byte == 49) (eqb-true byte 48, eq-eqb byte 48) (eqb-true byte 49, eq-eqb byte 49)

-- that of an address
pub Decides-is_address : (bytes : List ℕ) → Decides (is_address bytes) (IsAddress bytes)
Decides-is_address bytes =
    let sides = Decides-by_and (λ byte. (byte == 48) || (byte == 49)) (λ byte. (byte ≡ 48) ⊎ (byte ≡ 49))
    (list_all (λ byte. (byte == 48) || (byte == 49))) Decides-side refl (λ x xs. refl) bytes in (
      λ pass.
          let (short, all) = and_parts (ltb (length bytes) (MAX_ADDRESS + 1)) _ pass in
          record { short = omega (arith, ltb-true _ _ short); sides = sides.0 all },
      λ is.
          and_from (ltb (length bytes) (MAX_ADDRESS + 1)) _
          (lt-ltb (length bytes) (MAX_ADDRESS + 1) (omega (arith, is.short))) (sides.1 is.sides),
    )

-- an address that is read of a line follows the front
pub address_behind-is
    : (front line address : List ℕ)
    → address_behind front line ≡ Some address
    → (line ≡ front ++ address) × IsAddress address
address_behind-is front line address is = go (behind_front front line) refl is
  where
    go
        : (rest : Option (List ℕ))
        → behind_front front line ≡ rest
        → address_in rest ≡ Some address
        → (line ≡ front ++ address) × IsAddress address
    go None found read = absurd (cc)
    go (Some bytes) found read =
        let (test, same) = Some-cond (is_address bytes) _ address read in
        let one : bytes ≡ address = Some-injective same in (
          behind_front-is front line bytes found ∙ ap (λ rest. front ++ rest) one,
          subst IsAddress one ((Decides-is_address bytes).0 test),
        )

-- and what follows it is read
pub address_behind-append
    : (front address : List ℕ)
    → IsAddress address
    → address_behind front (front ++ address) ≡ Some address
address_behind-append front address is =
    ap address_in (behind_front-append front address) ∙ rw ((Decides-is_address address).1 is) refl
