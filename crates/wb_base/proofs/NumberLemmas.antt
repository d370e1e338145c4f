-- Laws of runs of digits and of the numbers that they write.
use Rattle.std.proofs.Common.{◌≡◌, ℕ, ◌+◌, ◌-◌, ◌*◌, ◌/◌, ◌^◌, ◌<◌, true, List, [], ◌∷◌, ◌++◌, length, get_or, take, drop, decimal, Some, refl, ap, ap₂, ◌∙◌, arith, subst, sym, inl, inr, rules, tests}
use Rattle.std.specs.List.{list_all, prefix_len}
use Rattle.std.proofs.lemmas.List.{take-append-drop}
use Rattle.std.specs.Char.{is_ascii_digit, digit_value}
use Rattle.std.specs.Str.Parse.{digits_value, AllDigits}
use Rattle.std.proofs.lemmas.Int.Digits.{digits_value_more}
use Rattle.std.proofs.lemmas.Str.{digit_value_digit}
use Rattle.std.proofs.lemmas.Str.Parse.{IsNumeralModel, numerals_by_value, tells_digits, digit_from_value, digit_at, digits_value-take-le}
use Rattle.std.proofs.lemmas.Fmt.{digits_decimal, digits_value-decimal, decimal-digits_value, first_decimal, decimal_digit}
use Rattle.std.proofs.lemmas.Option.{cond_some}
use Rattle.std.proofs.lemmas.Bool.{cases_Bool, cases_lt, and_parts, and_from, not-true, not_from_false, eqb-false, ne_eqb, lt-ltb, ltb-true}
use Rattle.std.proofs.lemmas.List.Sums.{take_while-cons}
use Rattle.std.proofs.lemmas.List.Folds.{length-prefix_len}
use Rattle.wb_base.specs.Numbers.{digits_in_front, is_canonical, number_of, number_at}

-- the number with one digit more
pub digits_value_step
    : (ds : List ℕ) (i : ℕ)
    → AllDigits 10 ds
    → i < length ds
    → digits_value 10 (take (i + 1) ds) ≡ 10 * digits_value 10 (take i ds) + (get_or ds i 0 - 48)
digits_value_step ds i all within =
    let digit = digit_value_digit (get_or ds i 0) (digit_at ds i all within) in
    omega (arith, digits_value_more 10 ds i within, digit)

-- a number that a digit more takes past a limit is past it
pub digits_value_past
    : (ds : List ℕ) (i limit digit : ℕ)
    → AllDigits 10 ds
    → i < length ds
    → digit ≡ get_or ds i 0 - 48
    → (limit - digit) / 10 < digits_value 10 (take i ds)
    → digits_value 10 ds < limit + 1
    → ⊥
digits_value_past ds i limit digit all within is past fits =
    omega (arith, digits_value_step ds i all within, digits_value-take-le 10 ds (i + 1) (omega arith))

-- the value of a decimal digit
pub digit_value-lt : (b : ℕ) → is_ascii_digit b ≡ true → digit_value b < 10
digit_value-lt b digit = search (rules, tests)

-- a run of digits has digits alone
pub AllDigits-digits_in_front : (bytes : List ℕ) → AllDigits 10 (digits_in_front bytes)
AllDigits-digits_in_front [] = tt
AllDigits-digits_in_front (b ∷ bytes) =
    subst (AllDigits 10) (sym (take_while-cons is_ascii_digit b bytes))
    (elim (cases_Bool (is_ascii_digit b)) [
      | inl h ↦ rw h (digit_value-lt b h, AllDigits-digits_in_front bytes)
      | inr h ↦ rw h tt
    ])

-- bytes that are all digits have digits alone
pub AllDigits-list_all
    : (bytes : List ℕ)
    → list_all is_ascii_digit bytes ≡ true
    → AllDigits 10 bytes
AllDigits-list_all [] all = tt
AllDigits-list_all (b ∷ bytes) all =
    let (first, rest) = and_parts _ _ all in (digit_value-lt b first, AllDigits-list_all bytes rest)

-- a byte with a decimal digit's value is one
is_ascii_digit-value : (b : ℕ) → digit_value b < 10 → is_ascii_digit b ≡ true
is_ascii_digit-value b digit = let within = digit_from_value b digit in search (rules, tests)

-- digits alone are all digits
pub list_all-AllDigits
    : (bytes : List ℕ)
    → AllDigits 10 bytes
    → list_all is_ascii_digit bytes ≡ true
list_all-AllDigits [] all = refl
list_all-AllDigits (b ∷ bytes) all =
    and_from _ _ (is_ascii_digit-value b all.0) (list_all-AllDigits bytes all.1)

-- ---- Numbers and their texts ----

-- `AllDigits` and `digits_value` as std's lemmas on the text of a number take them
numerals : IsNumeralModel (AllDigits 10) (digits_value 10)
numerals = numerals_by_value (AllDigits 10) tells_digits

-- a number's text has a digit
length-canonical : (ds : List ℕ) → is_canonical ds ≡ true → 0 < length ds
length-canonical [] canonical = cc
length-canonical (d ∷ ds) canonical = omega arith

-- its first digit is 0 only where that is all
first_canonical
    : (ds : List ℕ)
    → is_canonical ds ≡ true
    → get_or ds 0 0 ≡ 48
    → length ds ≡ 1
first_canonical [] canonical zero = cc
first_canonical (d ∷ []) canonical zero = refl
first_canonical (d ∷ (e ∷ ds)) canonical zero =
    absurd (eqb-false d 48 (not-true _ canonical) zero)

-- digits that are the text of a number are that of their number
pub decimal-canonical
    : (ds : List ℕ)
    → AllDigits 10 ds
    → is_canonical ds ≡ true
    → digits_value 10 ds < 2 ^ 64
    → decimal (digits_value 10 ds) ≡ ds
decimal-canonical ds all canonical fits =
    decimal-digits_value numerals ds all (length-canonical ds canonical)
    (first_canonical ds canonical) fits

-- digits of which the first isn't 0 are the text of a number
is_canonical-first : (ds : List ℕ) → 48 < get_or ds 0 0 → is_canonical ds ≡ true
is_canonical-first [] first = absurd (omega arith)
is_canonical-first (d ∷ []) first = refl
is_canonical-first (d ∷ (e ∷ ds)) first = not_from_false _ (ne_eqb d 48 (λ e. omega arith))

-- the text of a number is one
pub is_canonical-decimal : (n : ℕ) → n < 2 ^ 64 → is_canonical (decimal n) ≡ true
is_canonical-decimal n fits =
    elim (cases_lt 0 n) [
      | inl some ↦ is_canonical-first (decimal n) (first_decimal n some fits)
      | inr none ↦
          let zero : n ≡ 0 = omega arith in
          ap is_canonical (ap decimal zero ∙ decimal_digit 0 (omega arith))
    ]

-- it has digits alone
pub AllDigits-decimal : (n : ℕ) → n < 2 ^ 64 → AllDigits 10 (decimal n)
AllDigits-decimal = digits_decimal numerals

-- which write the number
pub digits_value-of_decimal : (n : ℕ) → n < 2 ^ 64 → digits_value 10 (decimal n) ≡ n
digits_value-of_decimal = digits_value-decimal numerals

-- digits in front of what has none are the digits in front
digits_in_front-append
    : (ds rest : List ℕ)
    → AllDigits 10 ds
    → digits_in_front rest ≡ []
    → digits_in_front (ds ++ rest) ≡ ds
digits_in_front-append [] rest all none = none
digits_in_front-append (d ∷ ds) rest all none =
    take_while-cons is_ascii_digit d (ds ++ rest)
    ∙ rw (is_ascii_digit-value d all.0, digits_in_front-append ds rest all.1 none) refl

-- the text of a number is read, where no digit follows
pub number_at-decimal
    : (n : ℕ) (rest : List ℕ)
    → n < 2 ^ 64
    → digits_in_front rest ≡ []
    → number_at (decimal n ++ rest) ≡ Some (n, length (decimal n))
number_at-decimal n rest fits none =
    let run = digits_in_front-append (decimal n) rest (AllDigits-decimal n fits) none in
    let value = digits_value-of_decimal n fits in
    let canonical = is_canonical-decimal n fits in
    ap number_of run ∙ rw (canonical, value, lt-ltb n (2 ^ 64) fits) refl

-- some bytes are the digits in front and what follows them
digits_in_front-rest
    : (bytes : List ℕ)
    → bytes ≡ digits_in_front bytes ++ drop (length (digits_in_front bytes)) bytes
digits_in_front-rest bytes =
    let many = prefix_len is_ascii_digit bytes in
    sym (take-append-drop many bytes)
    ∙ ap (λ n. take many bytes ++ drop n bytes) (sym (length-prefix_len is_ascii_digit bytes))

-- What some bytes are where a number of so many digits was read: its text, and what follows it.
pub record IsNumberIn (bytes : List ℕ) (n digits : ℕ) : Type 0 where
  pub fits : n < 2 ^ 64
  pub is : bytes ≡ decimal n ++ drop digits bytes

-- what is read is the text of a number
pub number_at-is
    : (bytes : List ℕ) (n digits : ℕ)
    → number_at bytes ≡ Some (n, digits)
    → IsNumberIn bytes n digits
number_at-is bytes n digits read =
    let run = digits_in_front bytes in
    let (passes, is) = cond_some _ _ _ read in
    let (canonical, below) = and_parts _ _ passes in
    let fits = ltb-true (digits_value 10 run) (2 ^ 64) below in
    let value : digits_value 10 run ≡ n = ap (λ (p : ℕ × ℕ). p.0) is in
    let many : length run ≡ digits = ap (λ (p : ℕ × ℕ). p.1) is in
    let text = decimal-canonical run (AllDigits-digits_in_front bytes) canonical fits in
    record {
      fits = omega arith;
      is = digits_in_front-rest bytes
          ∙ ap₂ (λ front n. front ++ drop n bytes) (sym text ∙ ap decimal value) many;
    }
