-- What the lines of a certificate file may say, and their texts.
--
-- A text is no longer than a line may be (`length-line_text`), and is one line (`line_text-no_lf`).
use Rattle.std.proofs.Common.{◌≡◌, ℕ, ◌^◌, ◌<◌, ◌≤◌, ◌⊎◌, true, ltb, List, [], ◌∷◌, ◌++◌, All, length, length-append, get_or, codes, decimal, refl, arith}
use Rattle.std.specs.List.{list_all}
use Rattle.std.proofs.lemmas.Bool.{ltb-true, lt-ltb}
use Rattle.std.proofs.lemmas.Fmt.{length-decimal-le_wide}
use Rattle.std.proofs.lemmas.Str.Parse.{digit_at}
use Rattle.std.proofs.lemmas.List.Elements.{All-append, All-get_or, All-from_get_or, All-weaker}
use Rattle.std.proofs.lemmas.Bool.Decides.{Decides-by_and}
use Rattle.wb_base.specs.Lines.{HasNoLf}
use Rattle.wb_base.proofs.NumberLemmas.{AllDigits-decimal}
use Rattle.ld_term.specs.Terms.{Term, variable, multiply}
use Rattle.ld_term.specs.StrictTexts.{strict_text}
use Rattle.ld_term.proofs.StrictLemmas.{length-strict_text}
use Rattle.laver_table.specs.declared.TheConstants.{MAX_EXPONENT}
use Rattle.term_expand.specs.Expansions.{IsAddress}
use Rattle.ld_cert.specs.Accepted.{IsReadable}
use Rattle.ld_cert.specs.declared.TheConstants.{MAX_LINE}

-- ---- What a line says ----

-- The start; the left and the right term; the answer; an expansion of either term at an address; the end.
pub data Said : Type 0 where
  start : Said
  left : Term → Said
  right : Term → Said
  yes : Said
  no_by : ℕ → Said
  left_step : List ℕ → Said
  right_step : List ℕ → Said
  finish : Said

-- Its text, without LF.
abbrev pub line_text : Said → List ℕ
line_text start = codes "ld-certificate 1"
line_text (left t) = codes "left" ++ 32 ∷ strict_text t
line_text (right t) = codes "right" ++ 32 ∷ strict_text t
line_text yes = codes "yes"
line_text (no_by n) = codes "no " ++ decimal n
line_text (left_step address) = codes "l ." ++ address
line_text (right_step address) = codes "r ." ++ address
line_text finish = codes "end"

-- What a line can say: a term that isn't too large, the exponent of a table that can be built, an address.
abbrev pub IsLine : Said → Type 0
IsLine start = Unit {0}
IsLine (left t) = IsReadable t
IsLine (right t) = IsReadable t
IsLine yes = Unit {0}
IsLine (no_by n) = n ≤ MAX_EXPONENT
IsLine (left_step address) = IsAddress address
IsLine (right_step address) = IsAddress address
IsLine finish = Unit {0}

-- ---- A text isn't too long ----

-- a keyword with a term
length-keyword_term
    : (keyword : List ℕ) (t : Term)
    → length keyword ≤ 20
    → IsReadable t
    → length (keyword ++ 32 ∷ strict_text t) ≤ MAX_LINE
length-keyword_term keyword t short small =
    omega (arith, short, small.few, length-strict_text t, length-append keyword (32 ∷ strict_text t))

-- a front with an address
length-front_address
    : (front address : List ℕ)
    → length front ≤ 20
    → IsAddress address
    → length (front ++ address) ≤ MAX_LINE
length-front_address front address short is = omega (arith, short, is.short, length-append front address)

pub length-line_text : (s : Said) → IsLine s → length (line_text s) ≤ MAX_LINE
length-line_text start is = omega arith
length-line_text (left t) is = length-keyword_term (codes "left") t (omega arith) is
length-line_text (right t) is = length-keyword_term (codes "right") t (omega arith) is
length-line_text yes is = omega arith
length-line_text (no_by n) is =
    let digits : length (decimal n) ≤ 2
    = length-decimal-le_wide 2 n (omega arith) (omega (arith, is)) (omega (arith, is)) in
    omega (arith, digits, length-append (codes "no ") (decimal n))
length-line_text (left_step address) is = length-front_address (codes "l .") address (omega arith) is
length-line_text (right_step address) is = length-front_address (codes "r .") address (omega arith) is
length-line_text finish is = omega arith

-- ---- A text is one line ----

-- No byte is below the space, and so none is an LF.
abbrev AreShown : List ℕ → Type 0
AreShown bytes = All (λ byte. 31 < byte) bytes

-- that of a fixed text, by computing
shown-codes : (bytes : List ℕ) → list_all (λ byte. ltb 31 byte) bytes ≡ true → AreShown bytes
shown-codes bytes all =
    (Decides-by_and (λ byte. ltb 31 byte) (λ byte. 31 < byte) (list_all (λ byte. ltb 31 byte))
    (λ byte. (ltb-true 31 byte, lt-ltb 31 byte)) refl (λ x xs. refl) bytes).0 all

-- of such a text and another
shown-append
    : (front back : List ℕ)
    → list_all (λ byte. ltb 31 byte) front ≡ true
    → AreShown back
    → AreShown (front ++ back)
shown-append front back all shown = All-append (λ byte. 31 < byte) front back (shown-codes front all) shown

-- of a strict text
shown-strict_text : (t : Term) → AreShown (strict_text t)
shown-strict_text variable = shown-codes (120 ∷ []) refl
shown-strict_text (multiply t u) =
    shown-append (40 ∷ []) (strict_text t ++ (42 ∷ (strict_text u ++ (41 ∷ [])))) refl
    (All-append (λ byte. 31 < byte) (strict_text t) (42 ∷ (strict_text u ++ (41 ∷ []))) (shown-strict_text t)
    (shown-append (42 ∷ []) (strict_text u ++ (41 ∷ [])) refl
    (All-append (λ byte. 31 < byte) (strict_text u) (41 ∷ []) (shown-strict_text u)
    (shown-codes (41 ∷ []) refl))))

-- of a number
shown-decimal : (n : ℕ) → n < 2 ^ 64 → AreShown (decimal n)
shown-decimal n fits =
    All-from_get_or (λ byte. 31 < byte) (decimal n) 0 (λ i within.
    let digit = digit_at (decimal n) i (AllDigits-decimal n fits) within in omega (arith, digit))

-- of an address
shown-address : (address : List ℕ) → IsAddress address → AreShown address
shown-address address is =
    All-weaker (λ byte. (byte ≡ 48) ⊎ (byte ≡ 49)) (λ byte. 31 < byte) (λ byte side. omega (arith, side))
    address is.sides

shown-line_text : (s : Said) → IsLine s → AreShown (line_text s)
shown-line_text start is = shown-codes (codes "ld-certificate 1") refl
shown-line_text (left t) is = shown-append (codes "left ") (strict_text t) refl (shown-strict_text t)
shown-line_text (right t) is = shown-append (codes "right ") (strict_text t) refl (shown-strict_text t)
shown-line_text yes is = shown-codes (codes "yes") refl
shown-line_text (no_by n) is = shown-append (codes "no ") (decimal n) refl (shown-decimal n (omega (arith, is)))
shown-line_text (left_step address) is = shown-append (codes "l .") address refl (shown-address address is)
shown-line_text (right_step address) is = shown-append (codes "r .") address refl (shown-address address is)
shown-line_text finish is = shown-codes (codes "end") refl

pub line_text-no_lf : (s : Said) → IsLine s → HasNoLf (line_text s)
line_text-no_lf s is k within = λ lf.
    let shown : 31 < get_or (line_text s) k 0
    = All-get_or (λ byte. 31 < byte) (line_text s) k 0 within (shown-line_text s is) in
    absurd (omega arith)
