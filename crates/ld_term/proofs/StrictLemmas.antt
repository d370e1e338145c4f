-- The strict text of a term is a strict text of it, and of no other term.
--
-- The tokens of the text are those of the term, by induction on the term, with anything behind the text that
-- doesn't go on with a run (`lex-strict_text`). That the text has no other term is the law of the grammar
-- (`IsTermText-strict_text`, `strict_text-inj`).
use Rattle.std.proofs.Common.{◌≡◌, ℕ, ◌+◌, ◌*◌, true, false, List, [], ◌∷◌, ◌++◌, length, take, refl, sym, ap, ◌∙◌, subst, arith, append_assoc, append-nil, length-append}
use Rattle.std.specs.List.{prefix_len}
use Rattle.wb_base.specs.Names.{is_name_byte}
use Rattle.ld_term.specs.Terms.{Term, variable, multiply, height, leaf_count}
use Rattle.ld_term.specs.Written.{Written, leaf, named, times, HasNoName, written_height, written_products}
use Rattle.ld_term.specs.Tokens.{Token, open_bracket, close_bracket, star, variable as variable_token, byte_token, tokens_of, lex, tokens_from, run_token}
use Rattle.ld_term.specs.Grammar.{atom_tokens, IsTermText, atom}
use Rattle.ld_term.specs.StrictTexts.{as_written, as_term, strict_text}
use Rattle.ld_term.proofs.ReadingLemmas.{text-unique}

-- ---- Tokens ----

-- No run goes on here.
abbrev pub EndsRun : List ℕ → Type 0
EndsRun [] = Unit {0}
EndsRun (byte ∷ bytes) = is_name_byte byte ≡ false

-- The tokens of these bytes in a strict reading, wherever the bytes stand.
abbrev HasTokens : List ℕ → List Token → Type 0
HasTokens bytes tokens = (place : ℕ) → tokens_of (lex true false place bytes) ≡ tokens

-- where no run goes on, nothing is known of the run before
pub lex-ends
    : (place : ℕ) (bytes : List ℕ)
    → EndsRun bytes
    → lex true true place bytes ≡ lex true false place bytes
unfolding lex
lex-ends place [] ends = refl
lex-ends place (byte ∷ bytes) ends = rw ends refl

-- one byte is in the run of an x
prefix-x : (bytes : List ℕ) → EndsRun bytes → prefix_len is_name_byte (120 ∷ bytes) ≡ 1
prefix-x [] ends = refl
prefix-x (byte ∷ bytes) ends = rw ends refl

-- an x is the variable
HasTokens-x
    : (bytes : List ℕ) (tokens : List Token)
    → EndsRun bytes
    → HasTokens bytes tokens
    → HasTokens (120 ∷ bytes) (variable_token ∷ tokens)
unfolding lex
HasTokens-x bytes tokens ends behind place =
    let run : run_token true (take (prefix_len is_name_byte (120 ∷ bytes)) (120 ∷ bytes)) place
    ≡ variable_token =
    rw (prefix-x bytes ends) refl in
    let more : tokens_of (lex true true (place + 1) bytes) ≡ tokens =
    ap tokens_of (lex-ends (place + 1) bytes ends) ∙ behind (place + 1) in
    λ i. run i ∷ more i

-- a bracket or a star is a token
HasTokens-byte
    : (byte : ℕ) (bytes : List ℕ) (tokens : List Token)
    → is_name_byte byte ≡ false
    → HasTokens bytes tokens
    → HasTokens (byte ∷ bytes) (byte_token byte ∷ tokens)
unfolding lex
HasTokens-byte byte bytes tokens other behind place =
    rw other (ap (λ z. byte_token byte ∷ z) (behind (place + 1)))

-- nothing has no tokens
HasTokens-nil : HasTokens [] []
unfolding lex
HasTokens-nil place = refl

-- a product in brackets, with anything behind it
pub bracketed
    : {X : Type 0} (first middle last : X) (l r rest : List X)
    → (first ∷ (l ++ (middle ∷ (r ++ (last ∷ []))))) ++ rest ≡ first ∷ (l ++ (middle ∷ (r ++ (last ∷ rest))))
bracketed first middle last l r rest =
    ap (λ z. first ∷ z)
    (append_assoc l (middle ∷ (r ++ (last ∷ []))) rest
    ∙ ap (λ z. l ++ (middle ∷ z)) (append_assoc r (last ∷ []) rest))

-- the tokens of a strict text, with anything behind it
lex-strict_text
    : (t : Term) (bytes : List ℕ) (tokens : List Token)
    → EndsRun bytes
    → HasTokens bytes tokens
    → HasTokens (strict_text t ++ bytes) (atom_tokens (as_written t) ++ tokens)
lex-strict_text variable bytes tokens ends behind place = HasTokens-x bytes tokens ends behind place
lex-strict_text (multiply t u) bytes tokens ends behind place =
    let last = HasTokens-byte 41 bytes tokens refl behind in
    let right = lex-strict_text u (41 ∷ bytes) (close_bracket ∷ tokens) refl last in
    let middle = HasTokens-byte 42 _ _ refl right in
    let left = lex-strict_text t (42 ∷ (strict_text u ++ (41 ∷ bytes))) _ refl middle in
    let whole = HasTokens-byte 40 _ _ refl left in
    ap (λ z. tokens_of (lex true false place z)) (bracketed 40 42 41 (strict_text t) (strict_text u) bytes)
    ∙ whole place
    ∙ sym (bracketed open_bracket star close_bracket (atom_tokens (as_written t)) (atom_tokens (as_written u))
    tokens)

-- ---- Texts ----

-- the strict text is a strict text of the term
pub IsTermText-strict_text
    : (t : Term)
    → IsTermText true (tokens_of (tokens_from true 0 (strict_text t))) (as_written t)
IsTermText-strict_text t =
    atom (ap (λ z. tokens_of (lex true false 1 z)) (sym (append-nil (strict_text t)))
    ∙ lex-strict_text t [] [] tt HasTokens-nil 1
    ∙ append-nil (atom_tokens (as_written t)))

-- a term is what it is written as
pub as_term-as_written : (t : Term) → as_term (as_written t) ≡ t
as_term-as_written variable = refl
as_term-as_written (multiply t u) = λ i. multiply (as_term-as_written t i) (as_term-as_written u i)

-- and what is written without names is a term that is written so
pub as_written-as_term : (w : Written) → HasNoName w → as_written (as_term w) ≡ w
as_written-as_term leaf p = refl
as_written-as_term (named name place) p = absurd p
as_written-as_term (times a b) p = λ i. times (as_written-as_term a p.0 i) (as_written-as_term b p.1 i)

-- terms that are written alike are one
as_written-inj : (t u : Term) → as_written t ≡ as_written u → t ≡ u
as_written-inj t u is = sym (as_term-as_written t) ∙ ap as_term is ∙ as_term-as_written u

-- terms with one strict text are one
pub strict_text-inj : (t u : Term) → strict_text t ≡ strict_text u → t ≡ u
strict_text-inj t u is =
    let first = IsTermText-strict_text t in
    let second =
    subst (λ z. IsTermText true (tokens_of (tokens_from true 0 z)) (as_written u)) (sym is)
    (IsTermText-strict_text u) in
    as_written-inj t u (text-unique true _ (as_written t) (as_written u) first second)

-- ---- Sizes ----

-- a term is as high as it is written
pub written_height-as_written : (t : Term) → written_height (as_written t) ≡ height t
written_height-as_written variable = refl
written_height-as_written (multiply t u) = rw (written_height-as_written t, written_height-as_written u) refl

-- it has one leaf more than products
pub written_products-as_written : (t : Term) → written_products (as_written t) + 1 ≡ leaf_count t
written_products-as_written variable = refl
written_products-as_written (multiply t u) =
    omega (arith, written_products-as_written t, written_products-as_written u)

-- a strict text has one byte for each leaf and three for each product
pub length-strict_text : (t : Term) → length (strict_text t) + 3 ≡ 4 * leaf_count t
length-strict_text variable = refl
length-strict_text (multiply t u) =
    let right = length-append (strict_text u) (41 ∷ []) in
    let both = length-append (strict_text t) (42 ∷ (strict_text u ++ (41 ∷ []))) in
    omega (arith, both, right, length-strict_text t, length-strict_text u)
