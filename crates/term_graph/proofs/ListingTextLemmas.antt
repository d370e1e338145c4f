-- The text of a listing: its lines, and the tokens of each line.
--
-- The lines are those of the products and that of the term (`lines_of-listing`). A product's line defines its
-- name as the product of the names of its parts (`Says-product`), and the last line is the name of the term
-- (`Says-term`).
use Rattle.std.proofs.Common.{◌≡◌, ℕ, ◌+◌, ◌^◌, ◌<◌, ◌≤◌, ◌==◌, not, Bool, true, false, List, [], ◌∷◌, ◌++◌, length, take, codes, decimal, refl, sym, ap, ◌∙◌, append_assoc, append-nil, arith, rules, tests, true≢false}
use Rattle.std.specs.List.{AllByRecursion, flat_map, list_all, prefix_len}
use Rattle.std.specs.Char.{digit_value}
use Rattle.std.specs.Str.Parse.{AllDigits}
use Rattle.std.proofs.Math.Seq.{take-append_seam, drop-append_seam}
use Rattle.std.proofs.lemmas.Bool.{and_from, and_parts, lt-ltb}
use Rattle.std.proofs.lemmas.Fmt.{length-decimal-le_wide}
use Rattle.std.proofs.lemmas.Str.Parse.{digit_from_value}
use Rattle.std.proofs.lemmas.List.Folds.{list_all_at, list_all-append}
use Rattle.std.proofs.lemmas.List.Sums.{prefix_len-le-length}
use Rattle.wb_base.specs.Lines.{lines_of, line, HasNoLf}
use Rattle.wb_base.specs.Names.{is_name_byte, is_name}
use Rattle.wb_base.proofs.LineLemmas.{lines_of-flat_map}
use Rattle.wb_base.proofs.NumberLemmas.{AllDigits-decimal}
use Rattle.ld_term.specs.Terms.{Term, variable, multiply, height}
use Rattle.ld_term.specs.Written.{Written, leaf, named, times}
use Rattle.ld_term.specs.Tokens.{Token, equals, name, variable as variable_token, byte_token, tokens_of, lex, run_token}
use Rattle.ld_term.specs.Grammar.{atom_tokens, atom}
use Rattle.ld_term.proofs.PieceLemmas.{lex-run}
use Rattle.term_graph.specs.Asks.{same_term}
use Rattle.term_graph.specs.TermFiles.{Line, definition, closing, Says}
use Rattle.term_graph.specs.Listings.{distinct_products, number_in, name_text, product_line, product_lines, listing_text}
use Rattle.ld_term.proofs.StrictLemmas.{EndsRun}
use Rattle.term_graph.proofs.DistinctLemmas.{Follows, Follows-distinct}

-- ---- Names ----

-- The name of the product with a number.
abbrev pub number_name : ℕ → List ℕ
number_name k = codes "t" ++ decimal k

-- a digit may stand in a name
digit-name : (b : ℕ) → digit_value b < 10 → is_name_byte b ≡ true
digit-name b digit = let within = digit_from_value b digit in search (rules, tests)

-- a digit is no LF
digit-inner : (b : ℕ) → digit_value b < 10 → not (b == 10) ≡ true
digit-inner b digit = let within = digit_from_value b digit in search (rules, tests)

-- what holds of each digit holds of those of a number
list_all-decimal
    : (p : ℕ → Bool)
    → ((b : ℕ) → digit_value b < 10 → p b ≡ true)
    → (k : ℕ)
    → k < 2 ^ 64
    → list_all p (decimal k) ≡ true
list_all-decimal p each k fits = all (decimal k) (AllDigits-decimal k fits)
  where
    all : (bytes : List ℕ) → AllDigits 10 bytes → list_all p bytes ≡ true
    all [] digits = refl
    all (b ∷ bytes) digits = and_from _ _ (each b digits.0) (all bytes digits.1)

-- a number's name is one
is_name-number : (k : ℕ) → k < 2 ^ 64 → is_name (number_name k) ≡ true
is_name-number k fits =
    let short = lt-ltb (length (decimal k)) 32
    (omega (arith, length-decimal-le_wide 20 k (omega arith) (omega arith) (omega arith))) in
    let digits = list_all-decimal is_name_byte digit-name k fits in
    rw (short, digits) refl

-- so it is read as a name
run_token-number
    : (k place : ℕ)
    → k < 2 ^ 64
    → run_token false (number_name k) place ≡ name (number_name k) place
run_token-number k place fits = rw (is_name-number k fits) refl

-- the number of a term is at most one above those that are listed
number_in-le : (listed : List Term) (t : Term) → number_in listed t ≤ length listed + 1
number_in-le listed t = omega (arith, prefix_len-le-length (λ u. not (same_term t u)) listed)

-- ---- Lines ----

-- The text of the line of a product, without its LF.
abbrev pub product_text : List Term → ℕ → Term → List ℕ
product_text listed k variable = []
product_text listed k (multiply l r) =
    number_name k
    ++ (codes " = (" ++ (name_text listed l ++ (codes "*" ++ (name_text listed r ++ codes ")"))))

-- The texts of the lines from that of a product on.
abbrev pub line_texts : List Term → ℕ → List Term → Term → List (List ℕ)
line_texts listed k [] t = name_text listed t ∷ []
line_texts listed k (u ∷ us) t = product_text listed k u ∷ line_texts listed (k + 1) us t

-- Whether a byte is no LF.
abbrev is_inner : ℕ → Bool
is_inner byte = not (byte == 10)

-- bytes that are none have none
HasNoLf-inner : (text : List ℕ) → list_all is_inner text ≡ true → HasNoLf text
HasNoLf-inner text inner k within = λ lf.
    true≢false (sym inner ∙ list_all_at is_inner text k 0 within (ap is_inner lf))

-- a name has no LF
inner-name
    : (listed : List Term) (t : Term)
    → length listed + 1 < 2 ^ 64
    → list_all is_inner (name_text listed t) ≡ true
inner-name listed variable fits = refl
inner-name listed (multiply l r) fits =
    list_all-decimal is_inner digit-inner (number_in listed (multiply l r))
    (omega (arith, number_in-le listed (multiply l r)))

-- the line of a product has none
inner-product
    : (listed : List Term) (k : ℕ) (t : Term)
    → k < 2 ^ 64
    → length listed + 1 < 2 ^ 64
    → list_all is_inner (product_text listed k t) ≡ true
inner-product listed k variable low fits = refl
inner-product listed k (multiply l r) low fits =
    let right = name_text listed r ++ codes ")" in
    let left = name_text listed l ++ (codes "*" ++ right) in
    rw (
      list_all-append is_inner (decimal k) (codes " = (" ++ left),
      list_all-decimal is_inner digit-inner k low,
      list_all-append is_inner (name_text listed l) (codes "*" ++ right),
      inner-name listed l fits,
      list_all-append is_inner (name_text listed r) (codes ")"),
      inner-name listed r fits,
    ) refl

-- no line has one
inner-texts
    : (listed : List Term) (k : ℕ) (us : List Term) (t : Term)
    → k + length us < 2 ^ 64
    → length listed + 1 < 2 ^ 64
    → AllByRecursion HasNoLf (line_texts listed k us t)
inner-texts listed k [] t low fits = (HasNoLf-inner (name_text listed t) (inner-name listed t fits), tt)
inner-texts listed k (u ∷ us) t low fits = (
  HasNoLf-inner (product_text listed k u) (inner-product listed k u (omega arith) fits),
  inner-texts listed (k + 1) us t (omega arith) fits,
)

-- the text is that of its lines
listing-texts
    : (limit : ℕ) (before listed : List Term) (k : ℕ) (us : List Term) (t : Term)
    → Follows limit before us
    → product_lines listed k us ++ line (name_text listed t) ≡ flat_map line (line_texts listed k us t)
listing-texts limit before listed k [] t follows = sym (append-nil (line (name_text listed t)))
listing-texts limit before listed k (variable ∷ us) t follows = absurd follows.0
listing-texts limit before listed k (multiply l r ∷ us) t follows =
    let product = product_line listed k (multiply l r) in
    append_assoc product (product_lines listed (k + 1) us) (line (name_text listed t))
    ∙ ap (λ z. product ++ z)
    (listing-texts limit (before ++ (multiply l r ∷ [])) listed (k + 1) us t follows.1)

-- the lines of a listing are those of the products and that of the term
pub lines_of-listing
    : (limit : ℕ) (t : Term)
    → height t ≤ limit
    → length (distinct_products t) + 1 < 2 ^ 64
    → lines_of (listing_text t) ≡ line_texts (distinct_products t) 1 (distinct_products t) t
unfolding listing_text
lines_of-listing limit t low fits =
    let all = distinct_products t in
    ap lines_of (listing-texts limit [] all 1 all t (Follows-distinct limit t low))
    ∙ lines_of-flat_map (line_texts all 1 all t) (inner-texts all 1 all t (omega arith) fits)

-- ---- Tokens ----

-- The tokens of these bytes, of which the first stands at a place.
abbrev HasTokens : List ℕ → (ℕ → List Token) → Type 0
HasTokens bytes tokens = (place : ℕ) → tokens_of (lex false false place bytes) ≡ tokens place

-- nothing has no tokens
HasTokens-nil : HasTokens [] (λ place. [])
unfolding lex
HasTokens-nil place = refl

-- a space is skipped
HasTokens-space
    : (bytes : List ℕ) (tokens : ℕ → List Token)
    → HasTokens bytes tokens
    → HasTokens (32 ∷ bytes) (λ place. tokens (place + 1))
unfolding lex
HasTokens-space bytes tokens behind place = behind (place + 1)

-- a bracket, a star or an equals sign is a token
HasTokens-byte
    : (byte : ℕ) (bytes : List ℕ) (tokens : ℕ → List Token)
    → is_name_byte byte ≡ false
    → (byte == 32) ≡ false
    → HasTokens bytes tokens
    → HasTokens (byte ∷ bytes) (λ place. byte_token byte ∷ tokens (place + 1))
unfolding lex
HasTokens-byte byte bytes tokens other token behind place =
    rw (other, token) (ap (λ z. byte_token byte ∷ z) (behind (place + 1)))

-- a run ends where no byte of it follows
prefix-run
    : (run bytes : List ℕ)
    → list_all is_name_byte run ≡ true
    → EndsRun bytes
    → prefix_len is_name_byte (run ++ bytes) ≡ length run
prefix-run [] [] passes ends = refl
prefix-run [] (byte ∷ bytes) passes ends = rw ends refl
prefix-run (first ∷ run) bytes passes ends =
    let (one, rest) = and_parts (is_name_byte first) (list_all is_name_byte run) passes in
    rw (one, prefix-run run bytes rest ends) (omega arith)

-- a run is a token
HasTokens-run
    : (first : ℕ) (run bytes : List ℕ) (tokens : ℕ → List Token)
    → list_all is_name_byte (first ∷ run) ≡ true
    → EndsRun bytes
    → HasTokens bytes tokens
    → HasTokens (first ∷ (run ++ bytes))
    (λ place. run_token false (first ∷ run) place ∷ tokens (place + 1 + length run))
unfolding lex
HasTokens-run first run bytes tokens passes ends behind place =
    let (one, rest) = and_parts (is_name_byte first) (list_all is_name_byte run) passes in
    let size : 1 + prefix_len is_name_byte (run ++ bytes) ≡ length (first ∷ run) =
    omega (arith, prefix-run run bytes rest ends) in
    let token : run_token false (take (1 + prefix_len is_name_byte (run ++ bytes)) (first ∷ (run ++ bytes)))
    place
    ≡ run_token false (first ∷ run) place =
    ap (λ z. run_token false z place)
    (ap (λ n. take n (first ∷ (run ++ bytes))) size ∙ take-append_seam (first ∷ run) bytes) in
    let more : tokens_of (lex false true (place + 1) (run ++ bytes)) ≡ tokens (place + 1 + length run) =
    ap tokens_of
    (lex-run false (place + 1) (run ++ bytes)
    ∙ rw (prefix-run run bytes rest ends, drop-append_seam run bytes) refl)
    ∙ behind (place + 1 + length run) in
    rw one (λ i. token i ∷ more i)

-- ---- What the lines say ----

-- A term as its name says it.
abbrev pub written_name : List Term → ℕ → Term → Written
written_name listed place variable = leaf
written_name listed place (multiply l r) = named (name_text listed (multiply l r)) place

-- Where the left part of a product stands in its line.
abbrev pub left_place : ℕ → ℕ
left_place k = length (number_name k) + 5

-- Where the right part does.
abbrev pub right_place : List Term → ℕ → Term → ℕ
right_place listed k l = left_place k + length (name_text listed l) + 1

-- What the line of a product says.
abbrev pub written_line : List Term → ℕ → Term → Line
written_line listed k variable = closing leaf
written_line listed k (multiply l r) =
    definition (number_name k) 1
    (times (written_name listed (left_place k) l) (written_name listed (right_place listed k l) r))

-- the token of a term's name
HasTokens-name
    : (listed : List Term) (t : Term) (bytes : List ℕ) (tokens : ℕ → List Token)
    → length listed + 1 < 2 ^ 64
    → EndsRun bytes
    → HasTokens bytes tokens
    → HasTokens (name_text listed t ++ bytes)
    (λ place. atom_tokens (written_name listed place t) ++ tokens (place + length (name_text listed t)))
HasTokens-name listed variable bytes tokens fits ends behind place =
    let at : place + 1 + 0 ≡ place + 1 = omega arith in
    HasTokens-run 120 [] bytes tokens refl ends behind place ∙ ap (λ n. variable_token ∷ tokens n) at
HasTokens-name listed (multiply l r) bytes tokens fits ends behind place =
    let n = number_in listed (multiply l r) in
    let low : n < 2 ^ 64 = omega (arith, number_in-le listed (multiply l r)) in
    let at : place + 1 + length (decimal n) ≡ place + length (number_name n) = omega arith in
    HasTokens-run 116 (decimal n) bytes tokens (list_all-decimal is_name_byte digit-name n low) ends behind
    place
    ∙ rw (run_token-number n place low, at) refl

-- the tokens of the line of a product
tokens-product
    : (listed : List Term) (k : ℕ) (l r : Term)
    → k < 2 ^ 64
    → length listed + 1 < 2 ^ 64
    → tokens_of (lex false false 1 (product_text listed k (multiply l r)))
    ≡ name (number_name k) 1 ∷
    (equals ∷ atom_tokens
    (times (written_name listed (left_place k) l) (written_name listed (right_place listed k l) r)))
tokens-product listed k l r low fits =
    let close = HasTokens-byte 41 [] (λ place. []) refl refl HasTokens-nil in
    let right = HasTokens-name listed r (41 ∷ []) _ fits refl close in
    let middle = HasTokens-byte 42 (name_text listed r ++ (41 ∷ [])) _ refl refl right in
    let left = HasTokens-name listed l (42 ∷ (name_text listed r ++ (41 ∷ []))) _ fits refl middle in
    let opened = HasTokens-space _ _ (HasTokens-byte 40 _ _ refl refl left) in
    let equal = HasTokens-space _ _ (HasTokens-byte 61 _ _ refl refl opened) in
    let whole = HasTokens-run 116 (decimal k) _ _ (list_all-decimal is_name_byte digit-name k low) refl equal
    1 in
    let at : 1 + 1 + length (decimal k) + 1 + 1 + 1 + 1 ≡ left_place k = omega arith in
    whole ∙ rw (run_token-number k 1 low, at) refl

-- the line of a product says it
pub Says-product
    : (listed : List Term) (k : ℕ) (l r : Term)
    → k < 2 ^ 64
    → length listed + 1 < 2 ^ 64
    → Says record { defines = true; bytes = product_text listed k (multiply l r) }
    (written_line listed k (multiply l r))
Says-product listed k l r low fits =
    record { term = _; whole = tokens-product listed k l r low fits; text = atom refl }

-- the last line says the term
pub Says-term
    : (listed : List Term) (t : Term)
    → length listed + 1 < 2 ^ 64
    → Says record { defines = false; bytes = name_text listed t } (closing (written_name listed 1 t))
Says-term listed t fits =
    atom (ap (λ z. tokens_of (lex false false 1 z)) (sym (append-nil (name_text listed t)))
    ∙ HasTokens-name listed t [] (λ place. []) fits tt HasTokens-nil 1
    ∙ append-nil (atom_tokens (written_name listed 1 t)))
