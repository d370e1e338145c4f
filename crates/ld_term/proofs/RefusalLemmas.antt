-- A line has one refusal at most, and none where its term is within the bounds.
--
-- Of a grammar in which each text has one term, two refusals of one line are the same (`IsRefused-unique`).
-- So what is answered for a line is the refusal that is due, unless memory ran out (`refusal-due`).
use Rattle.std.proofs.Common.{◌≡◌, ◌≢◌, ℕ, ◌≤◌, ◌⊎◌, inl, inr, Bool, false, List, ◌∷◌, length, Result, Ok, Err, IfOk, IfErr, refl, sym, ap, subst, ◌∙◌, arith}
use Rattle.std.specs.Result.{IsErrOf}
use Rattle.ld_term.specs.Written.{Written, written_height, written_products}
use Rattle.ld_term.specs.Tokens.{Token, Placed, name, equals, tokens_of, tokens_from}
use Rattle.ld_term.specs.Grammar.{IsTermText, IsDefinitionText, IsDefinitionOf}
use Rattle.ld_term.specs.TreeTexts.{written}
use Rattle.ld_term.specs.Refusals.{IsSmall, IsTooDeep, IsTooLarge, IsRefused}
use Rattle.ld_term.specs.declared.TheConstants.{MAX_HEIGHT, MAX_PRODUCTS}
use Rattle.ld_term.specs.declared.definition.Definition.{Definition}
use Rattle.ld_term.specs.declared.tree.Tree.{Tree}
use Rattle.ld_term.specs.declared.term_err.TermErr.{TermErr}
use Rattle.ld_term.specs.declared.term_err.TermErr.TheVariants.{Form, TooDeep, TooMany, Memory}
use Rattle.ld_term.proofs.ReadingLemmas.{text-unique}
use Rattle.ld_term.proofs.LawLemmas.{fault-none}
use Rattle.ld_term.proofs.FaultLemmas.{fault-unique}
use Rattle.wb_base.proofs.PartLemmas.{first_is, rest_is}

-- ---- One refusal ----

-- The tokens are a text of one term at most.
abbrev pub HasOne : (List Token → Written → Type 0) → List Token → Type 0
HasOne Says tokens = (t u : Written) → Says tokens t → Says tokens u → t ≡ u

-- no term is both too high and not
deep_low : (t u : Written) (height : ℕ) → t ≡ u → IsTooDeep t height → written_height u ≤ MAX_HEIGHT → ⊥
deep_low t u height is deep low =
    let same : written_height t ≡ written_height u = ap written_height is in
    let above = deep.above in
    absurd (omega arith)

-- nor has it both too many products and not
large_few
    : (t u : Written) (products : ℕ)
    → t ≡ u
    → IsTooLarge t products
    → written_products u ≤ MAX_PRODUCTS
    → ⊥
large_few t u products is large few =
    let same : written_products t ≡ written_products u = ap written_products is in
    let above = large.above in
    absurd (omega arith)

-- two refusals of one line are one
pub IsRefused-unique
    : (Says : List Token → Written → Type 0) (placed : List Placed) (end : ℕ) (e f : TermErr)
    → HasOne Says (tokens_of placed)
    → e ≢ Memory
    → f ≢ Memory
    → IsRefused Says placed end e
    → IsRefused Says placed end f
    → e ≡ f
IsRefused-unique Says placed end (Form m) (Form n) one is are first second =
    ap (λ place. Form place)
    (fault-unique (λ tokens. (t : Written) × Says tokens t) placed end m n first second)
IsRefused-unique Says placed end (Form m) (TooDeep height) one is are fault (t, text, deep) =
    absurd (fault-none (λ tokens. (t : Written) × Says tokens t) placed end m fault (t, text))
IsRefused-unique Says placed end (Form m) (TooMany products) one is are fault (t, text, large) =
    absurd (fault-none (λ tokens. (t : Written) × Says tokens t) placed end m fault (t, text))
IsRefused-unique Says placed end (TooDeep height) (Form m) one is are (t, text, deep) fault =
    absurd (fault-none (λ tokens. (t : Written) × Says tokens t) placed end m fault (t, text))
IsRefused-unique Says placed end (TooDeep h) (TooDeep k) one is are (t, text, deep) (u, other, high) =
    ap (λ height. TooDeep height) (deep.is ∙ ap written_height (one t u text other) ∙ sym high.is)
IsRefused-unique Says placed end (TooDeep h) (TooMany k) one is are (t, text, deep) (u, other, large) =
    absurd (deep_low t u h (one t u text other) deep large.low)
IsRefused-unique Says placed end (TooMany h) (Form m) one is are (t, text, large) fault =
    absurd (fault-none (λ tokens. (t : Written) × Says tokens t) placed end m fault (t, text))
IsRefused-unique Says placed end (TooMany h) (TooDeep k) one is are (t, text, large) (u, other, deep) =
    absurd (deep_low u t k (one u t other text) deep large.low)
IsRefused-unique Says placed end (TooMany h) (TooMany k) one is are (t, text, large) (u, other, many) =
    ap (λ products. TooMany products) (large.is ∙ ap written_products (one t u text other) ∙ sym many.is)
IsRefused-unique Says placed end Memory f one is are first second = absurd (is refl)
IsRefused-unique Says placed end e Memory one is are first second = absurd (are refl)

-- a term within the bounds isn't refused
pub IsRefused-none
    : (Says : List Token → Written → Type 0) (placed : List Placed) (end : ℕ) (e : TermErr) (t : Written)
    → HasOne Says (tokens_of placed)
    → Says (tokens_of placed) t
    → IsSmall t
    → IsRefused Says placed end e
    → e ≡ Memory
IsRefused-none Says placed end (Form place) t one text small fault =
    absurd (fault-none (λ tokens. (t : Written) × Says tokens t) placed end place fault (t, text))
IsRefused-none Says placed end (TooDeep height) t one text small (u, other, deep) =
    absurd (deep_low u t height (one u t other text) deep small.low)
IsRefused-none Says placed end (TooMany products) t one text small (u, other, large) =
    absurd (large_few u t products (one u t other text) large small.few)
IsRefused-none Says placed end Memory t one text small free = refl

-- ---- What is answered ----

-- what is answered is the refusal that is due, or that memory ran out
pub refusal-due
    : {T : Type 0} (Says : List Token → Written → Type 0) (placed : List Placed) (end : ℕ)
    (term_of : T → Written) (r : Result T TermErr)
    → HasOne Says (tokens_of placed)
    → IfOk r (λ x. Says (tokens_of placed) (term_of x))
    → IfOk r (λ x. IsSmall (term_of x))
    → IfErr r (IsRefused Says placed end)
    → (e : TermErr)
    → e ≢ Memory
    → IsRefused Says placed end e
    → IsErrOf r e ⊎ IsErrOf r Memory
refusal-due Says placed end term_of (Ok x) one text small refused e is due =
    absurd (is (IsRefused-none Says placed end e (term_of x) one text small due))
refusal-due Says placed end term_of (Err Memory) one text small refused e is due = inr refl
refusal-due Says placed end term_of (Err (Form m)) one text small refused e is due =
    inl (ap (λ f. Err f) (IsRefused-unique Says placed end (Form m) e one (λ never. cc) is refused due))
refusal-due Says placed end term_of (Err (TooDeep h)) one text small refused e is due =
    inl (ap (λ f. Err f) (IsRefused-unique Says placed end (TooDeep h) e one (λ never. cc) is refused due))
refusal-due Says placed end term_of (Err (TooMany k)) one text small refused e is due =
    inl (ap (λ f. Err f) (IsRefused-unique Says placed end (TooMany k) e one (λ never. cc) is refused due))

-- so of a line as a term
pub term_refusal-due
    : (strict : Bool) (line : List ℕ) (r : Result Tree TermErr)
    → IfOk r (λ tree. IsTermText strict (tokens_of (tokens_from strict 0 line)) (written tree))
    → IfOk r (λ tree. IsSmall (written tree))
    → IfErr r (IsRefused (IsTermText strict) (tokens_from strict 0 line) (length line))
    → (e : TermErr)
    → e ≢ Memory
    → IsRefused (IsTermText strict) (tokens_from strict 0 line) (length line) e
    → IsErrOf r e ⊎ IsErrOf r Memory
term_refusal-due strict line r text small refused e is due =
    refusal-due (IsTermText strict) (tokens_from strict 0 line) (length line) (λ tree. written tree) r
    (text-unique strict (tokens_of (tokens_from strict 0 line))) text small refused e is due

-- ---- Definitions ----

-- The name, its place and the term of two definitions are the same.
pub record AreSame (one other : List ℕ) (at place : ℕ) (t u : Written) : Type 0 where
  pub names : one ≡ other
  pub places : at ≡ place
  pub terms : t ≡ u

-- a line is one definition at most
pub definition-unique
    : (tokens : List Token) (one other : List ℕ) (at place : ℕ) (t u : Written)
    → IsDefinitionText tokens one at t
    → IsDefinitionText tokens other place u
    → AreSame one other at place t u
definition-unique tokens one other at place t u first second =
    let whole : name one at ∷ (equals ∷ first.term) ≡ name other place ∷ (equals ∷ second.term) =
    sym first.whole ∙ second.whole in
    let called : name one at ≡ name other place = first_is whole in
    let rest : first.term ≡ second.term = rest_is (rest_is whole) in
    record {
      names = cc;
      places = cc;
      terms = text-unique false second.term t u (subst (λ z. IsTermText false z t) rest first.text)
          second.text;
    }

-- so it is a definition of one term at most
defined-unique : (tokens : List Token) → HasOne IsDefinitionOf tokens
defined-unique tokens t u (one, at, first) (other, place, second) =
    (definition-unique tokens one other at place t u first second).terms

-- what is read of a definition is one of its term
defined-read
    : {E : Type 0} (tokens : List Token) (r : Result Definition E)
    → IfOk r (λ d. IsDefinitionText tokens d.name d.place (written d.term))
    → IfOk r (λ d. IsDefinitionOf tokens (written d.term))
defined-read tokens (Ok d) text = (d.name, d.place, text)
defined-read tokens (Err e) text = tt

-- so of a line as a definition
pub definition_refusal-due
    : (line : List ℕ) (r : Result Definition TermErr)
    → IfOk r (λ d. IsDefinitionText (tokens_of (tokens_from false 0 line)) d.name d.place (written d.term))
    → IfOk r (λ d. IsSmall (written d.term))
    → IfErr r (IsRefused IsDefinitionOf (tokens_from false 0 line) (length line))
    → (e : TermErr)
    → e ≢ Memory
    → IsRefused IsDefinitionOf (tokens_from false 0 line) (length line) e
    → IsErrOf r e ⊎ IsErrOf r Memory
definition_refusal-due line r text small refused e is due =
    let tokens = tokens_of (tokens_from false 0 line) in
    refusal-due IsDefinitionOf (tokens_from false 0 line) (length line) (λ (d : Definition). written d.term) r
    (defined-unique tokens) (defined-read tokens r text) small refused e is due
