-- Definitions: the faults of a line in its first two tokens, and those of its term.
use Rattle.std.proofs.Common.{◌≡◌, ℕ, ◌+◌, ◌-◌, false, List, [], ◌∷◌, ◌++◌, length, take, drop, refl, sym, ap, ◌∙◌, subst}
use Rattle.ld_term.specs.Written.{Written, leaf}
use Rattle.ld_term.specs.Tokens.{Token, equals, variable, name, Placed, tokens_of, tokens_from}
use Rattle.ld_term.specs.Grammar.{IsTermText, atom, IsTerm, IsDefinitionOf, Begins, IsFault, at_token, at_end}
use Rattle.ld_term.specs.Held.{token_from, IsPiece}
use Rattle.ld_term.specs.Refusals.{IsRefused}
use Rattle.ld_term.specs.declared.term_err.TermErr.{TermErr}
use Rattle.ld_term.specs.declared.term_err.TermErr.TheVariants.{Form, TooDeep, TooMany, Memory}
use Rattle.ld_term.specs.declared.token.Kind.{Kind}
use Rattle.ld_term.specs.declared.token.Kind.TheVariants as kinds
use Rattle.wb_base.proofs.PartLemmas.{first_is, rest_is, nil_cons}

-- Some term is defined.
abbrev pub Defines : List Token → Type 0
Defines tokens = (t : Written) × IsDefinitionOf tokens t

-- ---- The first two tokens ----

-- the definition of a name as the variable
simplest : (bytes : List ℕ) (place : ℕ) → Defines (name bytes place ∷ (equals ∷ (variable ∷ [])))
simplest bytes place =
    (leaf, (bytes, place, record { term = variable ∷ []; whole = refl; text = atom refl }))

-- nothing is no definition
pub fault-nothing
    : (placed : List Placed) (end : ℕ)
    → placed ≡ []
    → IsFault Defines placed end (end + 1)
fault-nothing placed end none =
    rw none (at_end (name [] 0 ∷ (equals ∷ (variable ∷ [])), simplest [] 0) (λ d. nil_cons d.1.2.whole) refl)

-- a definition begins with a name
pub fault-first
    : (placed after : List Placed) (p : Placed) (end : ℕ)
    → placed ≡ p ∷ after
    → ((bytes : List ℕ) (place : ℕ) → p.token ≡ name bytes place → ⊥)
    → IsFault Defines placed end p.place
fault-first placed after p end is other =
    at_token [] after p is (name [] 0 ∷ (equals ∷ (variable ∷ [])), simplest [] 0)
    (λ d. other d.1.1.0 d.1.1.1 (first_is d.1.1.2.whole)) refl

-- a definition goes on behind its name
pub fault-name
    : (placed : List Placed) (p : Placed) (bytes : List ℕ) (place end : ℕ)
    → placed ≡ p ∷ []
    → p.token ≡ name bytes place
    → IsFault Defines placed end (end + 1)
fault-name placed p bytes place end is called =
    rw is (at_end (equals ∷ (variable ∷ []), rw called (simplest bytes place))
    (λ d. nil_cons (rest_is d.1.2.whole)) refl)

-- behind a definition's name there is an equals sign
pub fault-second
    : (placed after : List Placed) (p q : Placed) (bytes : List ℕ) (place end : ℕ)
    → placed ≡ p ∷ (q ∷ after)
    → p.token ≡ name bytes place
    → (q.token ≡ equals → ⊥)
    → IsFault Defines placed end q.place
fault-second placed after p q bytes place end is called other =
    at_token (p ∷ []) after q is (equals ∷ (variable ∷ []), rw called (simplest bytes place))
    (λ d. other (first_is (rest_is d.1.1.2.whole))) refl

-- ---- The term ----

-- a definition of some term
defined
    : (bytes : List ℕ) (place : ℕ) (term : List Token) (t : Written)
    → IsTermText false term t
    → IsDefinitionOf (name bytes place ∷ (equals ∷ term)) t
defined bytes place term t text = (bytes, place, record { term = term; whole = refl; text = text })

-- what begins a term begins a definition behind a name and an equals sign
begins-defined
    : (bytes : List ℕ) (place : ℕ) (front : List Token)
    → Begins (IsTerm false) front
    → Begins Defines (name bytes place ∷ (equals ∷ front))
begins-defined bytes place front (rest, (t, text)) = (rest, (t, defined bytes place (front ++ rest) t text))

-- the term of a definition
term-of
    : (bytes : List ℕ) (place : ℕ) (term : List Token)
    → Defines (name bytes place ∷ (equals ∷ term))
    → IsTerm false term
term-of bytes place term (t, (other, at, d)) =
    (t, subst (λ w. IsTermText false w t) (sym (rest_is (rest_is d.whole))) d.text)

-- what begins a definition behind a name and an equals sign begins a term
begins-term
    : (bytes : List ℕ) (place : ℕ) (front : List Token)
    → Begins Defines (name bytes place ∷ (equals ∷ front))
    → Begins (IsTerm false) front
begins-term bytes place front (rest, d) = (rest, term-of bytes place (front ++ rest) d)

-- a fault of the term is one of the definition
fault-term
    : (placed : List Placed) (p q : Placed) (bytes : List ℕ) (place end at : ℕ)
    → p.token ≡ name bytes place
    → q.token ≡ equals
    → IsFault (IsTerm false) placed end at
    → IsFault Defines (p ∷ (q ∷ placed)) end at
fault-term placed p q bytes place end at called sign (at_token before after r is begins stops where_is) =
    at_token (p ∷ (q ∷ before)) after r (ap (λ rest. p ∷ (q ∷ rest)) is)
    (rw (called, sign) (begins-defined bytes place (tokens_of before) begins))
    (rw (called, sign) (λ d. stops (begins-term bytes place (tokens_of before ++ (r.token ∷ [])) d)))
    where_is
fault-term placed p q bytes place end at called sign (at_end begins none where_is) =
    at_end (rw (called, sign) (begins-defined bytes place (tokens_of placed) begins))
    (rw (called, sign) (λ d. none (term-of bytes place (tokens_of placed) d)))
    where_is

-- why the term isn't read is why the definition isn't
refused-term
    : (placed : List Placed) (p q : Placed) (bytes : List ℕ) (place end : ℕ) (e : TermErr)
    → p.token ≡ name bytes place
    → q.token ≡ equals
    → IsRefused (IsTermText false) placed end e
    → IsRefused IsDefinitionOf (p ∷ (q ∷ placed)) end e
refused-term placed p q bytes place end (Form at) called sign fault =
    fault-term placed p q bytes place end at called sign fault
refused-term placed p q bytes place end (TooDeep height) called sign (t, text, deep) =
    (t, rw (called, sign) (defined bytes place (tokens_of placed) t text), deep)
refused-term placed p q bytes place end (TooMany products) called sign (t, text, large) =
    (t, rw (called, sign) (defined bytes place (tokens_of placed) t text), large)
refused-term placed p q bytes place end Memory called sign free = tt

-- ---- Pieces ----

-- the token of a piece
abbrev pub piece_token : List ℕ → Kind → ℕ → ℕ → Placed
piece_token line kind first end =
    record { token = token_from kind (take (end - first) (drop first line)) (first + 1); place = first + 1 }

-- only a name is a name
pub other_name
    : (kind : Kind) (bytes : List ℕ) (place : ℕ)
    → (kind ≡ kinds.Name → ⊥)
    → (other : List ℕ) (at : ℕ)
    → token_from kind bytes place ≡ name other at
    → ⊥
other_name kinds.Open bytes place no_name other at e = cc
other_name kinds.Close bytes place no_name other at e = cc
other_name kinds.Star bytes place no_name other at e = cc
other_name kinds.Equals bytes place no_name other at e = cc
other_name kinds.Variable bytes place no_name other at e = cc
other_name kinds.Name bytes place no_name other at e = no_name refl
other_name kinds.Bad bytes place no_name other at e = cc

-- only an equals sign is one
pub other_equals
    : (kind : Kind) (bytes : List ℕ) (place : ℕ)
    → (kind ≡ kinds.Equals → ⊥)
    → token_from kind bytes place ≡ equals
    → ⊥
other_equals kinds.Open bytes place no_sign e = cc
other_equals kinds.Close bytes place no_sign e = cc
other_equals kinds.Star bytes place no_sign e = cc
other_equals kinds.Equals bytes place no_sign e = no_sign refl
other_equals kinds.Variable bytes place no_sign e = cc
other_equals kinds.Name bytes place no_sign e = cc
other_equals kinds.Bad bytes place no_sign e = cc

-- the first piece isn't a name
pub refused-first
    : (line : List ℕ) (kind : Kind) (first end : ℕ)
    → IsPiece false line 0 kind first end
    → (kind ≡ kinds.Name → ⊥)
    → IsFault Defines (tokens_from false 0 line) (length line) (first + 1)
refused-first line kind first end piece no_name =
    fault-first _ (tokens_from false end line) (piece_token line kind first end) (length line) piece.tokens
    (other_name kind _ _ no_name)

-- nothing stands behind the name
pub refused-name
    : (line : List ℕ) (kind : Kind) (first end : ℕ)
    → IsPiece false line 0 kind first end
    → kind ≡ kinds.Name
    → tokens_from false end line ≡ []
    → IsFault Defines (tokens_from false 0 line) (length line) (length line + 1)
refused-name line kind first end piece is none =
    fault-name _ (piece_token line kind first end) _ _ (length line)
    (piece.tokens ∙ ap (λ rest. piece_token line kind first end ∷ rest) none)
    (ap (λ k. token_from k (take (end - first) (drop first line)) (first + 1)) is)

-- the second piece isn't an equals sign
pub refused-second
    : (line : List ℕ) (kind : Kind) (first end : ℕ) (sign : Kind) (second last : ℕ)
    → IsPiece false line 0 kind first end
    → kind ≡ kinds.Name
    → IsPiece false line end sign second last
    → (sign ≡ kinds.Equals → ⊥)
    → IsFault Defines (tokens_from false 0 line) (length line) (second + 1)
refused-second line kind first end sign second last piece is next no_sign =
    fault-second _ (tokens_from false last line) (piece_token line kind first end)
    (piece_token line sign second last) _ _ (length line)
    (piece.tokens ∙ ap (λ rest. piece_token line kind first end ∷ rest) next.tokens)
    (ap (λ k. token_from k (take (end - first) (drop first line)) (first + 1)) is)
    (other_equals sign _ _ no_sign)

-- the term isn't read
pub refused-definition
    : (line : List ℕ) (kind : Kind) (first end : ℕ) (sign : Kind) (second last : ℕ) (e : TermErr)
    → IsPiece false line 0 kind first end
    → kind ≡ kinds.Name
    → IsPiece false line end sign second last
    → sign ≡ kinds.Equals
    → IsRefused (IsTermText false) (tokens_from false last line) (length line) e
    → IsRefused IsDefinitionOf (tokens_from false 0 line) (length line) e
refused-definition line kind first end sign second last e piece is next sign_is refused =
    subst (λ placed. IsRefused IsDefinitionOf placed (length line) e)
    (sym (piece.tokens ∙ ap (λ rest. piece_token line kind first end ∷ rest) next.tokens))
    (refused-term (tokens_from false last line) (piece_token line kind first end)
    (piece_token line sign second last) _ _ (length line) e
    (ap (λ k. token_from k (take (end - first) (drop first line)) (first + 1)) is)
    (ap (λ k. token_from k (take (last - second) (drop second line)) (second + 1)) sign_is)
    refused)
