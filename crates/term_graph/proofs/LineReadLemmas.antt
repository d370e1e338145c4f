-- What is read of one line: what it says, or its fault.
use Rattle.std.proofs.Common.{◌≡◌, ℕ, ◌⊎◌, inl, inr, true, false, cond, nat_lt, List, length, Some, None, is_some, refl, ap, ◌∙◌}
use Rattle.std.specs.Map.{keys_of}
use Rattle.std.proofs.lemmas.Bool.{lt-ltb, le-ltb}
use Rattle.ld_term.specs.Written.{Written, written_height, written_products}
use Rattle.ld_term.specs.Tokens.{Token}
use Rattle.ld_term.specs.Grammar.{IsTermText, IsDefinitionOf}
use Rattle.ld_term.specs.Refusals.{IsSmall, IsTooDeep, IsTooLarge, IsRefused}
use Rattle.ld_term.specs.declared.TheConstants.{MAX_HEIGHT, MAX_PRODUCTS}
use Rattle.ld_term.specs.declared.term_err.TermErr.{TermErr}
use Rattle.ld_term.specs.declared.term_err.TermErr.TheVariants as term_errors
use Rattle.term_graph.specs.NameLists.{number_of}
use Rattle.term_graph.specs.Requests.{is_known, first_unknown}
use Rattle.term_graph.specs.TermFiles.{Line, definition, closing, line_term, Due, IsLineText, line_tokens, Says, size_fault, twice_fault, IsLineFault, unread, faulty, IsSound}
use Rattle.term_graph.specs.Readings.{fault_at}
use Rattle.term_graph.specs.declared.file_error.DefsErr.{DefsErr}
use Rattle.term_graph.specs.declared.file_error.DefsErr.TheVariants.{TooDeep, TooMany, Twice, Unknown, Memory}
use Rattle.ld_term.proofs.FaultLemmas.{fault-same}
use Rattle.term_graph.proofs.RequestLemmas.{is_known-number}

-- ---- Sizes ----

-- a term within the bounds has no fault of size
size_fault-none : (k : ℕ) (t : Written) → IsSmall t → size_fault k t ≡ None
size_fault-none k t small =
    let low : nat_lt MAX_HEIGHT (written_height t) ≡ false = le-ltb _ _ small.low in
    let few : nat_lt MAX_PRODUCTS (written_products t) ≡ false = le-ltb _ _ small.few in
    simp (low, few)

-- the fault of a term that is too high
size_fault-deep : (k height : ℕ) (t : Written) → IsTooDeep t height → size_fault k t ≡ Some (TooDeep k height)
size_fault-deep k height t deep =
    let high : nat_lt MAX_HEIGHT (written_height t) ≡ true = lt-ltb _ _ deep.above in
    simp (high, deep.is)

-- the fault of a term that has too many products
size_fault-many
    : (k products : ℕ) (t : Written)
    → IsTooLarge t products
    → size_fault k t ≡ Some (TooMany k products)
size_fault-many k products t large =
    let low : nat_lt MAX_HEIGHT (written_height t) ≡ false = le-ltb _ _ large.low in
    let many : nat_lt MAX_PRODUCTS (written_products t) ≡ true = lt-ltb _ _ large.above in
    simp (low, many, large.is)

-- ---- What a line says ----

module _ (k : ℕ) (names : List (List ℕ)) (line : Due) (r : Line) (says : Says line r) where
  -- a line without faults is sound
  pub line-sound
      : IsSmall (line_term r)
      → twice_fault k names r ≡ None
      → first_unknown names (line_term r) ≡ None
      → IsSound k names line r
  line-sound small once known = record {
    says = says;
    none = rw (size_fault-none k (line_term r) small, once, known) refl;
  }

  -- a line whose term is too high
  pub line-deep : (height : ℕ) → IsTooDeep (line_term r) height → IsLineFault k names line (TooDeep k height)
  line-deep height deep = faulty r says (rw (size_fault-deep k height (line_term r) deep) refl)

  -- a line whose term has too many products
  pub line-many
      : (products : ℕ)
      → IsTooLarge (line_term r) products
      → IsLineFault k names line (TooMany k products)
  line-many products large = faulty r says (rw (size_fault-many k products (line_term r) large) refl)

  -- a line that defines a name again
  pub line-twice
      : (e : DefsErr)
      → IsSmall (line_term r)
      → twice_fault k names r ≡ Some e
      → IsLineFault k names line e
  line-twice e small twice = faulty r says (rw (size_fault-none k (line_term r) small, twice) refl)

  -- a line with an unknown name
  pub line-unknown
      : (place : ℕ)
      → IsSmall (line_term r)
      → twice_fault k names r ≡ None
      → first_unknown names (line_term r) ≡ Some place
      → IsLineFault k names line (Unknown k place)
  line-unknown place small once unknown =
      faulty r says (rw (size_fault-none k (line_term r) small, once, unknown) refl)

-- ---- Definitions ----

-- a name with a number is defined again
pub twice-some
    : (k : ℕ) (names : List (List ℕ × ℕ)) (name : List ℕ) (place : ℕ) (t : Written)
    → is_some (number_of name names) ≡ true
    → twice_fault k (keys_of names) (definition name place t) ≡ Some (Twice k place)
twice-some k names name place t there =
    let known : is_known name (keys_of names) ≡ true = is_known-number name names ∙ there in
    ap (λ b. cond b (Some (Twice k place)) None) known

-- a name without a number isn't
pub twice-none
    : (k : ℕ) (names : List (List ℕ × ℕ)) (name : List ℕ) (place : ℕ) (t : Written)
    → is_some (number_of name names) ≡ false
    → twice_fault k (keys_of names) (definition name place t) ≡ None
twice-none k names name place t there =
    let known : is_known name (keys_of names) ≡ false = is_known-number name names ∙ there in
    ap (λ b. cond b (Some (Twice k place)) None) known

-- ---- Lines that aren't read ----

-- a line that isn't read as a definition has that fault
pub definition-refused
    : (k : ℕ) (names : List (List ℕ)) (bytes : List ℕ) (e : TermErr)
    → IsRefused IsDefinitionOf (line_tokens (record { defines = true; bytes = bytes })) (length bytes) e
    → (fault_at k e ≡ Memory) ⊎ IsLineFault k names (record { defines = true; bytes = bytes }) (fault_at k e)
definition-refused k names bytes (term_errors.Form place) fault =
    inr (unread place (fault-same (λ tokens. (t : Written) × IsDefinitionOf tokens t)
    (λ tokens. (r : Line) × IsLineText true tokens r) _ _ place there back fault) refl)
  where
    there
        : (tokens : List Token)
        → (t : Written) × IsDefinitionOf tokens t
        → (r : Line) × IsLineText true tokens r
    there tokens (t, (name, at, text)) = (definition name at t, text)

    back
        : (tokens : List Token)
        → (r : Line) × IsLineText true tokens r
        → (t : Written) × IsDefinitionOf tokens t
    back tokens (definition name at t, text) = (t, (name, at, text))
    back tokens (closing t, text) = absurd text
definition-refused k names bytes (term_errors.TooDeep height) (t, (name, at, text), deep) =
    inr (line-deep k names (record { defines = true; bytes = bytes }) (definition name at t) text height deep)
definition-refused k names bytes (term_errors.TooMany products) (t, (name, at, text), large) =
    inr (line-many k names (record { defines = true; bytes = bytes }) (definition name at t) text products
    large)
definition-refused k names bytes term_errors.Memory is = inl refl

-- and a line that isn't read as a term
pub term-refused
    : (k : ℕ) (names : List (List ℕ)) (bytes : List ℕ) (e : TermErr)
    → IsRefused (IsTermText false) (line_tokens (record { defines = false; bytes = bytes })) (length bytes) e
    → (fault_at k e ≡ Memory) ⊎ IsLineFault k names (record { defines = false; bytes = bytes }) (fault_at k e)
term-refused k names bytes (term_errors.Form place) fault =
    inr (unread place (fault-same (λ tokens. (t : Written) × IsTermText false tokens t)
    (λ tokens. (r : Line) × IsLineText false tokens r) _ _ place there back fault) refl)
  where
    there
        : (tokens : List Token)
        → (t : Written) × IsTermText false tokens t
        → (r : Line) × IsLineText false tokens r
    there tokens (t, text) = (closing t, text)

    back
        : (tokens : List Token)
        → (r : Line) × IsLineText false tokens r
        → (t : Written) × IsTermText false tokens t
    back tokens (definition name at t, text) = absurd text
    back tokens (closing t, text) = (t, text)
term-refused k names bytes (term_errors.TooDeep height) (t, text, deep) =
    inr (line-deep k names (record { defines = false; bytes = bytes }) (closing t) text height deep)
term-refused k names bytes (term_errors.TooMany products) (t, text, large) =
    inr (line-many k names (record { defines = false; bytes = bytes }) (closing t) text products large)
term-refused k names bytes term_errors.Memory is = inl refl
