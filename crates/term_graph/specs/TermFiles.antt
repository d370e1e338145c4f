-- Term files: what their lines say, their first fault, and what they ask of a graph.
--
-- The last one or two lines are terms, as many as are asked for, and the lines before them define names. A
-- line has a fault where it leaves the grammar, has a term that is too high or has too many products, defines
-- a name again, or has a name that no earlier line defines; its faults come in this order, and the first line
-- with a fault decides. Where no line has one, the products of all lines are asked of a new graph, line by
-- line, and the first that is refused decides.
-- Source: this project's own.
--
--   Line                                 what a line says: a name and its term, or a term
--   Due                                  a line, and whether it is to define a name
--   due_lines terms lines                the lines of a file in which this many terms are asked for
--   line_fault k names r                 the fault of line k, which says r, under the names that are known
--   IsLineFault k names line error       the fault of line k, which may also leave the grammar
--   IsSound k names line r               line k says r and has no fault
--   AreSound k names lines read          the lines from line k on say this, and have no fault
--   IsFirstFault k names lines error     the fault of the first line with one, from line k on
--   file_requests terms read             the products that the lines ask for
--   last_terms terms read                the terms that the last lines stand for
--   IsTermFile terms lines made first second
--                                        the file has no fault, and its terms have these numbers in the graph
--   IsFileRefusal terms lines error          the file is refused for this
use Rattle.std.specs.Prelude.{◌≡◌, ℕ, ◌+◌, ◌<◌, ◌≤◌, ◌⊎◌, nat_lt, not, Bool, true, false, if◌then◌else◌, List, [], ◌∷◌, ◌++◌, length, Option, Some, None}
use Rattle.std.specs.Option.{option_or, option_map}
use Rattle.ld_term.specs.Terms.{Term, variable}
use Rattle.ld_term.specs.Written.{Written, written_height, written_products}
use Rattle.ld_term.specs.Tokens.{Token, Placed, tokens_of, tokens_from}
use Rattle.ld_term.specs.Grammar.{IsTermText, IsDefinitionText, IsFault}
use Rattle.ld_term.specs.declared.TheConstants.{MAX_HEIGHT, MAX_PRODUCTS}
use Rattle.term_graph.specs.Asks.{answered, too_deep, full, ask_all}
use Rattle.term_graph.specs.TermLists.{term_at}
use Rattle.term_graph.specs.Requests.{is_known, first_unknown, meaning, text_requests}
use Rattle.term_graph.specs.declared.file_error.DefsErr.{DefsErr}
use Rattle.term_graph.specs.declared.file_error.DefsErr.TheVariants.{Lines, Form, TooDeep, TooMany, Twice, Unknown, Height, Nodes}

-- ---- Lines ----

-- What a line says: a definition, with the place of its name, or one of the last terms.
pub data Line : Type 0 where
  definition : (name : List ℕ) → (place : ℕ) → (t : Written) → Line
  closing : (t : Written) → Line

-- The term of a line.
abbrev pub line_term : Line → Written
line_term (definition name place t) = t
line_term (closing t) = t

-- A line, and whether it is to define a name.
pub record Due : Type 0 where
  pub defines : Bool
  pub bytes : List ℕ

-- The lines of a file: those with fewer lines behind them than terms are asked for are terms.
abbrev pub due_lines : ℕ → List (List ℕ) → List Due
due_lines terms [] = []
due_lines terms (bytes ∷ lines) =
    record { defines = not (nat_lt (length lines) terms); bytes = bytes } ∷ due_lines terms lines

-- The tokens are a text of what the line says.
abbrev pub IsLineText : Bool → List Token → Line → Type 0
IsLineText true tokens (definition name place t) = IsDefinitionText tokens name place t
IsLineText false tokens (closing t) = IsTermText false tokens t
IsLineText true tokens (closing t) = ⊥
IsLineText false tokens (definition name place t) = ⊥

-- The tokens of a line.
abbrev pub line_tokens : Due → List Placed
line_tokens line = tokens_from false 0 line.bytes

-- The line says this.
abbrev pub Says : Due → Line → Type 0
Says line r = IsLineText line.defines (tokens_of (line_tokens line)) r

-- ---- Faults of a line ----

-- The term is too high; or it isn't, and has too many products.
abbrev pub size_fault : ℕ → Written → Option DefsErr
size_fault k t =
    if nat_lt MAX_HEIGHT (written_height t) then Some (TooDeep k (written_height t))
    else (if nat_lt MAX_PRODUCTS (written_products t) then Some (TooMany k (written_products t)) else None)

-- The line defines a name that is known.
abbrev pub twice_fault : ℕ → List (List ℕ) → Line → Option DefsErr
twice_fault k names (definition name place t) = if is_known name names then Some (Twice k place) else None
twice_fault k names (closing t) = None

-- The fault of line k, which says this: that of its size, a name that is defined again, and last a name that
-- isn't known.
abbrev pub line_fault : ℕ → List (List ℕ) → Line → Option DefsErr
line_fault k names r =
    option_or (size_fault k (line_term r))
    (option_or (twice_fault k names r) (option_map (Unknown k) (first_unknown names (line_term r))))

-- The fault of line k: it leaves the grammar, or what it says has one.
pub data IsLineFault (k : ℕ) (names : List (List ℕ)) (line : Due) (error : DefsErr) : Type 0 where
  unread
      : (place : ℕ)
      → IsFault (λ tokens. (r : Line) × IsLineText line.defines tokens r) (line_tokens line)
      (length line.bytes) place
      → error ≡ Form k place → IsLineFault k names line error
  faulty : (r : Line) → Says line r → line_fault k names r ≡ Some error → IsLineFault k names line error

-- Line k says this, and has no fault.
pub record IsSound (k : ℕ) (names : List (List ℕ)) (line : Due) (r : Line) : Type 0 where
  pub says : Says line r
  pub none : line_fault k names r ≡ None

-- ---- The lines one after the other ----

-- The names that are known behind a line.
abbrev pub names_behind : List (List ℕ) → Line → List (List ℕ)
names_behind names (definition name place t) = names ++ (name ∷ [])
names_behind names (closing t) = names

-- The lines from line k on say this, and none has a fault.
abbrev pub AreSound : ℕ → List (List ℕ) → List Due → List Line → Type 0
AreSound k names [] [] = Unit {0}
AreSound k names (line ∷ lines) (r ∷ read) =
    IsSound k names line r × AreSound (k + 1) (names_behind names r) lines read
AreSound k names [] (r ∷ read) = ⊥
AreSound k names (line ∷ lines) [] = ⊥

-- The fault of the first line with one: of line k, or of one behind it where line k has none.
abbrev pub IsFirstFault : ℕ → List (List ℕ) → List Due → DefsErr → Type 0
IsFirstFault k names [] error = ⊥
IsFirstFault k names (line ∷ lines) error =
    IsLineFault k names line error
    ⊎ ((r : Line) × IsSound k names line r × IsFirstFault (k + 1) (names_behind names r) lines error)

-- ---- What a file asks for ----

-- The names and their terms behind a line.
abbrev pub terms_behind : List (List ℕ × Term) → Line → List (List ℕ × Term)
terms_behind terms (definition name place t) = terms ++ ((name, meaning terms t) ∷ [])
terms_behind terms (closing t) = terms

-- The products that the lines ask for, line by line.
abbrev pub file_requests : List (List ℕ × Term) → List Line → List Term
file_requests terms [] = []
file_requests terms (r ∷ read) =
    text_requests terms (line_term r) ++ file_requests (terms_behind terms r) read

-- The terms that the lines without a name stand for.
abbrev pub last_terms : List (List ℕ × Term) → List Line → List Term
last_terms terms [] = []
last_terms terms (definition name place t ∷ read) =
    last_terms (terms_behind terms (definition name place t)) read
last_terms terms (closing t ∷ read) = meaning terms t ∷ last_terms terms read

-- ---- Whole files ----

-- The terms of one number or of two.
abbrev pub terms_at : List Term → ℕ → Option ℕ → List Term
terms_at made first None = term_at made first ∷ []
terms_at made first (Some second) = term_at made first ∷ (term_at made second ∷ [])

-- The numbers are numbers of the graph.
abbrev pub AreWithin : List Term → ℕ → Option ℕ → Type 0
AreWithin made first None = first < length made
AreWithin made first (Some second) = (first < length made) × (second < length made)

-- No line has a fault and no product is refused: this graph is made, in which the last terms have these
-- numbers.
pub record IsTermFile (terms : ℕ) (lines : List (List ℕ)) (made : List Term) (first : ℕ)
    (second : Option ℕ) : Type 0 where
  pub read : List Line
  pub enough : terms ≤ length lines
  pub sound : AreSound 1 [] (due_lines terms lines) read
  pub asked : ask_all (answered (variable ∷ [])) (file_requests [] read) ≡ answered made
  pub last : last_terms [] read ≡ terms_at made first second
  pub within : AreWithin made first second

-- Why a file is refused: it has too few lines, a line has a fault, or the first product that is refused is
-- too high or one too many.
pub data IsFileRefusal (terms : ℕ) (lines : List (List ℕ)) (error : DefsErr) : Type 0 where
  few : length lines < terms → error ≡ Lines (length lines + 1) → IsFileRefusal terms lines error
  first_fault
      : terms ≤ length lines
      → IsFirstFault 1 [] (due_lines terms lines) error
      → IsFileRefusal terms lines error
  too_high : (read : List Line) → terms ≤ length lines → AreSound 1 [] (due_lines terms lines) read
      → ask_all (answered (variable ∷ [])) (file_requests [] read) ≡ too_deep → error ≡ Height
      → IsFileRefusal terms lines error
  too_large : (read : List Line) → terms ≤ length lines → AreSound 1 [] (due_lines terms lines) read
      → ask_all (answered (variable ∷ [])) (file_requests [] read) ≡ full → error ≡ Nodes
      → IsFileRefusal terms lines error
