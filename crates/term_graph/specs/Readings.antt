-- What the reader of a term file keeps behind some of its lines. No public clause cites it.
--
--   names_after names read            the names that are known behind these lines
--   terms_after terms read            the names and their terms behind these lines
--   Keeps graph names limit read numbers
--                                     the graph, the names and the refusal are those behind these lines, of
--                                     which the terms without names have these numbers
--   Holds reading read numbers        the reader keeps them
--   IsReadTo terms lines rest k reading numbers
--                                     k lines were read, and these lines are left
--   fault_at k error                  the fault of line k, which isn't read for this
--   IsEntered old names limit t new now n
--                                     a term was entered under this number, or none behind a refused product
--   Defines, Closes                   line k was read, which defines a name, or is a term of this number
--   IsLimit limit error               the file is refused for the product that was refused
use Rattle.std.specs.Prelude.{◌≡◌, ℕ, ◌+◌, ◌<◌, true, false, List, [], ◌∷◌, ◌++◌, length, map, All, Option, Some, None}
use Rattle.std.specs.Map.{keys_of}
use Rattle.ld_term.specs.Terms.{Term, variable}
use Rattle.ld_term.specs.Written.{Written}
use Rattle.ld_term.specs.declared.term_err.TermErr.{TermErr}
use Rattle.ld_term.specs.declared.term_err.TermErr.TheVariants as term_errors
use Rattle.term_graph.specs.TermLists.{term_at}
use Rattle.term_graph.specs.Asks.{answered, too_deep, full, ask_all}
use Rattle.term_graph.specs.Requests.{meaning, text_requests, named_terms, IsFront}
use Rattle.term_graph.specs.TermFiles.{Line, Due, due_lines, IsSound, names_behind, AreSound, terms_behind, file_requests, last_terms}
use Rattle.term_graph.specs.declared.file_error.DefsErr.{DefsErr}
use Rattle.term_graph.specs.declared.file_error.DefsErr.TheVariants.{Form, TooDeep, TooMany, Memory}
use Rattle.term_graph.specs.declared.file_error.DefsErr.TheVariants as file_errors
use Rattle.term_graph.specs.declared.term_file.Limit.{Limit}
use Rattle.term_graph.specs.declared.term_file.Limit.TheVariants.{Height, Nodes}
use Rattle.term_graph.specs.declared.term_file.Reading.{Reading}

-- The names that are known behind the lines.
abbrev pub names_after : List (List ℕ) → List Line → List (List ℕ)
names_after names [] = names
names_after names (r ∷ read) = names_after (names_behind names r) read

-- The names and their terms behind the lines.
abbrev pub terms_after : List (List ℕ × Term) → List Line → List (List ℕ × Term)
terms_after terms [] = terms
terms_after terms (r ∷ read) = terms_after (terms_behind terms r) read

-- All products were granted: this graph is made, in which the names and the last terms have these numbers.
pub record IsMade (graph : List Term) (names : List (List ℕ × ℕ)) (read : List Line) (numbers : List ℕ) : Type
    0 where
  pub asked : ask_all (answered (variable ∷ [])) (file_requests [] read) ≡ answered graph
  pub terms : named_terms graph names ≡ terms_after [] read
  pub last : map (term_at graph) numbers ≡ last_terms [] read
  pub within : All (λ n. n < length graph) numbers

-- The products were granted; or one was refused, for its height or because there are too many.
abbrev pub IsAnswer : Option Limit → List Term → List (List ℕ × ℕ) → List Line → List ℕ → Type 0
IsAnswer None graph names read numbers = IsMade graph names read numbers
IsAnswer (Some Height) graph names read numbers =
    ask_all (answered (variable ∷ [])) (file_requests [] read) ≡ too_deep
IsAnswer (Some Nodes) graph names read numbers =
    ask_all (answered (variable ∷ [])) (file_requests [] read) ≡ full

-- What is kept behind the lines.
pub record Keeps (graph : List Term) (names : List (List ℕ × ℕ)) (limit : Option Limit) (read : List Line)
    (numbers : List ℕ) : Type 0 where
  pub known : keys_of names ≡ names_after [] read
  pub within : All (λ own. own.1 < length graph) names
  pub answer : IsAnswer limit graph names read numbers

-- The reader keeps it.
abbrev pub Holds : Reading → List Line → List ℕ → Type 0
Holds reading read numbers = Keeps reading.graph reading.names reading.limit read numbers

-- So many lines were read, of which the terms have these numbers, and these lines are left.
pub record IsReadTo (terms : ℕ) (lines rest : List (List ℕ)) (k : ℕ) (reading : Reading)
    (numbers : List ℕ) : Type 0 where
  pub before : List Due
  pub read : List Line
  pub whole : due_lines terms lines ≡ before ++ due_lines terms rest
  pub count : length before ≡ k
  pub left : k + length rest ≡ length lines
  pub sound : AreSound 1 [] before read
  pub holds : Holds reading read numbers

-- ---- Steps of the reader ----

-- The fault of line k, which isn't read for this.
abbrev pub fault_at : ℕ → TermErr → DefsErr
fault_at k (term_errors.Form place) = Form k place
fault_at k (term_errors.TooDeep height) = TooDeep k height
fault_at k (term_errors.TooMany products) = TooMany k products
fault_at k term_errors.Memory = Memory

-- A term was entered: its products were granted, and this is its number; or one was refused.
abbrev pub IsEnteredTo : Option Limit → List Term → List (List ℕ × ℕ) → Written → List Term → ℕ → Type 0
IsEnteredTo None old names t new n =
    (ask_all (answered old) (text_requests (named_terms old names) t) ≡ answered new)
    × (term_at new n ≡ meaning (named_terms old names) t)
IsEnteredTo (Some Height) old names t new n =
    ask_all (answered old) (text_requests (named_terms old names) t) ≡ too_deep
IsEnteredTo (Some Nodes) old names t new n =
    ask_all (answered old) (text_requests (named_terms old names) t) ≡ full

-- A term was entered, or none is behind a refused product.
abbrev pub IsEnteredFrom : Option Limit → List Term → List (List ℕ × ℕ) → Written → List Term → Option Limit
    → ℕ → Type 0
IsEnteredFrom None old names t new limit n = IsEnteredTo limit old names t new n
IsEnteredFrom (Some why) old names t new limit n = limit ≡ Some why

-- A term was entered, and its number is one of the graph, which has grown at most.
pub record IsEntered (old : List Term) (names : List (List ℕ × ℕ)) (limit : Option Limit) (t : Written)
    (new : List Term) (now : Option Limit) (n : ℕ) : Type 0 where
  pub answer : IsEnteredFrom limit old names t new now n
  pub kept : IsFront old new
  pub within : n < length new

-- A line was read that defines a name.
pub record Defines (k : ℕ) (bytes : List ℕ) (old new : Reading) (r : Line) : Type 0 where
  pub sound : IsSound k (keys_of old.names) (record { defines = true; bytes = bytes }) r
  pub holds
      : (read : List Line) (numbers : List ℕ)
      → Holds old read numbers
      → Holds new (read ++ (r ∷ [])) numbers

-- A line was read that is a term, and this is its number.
pub record Closes (k : ℕ) (bytes : List ℕ) (old new : Reading) (r : Line) (n : ℕ) : Type 0 where
  pub sound : IsSound k (keys_of old.names) (record { defines = false; bytes = bytes }) r
  pub holds
      : (read : List Line) (numbers : List ℕ)
      → Holds old read numbers
      → Holds new (read ++ (r ∷ [])) (numbers ++ (n ∷ []))

-- The file is refused for the product that was refused.
abbrev pub IsLimit : Option Limit → DefsErr → Type 0
IsLimit None error = ⊥
IsLimit (Some Height) error = error ≡ file_errors.Height
IsLimit (Some Nodes) error = error ≡ file_errors.Nodes
