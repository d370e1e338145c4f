-- A term file of which the first lines were read: what is due, and what the whole file makes.
use Rattle.std.proofs.Common.{◌≡◌, ℕ, ◌+◌, ◌<◌, ◌≤◌, ◌⊎◌, inl, inr, true, false, nat_lt, List, [], ◌∷◌, ◌++◌, length, map, Option, Some, None, refl, sym, ap, ◌∙◌, subst, append_assoc, append-nil, arith}
use Rattle.std.specs.List.{AllByRecursion}
use Rattle.std.specs.Map.{keys_of}
use Rattle.std.proofs.lemmas.Bool.{lt-ltb, le-ltb}
use Rattle.std.proofs.lemmas.List.{length-append}
use Rattle.std.proofs.lemmas.List.Elements.{recursion_from_All}
use Rattle.ld_term.specs.Terms.{Term}
use Rattle.term_graph.specs.TermLists.{term_at}
use Rattle.term_graph.specs.TermFiles.{Line, Due, due_lines, IsLineFault, IsSound, AreSound, IsFirstFault, terms_at, AreWithin, IsTermFile, IsFileRefusal, first_fault, too_high, too_large}
use Rattle.term_graph.specs.Readings.{IsMade, IsAnswer, Holds, IsReadTo, Defines, Closes, IsLimit}
use Rattle.term_graph.specs.declared.file_error.DefsErr.{DefsErr}
use Rattle.term_graph.specs.declared.file_error.DefsErr.TheVariants as file_errors
use Rattle.term_graph.specs.declared.term_file.Limit.{Limit}
use Rattle.term_graph.specs.declared.term_file.Limit.TheVariants.{Height, Nodes}
use Rattle.term_graph.specs.declared.term_file.Reading.{Reading}
use Rattle.term_graph.proofs.KeepLineLemmas.{AreSound-push, IsFirstFault-behind}

-- ---- The file ----

-- nothing was read of the file
pub IsReadTo-start
    : (terms : ℕ) (lines : List (List ℕ)) (reading : Reading)
    → Holds reading [] []
    → IsReadTo terms lines lines 0 reading []
IsReadTo-start terms lines reading holds = record {
  before = [];
  read = [];
  whole = refl;
  count = refl;
  left = omega arith;
  sound = tt;
  holds = holds;
}

-- a line that is to define a name
due-definition
    : (terms : ℕ) (bytes : List ℕ) (rest : List (List ℕ))
    → terms ≤ length rest
    → due_lines terms (bytes ∷ rest) ≡ record { defines = true; bytes = bytes } ∷ due_lines terms rest
due-definition terms bytes rest enough =
    let test : nat_lt (length rest) terms ≡ false = le-ltb (length rest) terms enough in
    rw test refl

-- a line that is to be a term
due-closing
    : (terms : ℕ) (bytes : List ℕ) (rest : List (List ℕ))
    → length rest < terms
    → due_lines terms (bytes ∷ rest) ≡ record { defines = false; bytes = bytes } ∷ due_lines terms rest
due-closing terms bytes rest few =
    let test : nat_lt (length rest) terms ≡ true = lt-ltb (length rest) terms few in
    rw test refl

-- one line more was read
IsReadTo-line
    : (terms k : ℕ) (lines rest : List (List ℕ)) (bytes : List ℕ) (line : Due) (old new : Reading)
    (numbers now : List ℕ) (r : Line)
    → IsReadTo terms lines (bytes ∷ rest) k old numbers
    → due_lines terms (bytes ∷ rest) ≡ line ∷ due_lines terms rest
    → IsSound (k + 1) (keys_of old.names) line r
    → ((read : List Line) → Holds old read numbers → Holds new (read ++ (r ∷ [])) now)
    → IsReadTo terms lines rest (k + 1) new now
IsReadTo-line terms k lines rest bytes line old new numbers now r so_far due sound holds = record {
  before = so_far.before ++ (line ∷ []);
  read = so_far.read ++ (r ∷ []);
  whole = so_far.whole ∙ ap (λ z. so_far.before ++ z) due
      ∙ sym (append_assoc so_far.before (line ∷ []) (due_lines terms rest));
  count = length-append so_far.before (line ∷ []) ∙ ap (λ z. z + 1) so_far.count;
  left = let whole = so_far.left in omega (arith, whole);
  sound =
      let number : k + 1 ≡ 1 + length so_far.before = let count = so_far.count in omega (arith, count) in
      AreSound-push 1 [] so_far.before so_far.read line r so_far.sound
      (subst (λ z. IsSound (1 + length so_far.before) z line r) so_far.holds.known
      (subst (λ z. IsSound z (keys_of old.names) line r) number sound));
  holds = holds so_far.read so_far.holds;
}

-- a line was read that defines a name
pub IsReadTo-definition
    : (terms k : ℕ) (lines rest : List (List ℕ)) (bytes : List ℕ) (old new : Reading) (numbers : List ℕ)
    (r : Line)
    → IsReadTo terms lines (bytes ∷ rest) k old numbers
    → terms ≤ length rest
    → Defines (k + 1) bytes old new r
    → IsReadTo terms lines rest (k + 1) new numbers
IsReadTo-definition terms k lines rest bytes old new numbers r so_far enough defines =
    IsReadTo-line terms k lines rest bytes (record { defines = true; bytes = bytes }) old new numbers numbers
    r so_far
    (due-definition terms bytes rest enough) defines.sound (λ read. defines.holds read numbers)

-- a line was read that is a term
pub IsReadTo-closing
    : (terms k : ℕ) (lines rest : List (List ℕ)) (bytes : List ℕ) (old new : Reading) (numbers : List ℕ)
    (r : Line) (n : ℕ)
    → IsReadTo terms lines (bytes ∷ rest) k old numbers
    → length rest < terms
    → Closes (k + 1) bytes old new r n
    → IsReadTo terms lines rest (k + 1) new (numbers ++ (n ∷ []))
IsReadTo-closing terms k lines rest bytes old new numbers r n so_far few closes =
    IsReadTo-line terms k lines rest bytes (record { defines = false; bytes = bytes }) old new numbers
    (numbers ++ (n ∷ [])) r so_far
    (due-closing terms bytes rest few) closes.sound (λ read. closes.holds read numbers)

-- the next line has a fault, and is the first
IsReadTo-fault
    : (terms k : ℕ) (lines rest : List (List ℕ)) (bytes : List ℕ) (line : Due) (old : Reading)
    (numbers : List ℕ) (e : DefsErr)
    → IsReadTo terms lines (bytes ∷ rest) k old numbers
    → terms ≤ length lines
    → due_lines terms (bytes ∷ rest) ≡ line ∷ due_lines terms rest
    → IsLineFault (k + 1) (keys_of old.names) line e
    → IsFileRefusal terms lines e
IsReadTo-fault terms k lines rest bytes line old numbers e so_far enough due fault =
    let number : k + 1 ≡ 1 + length so_far.before = let count = so_far.count in omega (arith, count) in
    first_fault enough
    (subst (λ z. IsFirstFault 1 [] z e) (sym (so_far.whole ∙ ap (λ z. so_far.before ++ z) due))
    (IsFirstFault-behind 1 [] so_far.before so_far.read line (due_lines terms rest) e so_far.sound
    (subst (λ z. IsLineFault (1 + length so_far.before) z line e) so_far.holds.known
    (subst (λ z. IsLineFault z (keys_of old.names) line e) number fault))))

-- a line that is to define a name has the first fault
pub definition-fault
    : (terms k : ℕ) (lines rest : List (List ℕ)) (bytes : List ℕ) (old : Reading) (numbers : List ℕ)
    (e : DefsErr)
    → IsReadTo terms lines (bytes ∷ rest) k old numbers
    → terms ≤ length rest
    → (e ≡ file_errors.Memory)
    ⊎ IsLineFault (k + 1) (keys_of old.names) (record { defines = true; bytes = bytes }) e
    → (e ≡ file_errors.Memory) ⊎ IsFileRefusal terms lines e
definition-fault terms k lines rest bytes old numbers e so_far enough (inl memory) = inl memory
definition-fault terms k lines rest bytes old numbers e so_far enough (inr fault) =
    let whole = so_far.left in
    inr (IsReadTo-fault terms k lines rest bytes _ old numbers e so_far (omega (arith, whole))
    (due-definition terms bytes rest enough) fault)

-- a line that is to be a term has the first fault
pub closing-fault
    : (terms k : ℕ) (lines rest : List (List ℕ)) (bytes : List ℕ) (old : Reading) (numbers : List ℕ)
    (e : DefsErr)
    → IsReadTo terms lines (bytes ∷ rest) k old numbers
    → terms ≤ length lines
    → length rest < terms
    → (e ≡ file_errors.Memory)
    ⊎ IsLineFault (k + 1) (keys_of old.names) (record { defines = false; bytes = bytes }) e
    → (e ≡ file_errors.Memory) ⊎ IsFileRefusal terms lines e
closing-fault terms k lines rest bytes old numbers e so_far enough few (inl memory) = inl memory
closing-fault terms k lines rest bytes old numbers e so_far enough few (inr fault) =
    inr (IsReadTo-fault terms k lines rest bytes _ old numbers e so_far enough
    (due-closing terms bytes rest few) fault)

-- all lines were read
IsReadTo-sound
    : (terms k : ℕ) (lines : List (List ℕ)) (reading : Reading) (numbers : List ℕ)
    → (so_far : IsReadTo terms lines [] k reading numbers)
    → AreSound 1 [] (due_lines terms lines) so_far.read
IsReadTo-sound terms k lines reading numbers so_far =
    subst (λ z. AreSound 1 [] z so_far.read) (sym (so_far.whole ∙ append-nil so_far.before)) so_far.sound

-- the numbers of a file's terms
abbrev pub numbers_of : ℕ → Option ℕ → List ℕ
numbers_of first None = first ∷ []
numbers_of first (Some second) = first ∷ (second ∷ [])

-- they stand for their terms
terms_at-numbers
    : (graph : List Term) (first : ℕ) (second : Option ℕ)
    → map (term_at graph) (numbers_of first second) ≡ terms_at graph first second
terms_at-numbers graph first None = refl
terms_at-numbers graph first (Some second) = refl

-- they are numbers of the graph
AreWithin-numbers
    : (graph : List Term) (first : ℕ) (second : Option ℕ)
    → AllByRecursion (λ n. n < length graph) (numbers_of first second)
    → AreWithin graph first second
AreWithin-numbers graph first None within = within.0
AreWithin-numbers graph first (Some second) within = (within.0, within.1.0)

-- no product was refused
pub file-made
    : (terms k : ℕ) (lines : List (List ℕ)) (reading : Reading) (first : ℕ) (second : Option ℕ)
    → terms ≤ length lines
    → IsReadTo terms lines [] k reading (numbers_of first second)
    → reading.limit ≡ None
    → IsTermFile terms lines reading.graph first second
file-made terms k lines reading first second enough so_far none =
    let made : IsMade reading.graph reading.names so_far.read (numbers_of first second) =
    subst (λ z. IsAnswer z reading.graph reading.names so_far.read (numbers_of first second)) none
    so_far.holds.answer in
    record {
      read = so_far.read;
      enough = enough;
      sound = IsReadTo-sound terms k lines reading (numbers_of first second) so_far;
      asked = made.asked;
      last = sym made.last ∙ terms_at-numbers reading.graph first second;
      within = AreWithin-numbers reading.graph first second
          (recursion_from_All (λ n. n < length reading.graph) (numbers_of first second) made.within);
    }

-- a product was refused
pub file-refused
    : (terms k : ℕ) (lines : List (List ℕ)) (reading : Reading) (numbers : List ℕ) (e : DefsErr)
    → terms ≤ length lines
    → IsReadTo terms lines [] k reading numbers
    → IsLimit reading.limit e
    → IsFileRefusal terms lines e
file-refused terms k lines reading numbers e enough so_far refused =
    by_limit reading.limit so_far.holds.answer refused
  where
    by_limit : (limit : Option Limit)
        → IsAnswer limit reading.graph reading.names so_far.read numbers
        → IsLimit limit e
        → IsFileRefusal terms lines e
    by_limit None answer is = absurd is
    by_limit (Some Height) answer is =
        too_high so_far.read enough (IsReadTo-sound terms k lines reading numbers so_far) answer is
    by_limit (Some Nodes) answer is =
        too_large so_far.read enough (IsReadTo-sound terms k lines reading numbers so_far) answer is
