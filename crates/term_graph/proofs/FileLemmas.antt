-- A term file has one reading or one refusal, and not both.
use Rattle.std.proofs.Common.{◌≡◌, ℕ, ◌+◌, ◌⊎◌, inl, inr, Bool, true, false, List, [], ◌∷◌, Option, Result, Ok, Err, IsErr, IsErrOf, IfOk, IfErr, refl, sym, ap, ◌∙◌, subst, arith}
use Rattle.std.proofs.lemmas.Bool.{true≢false}
use Rattle.std.proofs.lemmas.Option.{none-some}
use Rattle.ld_term.specs.Terms.{Term, variable}
use Rattle.ld_term.specs.Written.{Written}
use Rattle.ld_term.specs.Tokens.{Token, name, equals}
use Rattle.ld_term.specs.Grammar.{IsTermText, IsDefinitionText}
use Rattle.wb_base.proofs.PartLemmas.{Some-injective}
use Rattle.ld_term.proofs.ReadingLemmas.{text-unique}
use Rattle.ld_term.proofs.LawLemmas.{fault-none}
use Rattle.term_graph.specs.Asks.{Asked, answered, too_deep, full, ask_all}
use Rattle.term_graph.specs.TermFiles.{Line, definition, closing, Due, IsLineText, line_fault, IsLineFault, unread, faulty, IsSound, names_behind, AreSound, IsFirstFault, file_requests, IsTermFile, IsFileRefusal, few, first_fault, too_high, too_large, last_terms, terms_at}
use Rattle.term_graph.specs.declared.file_error.DefsErr.{DefsErr}
use Rattle.term_graph.specs.declared.file_error.DefsErr.TheVariants.{Form, Memory}
use Rattle.ld_term.proofs.FaultLemmas.{fault-unique}

-- ---- One line ----

-- a line that defines a name defines one name as one term
definition-unique
    : (tokens : List Token) (name_one name_two : List ℕ) (one two : ℕ) (t u : Written)
    → IsDefinitionText tokens name_one one t
    → IsDefinitionText tokens name_two two u
    → definition name_one one t ≡ definition name_two two u
definition-unique tokens name_one name_two one two t u first second =
    let both : name name_one one ∷ (equals ∷ first.term) ≡ name name_two two ∷ (equals ∷ second.term) =
    sym first.whole ∙ second.whole in
    let names : name_one ≡ name_two = cc in
    let places : one ≡ two = cc in
    let rest : first.term ≡ second.term = cc in
    let terms : t ≡ u =
    text-unique false second.term t u (subst (λ w. IsTermText false w t) rest first.text) second.text in
    cc

-- a line says one thing
text-line
    : (defines : Bool) (tokens : List Token) (r s : Line)
    → IsLineText defines tokens r
    → IsLineText defines tokens s
    → r ≡ s
text-line true tokens (definition n p t) (definition m q u) one two =
    definition-unique tokens n m p q t u one two
text-line false tokens (closing t) (closing u) one two = ap closing (text-unique false tokens t u one two)
text-line true tokens (closing t) s one two = absurd one
text-line true tokens (definition n p t) (closing u) one two = absurd two
text-line false tokens (definition n p t) s one two = absurd one
text-line false tokens (closing t) (definition m q u) one two = absurd two

-- a line has one fault
pub line_fault-unique
    : (k : ℕ) (names : List (List ℕ)) (line : Due) (e f : DefsErr)
    → IsLineFault k names line e
    → IsLineFault k names line f
    → e ≡ f
line_fault-unique k names line e f (unread m fault e_is) (unread n also f_is) =
    e_is ∙ ap (Form k) (fault-unique _ _ _ m n fault also) ∙ sym f_is
line_fault-unique k names line e f (unread m fault e_is) (faulty r says is) =
    absurd (fault-none _ _ _ m fault (r, says))
line_fault-unique k names line e f (faulty r says is) (unread n fault f_is) =
    absurd (fault-none _ _ _ n fault (r, says))
line_fault-unique k names line e f (faulty r says is) (faulty s also f_is) =
    Some-injective (sym is ∙ ap (line_fault k names) (text-line line.defines _ r s says also) ∙ f_is)

-- a line without a fault has none
line_fault-sound
    : (k : ℕ) (names : List (List ℕ)) (line : Due) (r : Line) (e : DefsErr)
    → IsSound k names line r
    → IsLineFault k names line e
    → ⊥
line_fault-sound k names line r e sound (unread place fault is) = fault-none _ _ _ place fault (r, sound.says)
line_fault-sound k names line r e sound (faulty s says is) =
    none-some e (sym sound.none ∙ ap (line_fault k names) (text-line line.defines _ r s sound.says says) ∙ is)

-- ---- The lines ----

-- lines without a fault say one thing
pub AreSound-unique
    : (k : ℕ) (names : List (List ℕ)) (lines : List Due) (read also : List Line)
    → AreSound k names lines read
    → AreSound k names lines also
    → read ≡ also
AreSound-unique k names [] [] [] one two = refl
AreSound-unique k names [] [] (s ∷ also) one two = absurd two
AreSound-unique k names [] (r ∷ read) also one two = absurd one
AreSound-unique k names (line ∷ lines) [] also one two = absurd one
AreSound-unique k names (line ∷ lines) (r ∷ read) [] one two = absurd two
AreSound-unique k names (line ∷ lines) (r ∷ read) (s ∷ also) one two =
    let same : r ≡ s = text-line line.defines _ r s one.0.says two.0.says in
    let rest : read ≡ also = AreSound-unique (k + 1) (names_behind names s) lines read also
    (subst (λ z. AreSound (k + 1) (names_behind names z) lines read) same one.1) two.1 in
    cc

-- they have no first fault
pub IsFirstFault-sound
    : (k : ℕ) (names : List (List ℕ)) (lines : List Due) (read : List Line) (e : DefsErr)
    → AreSound k names lines read
    → IsFirstFault k names lines e
    → ⊥
IsFirstFault-sound k names [] read e sound fault = fault
IsFirstFault-sound k names (line ∷ lines) [] e sound fault = sound
IsFirstFault-sound k names (line ∷ lines) (r ∷ read) e sound (inl fault) =
    line_fault-sound k names line r e sound.0 fault
IsFirstFault-sound k names (line ∷ lines) (r ∷ read) e sound (inr (s, is, more)) =
    let same : s ≡ r = text-line line.defines _ s r is.says sound.0.says in
    IsFirstFault-sound (k + 1) (names_behind names r) lines read e sound.1
    (subst (λ z. IsFirstFault (k + 1) (names_behind names z) lines e) same more)

-- lines have one first fault
pub IsFirstFault-unique
    : (k : ℕ) (names : List (List ℕ)) (lines : List Due) (e f : DefsErr)
    → IsFirstFault k names lines e
    → IsFirstFault k names lines f
    → e ≡ f
IsFirstFault-unique k names [] e f one two = absurd one
IsFirstFault-unique k names (line ∷ lines) e f (inl one) (inl two) =
    line_fault-unique k names line e f one two
IsFirstFault-unique k names (line ∷ lines) e f (inl one) (inr (s, is, more)) =
    absurd (line_fault-sound k names line s e is one)
IsFirstFault-unique k names (line ∷ lines) e f (inr (r, is, more)) (inl two) =
    absurd (line_fault-sound k names line r f is two)
IsFirstFault-unique k names (line ∷ lines) e f (inr (r, one, more)) (inr (s, two, also)) =
    let same : r ≡ s = text-line line.defines _ r s one.says two.says in
    IsFirstFault-unique (k + 1) (names_behind names s) lines e f
    (subst (λ z. IsFirstFault (k + 1) (names_behind names z) lines e) same more) also

-- ---- Whole files ----

-- what the lines ask for has one answer
asked-unique
    : (lines : List Due) (read also : List Line) (one two : Asked)
    → AreSound 1 [] lines read
    → AreSound 1 [] lines also
    → ask_all (answered (variable ∷ [])) (file_requests [] read) ≡ one
    → ask_all (answered (variable ∷ [])) (file_requests [] also) ≡ two
    → one ≡ two
asked-unique lines read also one two sound also_sound is also_is =
    sym is ∙ ap (λ z. ask_all (answered (variable ∷ [])) (file_requests [] z))
    (AreSound-unique 1 [] lines read also sound also_sound) ∙ also_is

-- a file has one refusal
pub IsFileRefusal-unique
    : (terms : ℕ) (lines : List (List ℕ)) (e f : DefsErr)
    → IsFileRefusal terms lines e
    → IsFileRefusal terms lines f
    → e ≡ f
IsFileRefusal-unique terms lines e f (few below e_is) (few also f_is) = e_is ∙ sym f_is
IsFileRefusal-unique terms lines e f (few below e_is) (first_fault enough fault) = absurd (omega arith)
IsFileRefusal-unique terms lines e f (few below e_is) (too_high read enough sound is f_is) =
    absurd (omega arith)
IsFileRefusal-unique terms lines e f (few below e_is) (too_large read enough sound is f_is) =
    absurd (omega arith)
IsFileRefusal-unique terms lines e f (first_fault enough fault) (few below f_is) = absurd (omega arith)
IsFileRefusal-unique terms lines e f (too_high read enough sound is e_is) (few below f_is) =
    absurd (omega arith)
IsFileRefusal-unique terms lines e f (too_large read enough sound is e_is) (few below f_is) =
    absurd (omega arith)
IsFileRefusal-unique terms lines e f (first_fault enough fault) (first_fault more also) =
    IsFirstFault-unique 1 [] _ e f fault also
IsFileRefusal-unique terms lines e f (first_fault enough fault) (too_high read more sound is f_is) =
    absurd (IsFirstFault-sound 1 [] _ read e sound fault)
IsFileRefusal-unique terms lines e f (first_fault enough fault) (too_large read more sound is f_is) =
    absurd (IsFirstFault-sound 1 [] _ read e sound fault)
IsFileRefusal-unique terms lines e f (too_high read more sound is e_is) (first_fault enough fault) =
    absurd (IsFirstFault-sound 1 [] _ read f sound fault)
IsFileRefusal-unique terms lines e f (too_large read more sound is e_is) (first_fault enough fault) =
    absurd (IsFirstFault-sound 1 [] _ read f sound fault)
IsFileRefusal-unique terms lines e f (too_high read enough sound is e_is)
    (too_high also more also_sound also_is f_is) = e_is ∙ sym f_is
IsFileRefusal-unique terms lines e f (too_large read enough sound is e_is)
    (too_large also more also_sound also_is f_is) = e_is ∙ sym f_is
IsFileRefusal-unique terms lines e f (too_high read enough sound is e_is)
    (too_large also more also_sound also_is f_is) =
    let same : too_deep ≡ full = asked-unique _ read also _ _ sound also_sound is also_is in
    cc
IsFileRefusal-unique terms lines e f (too_large read enough sound is e_is)
    (too_high also more also_sound also_is f_is) =
    let same : full ≡ too_deep = asked-unique _ read also _ _ sound also_sound is also_is in
    cc

-- a file that is read isn't refused
pub IsFileRefusal-file
    : (terms : ℕ) (lines : List (List ℕ)) (made : List Term) (first : ℕ) (second : Option ℕ) (e : DefsErr)
    → IsTermFile terms lines made first second
    → IsFileRefusal terms lines e
    → ⊥
IsFileRefusal-file terms lines made first second e file (few below is) = omega (arith, file.enough)
IsFileRefusal-file terms lines made first second e file (first_fault enough fault) =
    IsFirstFault-sound 1 [] _ file.read e file.sound fault
IsFileRefusal-file terms lines made first second e file (too_high read enough sound is e_is) =
    let same : answered made ≡ too_deep = asked-unique _ file.read read _ _ file.sound sound file.asked is in
    cc
IsFileRefusal-file terms lines made first second e file (too_large read enough sound is e_is) =
    let same : answered made ≡ full = asked-unique _ file.read read _ _ file.sound sound file.asked is in
    cc

-- ---- Answers ----

-- Where the file is refused for a cause, the answer is that cause, or want of memory.
abbrev pub IsExact : {T : Type 0} → ℕ → List (List ℕ) → Result T DefsErr → Type 0
IsExact terms lines r = (e : DefsErr) → IsFileRefusal terms lines e → IsErrOf r e ⊎ IsErrOf r Memory

-- a refusal is exact
pub exact-err
    : {T : Type 0} (terms : ℕ) (lines : List (List ℕ)) (r : Result T DefsErr)
    → IsErr r
    → IfErr r (λ e. (e ≡ Memory) ⊎ IsFileRefusal terms lines e)
    → IsExact terms lines r
exact-err terms lines (Ok x) is refused e cause = absurd (true≢false (sym is))
exact-err terms lines (Err f) is (inl memory) e cause = inr (ap Err memory)
exact-err terms lines (Err f) is (inr refusal) e cause =
    inl (ap Err (IsFileRefusal-unique terms lines f e refusal cause))

-- an answer is exact
pub exact-answer
    : {T : Type 0} (terms : ℕ) (lines : List (List ℕ)) (r : Result T DefsErr) (made : T → List Term)
    (first : T → ℕ) (second : T → Option ℕ)
    → IfOk r (λ file. IsTermFile terms lines (made file) (first file) (second file))
    → IfErr r (λ e. (e ≡ Memory) ⊎ IsFileRefusal terms lines e)
    → IsExact terms lines r
exact-answer terms lines (Ok file) made first second is refused e cause =
    absurd (IsFileRefusal-file terms lines (made file) (first file) (second file) e is cause)
exact-answer terms lines (Err f) made first second is refused e cause =
    exact-err terms lines (Err f) refl refused e cause

-- a file that is read has one list of last terms
pub IsTermFile-terms
    : (terms : ℕ) (lines : List (List ℕ)) (made again : List Term) (first other : ℕ)
    (second next : Option ℕ)
    → IsTermFile terms lines made first second
    → IsTermFile terms lines again other next
    → terms_at made first second ≡ terms_at again other next
IsTermFile-terms terms lines made again first other second next file also =
    sym file.last ∙ ap (last_terms []) (AreSound-unique 1 [] _ file.read also.read file.sound also.sound)
    ∙ also.last

-- and makes one graph
pub IsTermFile-made
    : (terms : ℕ) (lines : List (List ℕ)) (made again : List Term) (first other : ℕ)
    (second next : Option ℕ)
    → IsTermFile terms lines made first second
    → IsTermFile terms lines again other next
    → made ≡ again
IsTermFile-made terms lines made again first other second next file also =
    let both : answered made ≡ answered again
    = sym file.asked
    ∙ ap (λ read. ask_all (answered (variable ∷ [])) (file_requests [] read))
    (AreSound-unique 1 [] _ file.read also.read file.sound also.sound)
    ∙ also.asked in
    cc
