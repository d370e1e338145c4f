-- What is kept of a term file with one line more: its names, its terms and the requests made.
use Rattle.std.proofs.Common.{◌≡◌, ℕ, ◌+◌, ◌<◌, inl, inr, List, [], ◌∷◌, ◌++◌, length, map, All, Option, Some, None, refl, sym, ap, ◌∙◌, subst, append_assoc, append-nil, arith}
use Rattle.std.specs.Map.{keys_of}
use Rattle.std.proofs.lemmas.List.{map-append}
use Rattle.std.proofs.lemmas.List.Elements.{recursion_from_All, All-weaker, All-push}
use Rattle.ld_term.specs.Terms.{Term, variable}
use Rattle.ld_term.specs.Written.{Written}
use Rattle.term_graph.specs.TermLists.{term_at}
use Rattle.term_graph.specs.Asks.{Asked, answered, too_deep, full, ask_all}
use Rattle.term_graph.specs.Requests.{meaning, text_requests, named_terms, IsFront}
use Rattle.term_graph.specs.TermFiles.{Line, definition, closing, line_term, Due, IsLineFault, IsSound, names_behind, AreSound, IsFirstFault, terms_behind, file_requests, last_terms}
use Rattle.term_graph.specs.Readings.{names_after, terms_after, IsMade, IsAnswer, Keeps, IsEnteredTo, IsEnteredFrom, IsEntered}
use Rattle.term_graph.specs.declared.file_error.DefsErr.{DefsErr}
use Rattle.term_graph.specs.declared.term_file.Limit.{Limit}
use Rattle.term_graph.specs.declared.term_file.Limit.TheVariants.{Height, Nodes}
use Rattle.term_graph.proofs.AskLemmas.{ask_all-deep, ask_all-full, ask_all-append}
use Rattle.term_graph.proofs.RequestLemmas.{length-front, named_terms-front, terms-front}

-- ---- One line more ----

-- the names behind one line more
names_after-push
    : (names : List (List ℕ)) (read : List Line) (r : Line)
    → names_after names (read ++ (r ∷ [])) ≡ names_behind (names_after names read) r
names_after-push names [] r = refl
names_after-push names (s ∷ read) r = names_after-push (names_behind names s) read r

-- the terms of the names behind one line more
terms_after-push
    : (terms : List (List ℕ × Term)) (read : List Line) (r : Line)
    → terms_after terms (read ++ (r ∷ [])) ≡ terms_behind (terms_after terms read) r
terms_after-push terms [] r = refl
terms_after-push terms (s ∷ read) r = terms_after-push (terms_behind terms s) read r

-- the requests of one line more
file_requests-push
    : (terms : List (List ℕ × Term)) (read : List Line) (r : Line)
    → file_requests terms (read ++ (r ∷ []))
    ≡ file_requests terms read ++ text_requests (terms_after terms read) (line_term r)
file_requests-push terms [] r = append-nil (text_requests terms (line_term r))
file_requests-push terms (s ∷ read) r =
    ap (λ z. text_requests terms (line_term s) ++ z) (file_requests-push (terms_behind terms s) read r)
    ∙ sym (append_assoc (text_requests terms (line_term s)) (file_requests (terms_behind terms s) read) _)

-- the last terms behind one definition more
last_terms-definition
    : (terms : List (List ℕ × Term)) (read : List Line) (name : List ℕ) (place : ℕ) (t : Written)
    → last_terms terms (read ++ (definition name place t ∷ [])) ≡ last_terms terms read
last_terms-definition terms [] name place t = refl
last_terms-definition terms (definition n p u ∷ read) name place t =
    last_terms-definition (terms_behind terms (definition n p u)) read name place t
last_terms-definition terms (closing u ∷ read) name place t =
    ap (λ z. meaning terms u ∷ z) (last_terms-definition terms read name place t)

-- the last terms behind one term more
last_terms-closing
    : (terms : List (List ℕ × Term)) (read : List Line) (t : Written)
    → last_terms terms (read ++ (closing t ∷ []))
    ≡ last_terms terms read ++ (meaning (terms_after terms read) t ∷ [])
last_terms-closing terms [] t = refl
last_terms-closing terms (definition n p u ∷ read) t =
    last_terms-closing (terms_behind terms (definition n p u)) read t
last_terms-closing terms (closing u ∷ read) t =
    ap (λ z. meaning terms u ∷ z) (last_terms-closing terms read t)

-- one line more is sound
pub AreSound-push
    : (k : ℕ) (names : List (List ℕ)) (lines : List Due) (read : List Line) (line : Due) (r : Line)
    → AreSound k names lines read
    → IsSound (k + length lines) (names_after names read) line r
    → AreSound k names (lines ++ (line ∷ [])) (read ++ (r ∷ []))
AreSound-push k names [] [] line r sound more =
    (subst (λ z. IsSound z names line r) (omega arith) more, tt)
AreSound-push k names [] (s ∷ read) line r sound more = absurd sound
AreSound-push k names (l ∷ lines) [] line r sound more = absurd sound
AreSound-push k names (l ∷ lines) (s ∷ read) line r sound more = (
  sound.0,
  AreSound-push (k + 1) (names_behind names s) lines read line r sound.1
      (subst (λ z. IsSound z (names_after (names_behind names s) read) line r) (omega arith) more),
)

-- the first fault is behind lines that are sound
pub IsFirstFault-behind
    : (k : ℕ) (names : List (List ℕ)) (lines : List Due) (read : List Line) (line : Due) (after : List Due)
    (e : DefsErr)
    → AreSound k names lines read
    → IsLineFault (k + length lines) (names_after names read) line e
    → IsFirstFault k names (lines ++ (line ∷ after)) e
IsFirstFault-behind k names [] [] line after e sound fault =
    inl (subst (λ z. IsLineFault z names line e) (omega arith) fault)
IsFirstFault-behind k names [] (s ∷ read) line after e sound fault = absurd sound
IsFirstFault-behind k names (l ∷ lines) [] line after e sound fault = absurd sound
IsFirstFault-behind k names (l ∷ lines) (s ∷ read) line after e sound fault =
    inr (
      s,
      sound.0,
      IsFirstFault-behind (k + 1) (names_behind names s) lines read line after e sound.1
          (subst (λ z. IsLineFault z (names_after (names_behind names s) read) line e) (omega arith) fault),
    )

-- ---- What is kept ----

-- the answer to the requests of one line more, where the others were granted
asked-push
    : (graph : List Term) (names : List (List ℕ × ℕ)) (read : List Line) (r : Line) (numbers : List ℕ)
    (answer : Asked)
    → IsMade graph names read numbers
    → ask_all (answered graph) (text_requests (named_terms graph names) (line_term r)) ≡ answer
    → ask_all (answered (variable ∷ [])) (file_requests [] (read ++ (r ∷ []))) ≡ answer
asked-push graph names read r numbers answer made is =
    ap (ask_all (answered (variable ∷ []))) (file_requests-push [] read r)
    ∙ ask_all-append (answered (variable ∷ [])) (file_requests [] read)
    (text_requests (terms_after [] read) (line_term r))
    ∙ ap (λ z. ask_all z (text_requests (terms_after [] read) (line_term r))) made.asked
    ∙ ap (λ z. ask_all (answered graph) (text_requests z (line_term r))) (sym made.terms)
    ∙ is

-- a refusal stays
deep-push
    : (read : List Line) (r : Line)
    → ask_all (answered (variable ∷ [])) (file_requests [] read) ≡ too_deep
    → ask_all (answered (variable ∷ [])) (file_requests [] (read ++ (r ∷ []))) ≡ too_deep
deep-push read r is =
    let more = text_requests (terms_after [] read) (line_term r) in
    ap (ask_all (answered (variable ∷ []))) (file_requests-push [] read r)
    ∙ ask_all-append (answered (variable ∷ [])) (file_requests [] read) more
    ∙ ap (λ z. ask_all z more) is
    ∙ ask_all-deep more

full-push
    : (read : List Line) (r : Line)
    → ask_all (answered (variable ∷ [])) (file_requests [] read) ≡ full
    → ask_all (answered (variable ∷ [])) (file_requests [] (read ++ (r ∷ []))) ≡ full
full-push read r is =
    let more = text_requests (terms_after [] read) (line_term r) in
    ap (ask_all (answered (variable ∷ []))) (file_requests-push [] read r)
    ∙ ask_all-append (answered (variable ∷ [])) (file_requests [] read) more
    ∙ ap (λ z. ask_all z more) is
    ∙ ask_all-full more

numbers-front
    : (old new : List Term) (numbers : List ℕ)
    → IsFront old new
    → All (λ n. n < length old) numbers
    → map (term_at new) numbers ≡ map (term_at old) numbers
numbers-front old new numbers front within =
    terms-front old new numbers front (recursion_from_All (λ n. n < length old) numbers within)

-- numbers are numbers of a graph that has grown
within-front
    : (old new : List Term) (numbers : List ℕ)
    → IsFront old new
    → All (λ n. n < length old) numbers
    → All (λ n. n < length new) numbers
within-front old new numbers front within =
    All-weaker (λ n. n < length old) (λ n. n < length new) (λ n. length-front old new n front) numbers within

-- and so are the numbers of names
names-within
    : (old new : List Term) (names : List (List ℕ × ℕ))
    → IsFront old new
    → All (λ own. own.1 < length old) names
    → All (λ own. own.1 < length new) names
names-within old new names front within =
    All-weaker (λ (own : List ℕ × ℕ). own.1 < length old) (λ (own : List ℕ × ℕ). own.1 < length new)
    (λ own. length-front old new own.1 front) names within

-- what is kept behind a definition whose products were granted
made-definition
    : (old new : List Term) (names : List (List ℕ × ℕ)) (read : List Line) (numbers : List ℕ) (name : List ℕ)
    (place n : ℕ) (t : Written)
    → IsMade old names read numbers
    → All (λ own. own.1 < length old) names
    → IsFront old new
    → IsEnteredTo None old names t new n
    → IsMade new (names ++ ((name, n) ∷ [])) (read ++ (definition name place t ∷ [])) numbers
made-definition old new names read numbers name place n t made within front entered =
    let r = definition name place t in
    let kept : named_terms new names ≡ terms_after [] read =
    named_terms-front old new names front within ∙ made.terms in
    let means : term_at new n ≡ meaning (terms_after [] read) t =
    entered.1 ∙ ap (λ z. meaning z t) made.terms in
    record {
      asked = asked-push old names read r numbers (answered new) made entered.0;
      terms =
          map-append _ names ((name, n) ∷ [])
          ∙ ap (λ z. z ++ ((name, term_at new n) ∷ [])) kept
          ∙ ap (λ z. terms_after [] read ++ ((name, z) ∷ [])) means
          ∙ sym (terms_after-push [] read r);
      last = numbers-front old new numbers front made.within ∙ made.last
          ∙ sym (last_terms-definition [] read name place t);
      within = within-front old new numbers front made.within;
    }

-- what is kept behind a term whose products were granted
made-closing
    : (old new : List Term) (names : List (List ℕ × ℕ)) (read : List Line) (numbers : List ℕ) (n : ℕ)
    (t : Written)
    → IsMade old names read numbers
    → All (λ own. own.1 < length old) names
    → IsFront old new
    → n < length new
    → IsEnteredTo None old names t new n
    → IsMade new names (read ++ (closing t ∷ [])) (numbers ++ (n ∷ []))
made-closing old new names read numbers n t made within front below entered =
    let r = closing t in
    let means : term_at new n ≡ meaning (terms_after [] read) t =
    entered.1 ∙ ap (λ z. meaning z t) made.terms in
    record {
      asked = asked-push old names read r numbers (answered new) made entered.0;
      terms = named_terms-front old new names front within ∙ made.terms ∙ sym (terms_after-push [] read r);
      last =
          map-append (term_at new) numbers (n ∷ [])
          ∙ ap (λ z. z ++ (term_at new n ∷ [])) (numbers-front old new numbers front made.within ∙ made.last)
          ∙ ap (λ z. last_terms [] read ++ (z ∷ [])) means
          ∙ sym (last_terms-closing [] read t);
      within = All-push (λ n. n < length new) numbers n (within-front old new numbers front made.within)
          below;
    }

-- the answer behind a definition
answer-definition
    : (limit now : Option Limit) (old new : List Term) (names : List (List ℕ × ℕ)) (read : List Line)
    (numbers : List ℕ) (name : List ℕ) (place n : ℕ) (t : Written)
    → IsAnswer limit old names read numbers
    → All (λ own. own.1 < length old) names
    → IsFront old new
    → IsEnteredFrom limit old names t new now n
    → IsAnswer now new (names ++ ((name, n) ∷ [])) (read ++ (definition name place t ∷ [])) numbers
answer-definition None None old new names read numbers name place n t made within front entered =
    made-definition old new names read numbers name place n t made within front entered
answer-definition None (Some Height) old new names read numbers name place n t made within front entered =
    asked-push old names read (definition name place t) numbers too_deep made entered
answer-definition None (Some Nodes) old new names read numbers name place n t made within front entered =
    asked-push old names read (definition name place t) numbers full made entered
answer-definition (Some Height) now old new names read numbers name place n t is within front entered =
    subst (λ z. IsAnswer z new (names ++ ((name, n) ∷ [])) (read ++ (definition name place t ∷ [])) numbers)
    (sym entered) (deep-push read (definition name place t) is)
answer-definition (Some Nodes) now old new names read numbers name place n t is within front entered =
    subst (λ z. IsAnswer z new (names ++ ((name, n) ∷ [])) (read ++ (definition name place t ∷ [])) numbers)
    (sym entered) (full-push read (definition name place t) is)

-- the answer behind a term
answer-closing
    : (limit now : Option Limit) (old new : List Term) (names : List (List ℕ × ℕ)) (read : List Line)
    (numbers : List ℕ) (n : ℕ) (t : Written)
    → IsAnswer limit old names read numbers
    → All (λ own. own.1 < length old) names
    → IsFront old new
    → n < length new
    → IsEnteredFrom limit old names t new now n
    → IsAnswer now new names (read ++ (closing t ∷ [])) (numbers ++ (n ∷ []))
answer-closing None None old new names read numbers n t made within front below entered =
    made-closing old new names read numbers n t made within front below entered
answer-closing None (Some Height) old new names read numbers n t made within front below entered =
    asked-push old names read (closing t) numbers too_deep made entered
answer-closing None (Some Nodes) old new names read numbers n t made within front below entered =
    asked-push old names read (closing t) numbers full made entered
answer-closing (Some Height) now old new names read numbers n t is within front below entered =
    subst (λ z. IsAnswer z new names (read ++ (closing t ∷ [])) (numbers ++ (n ∷ []))) (sym entered)
    (deep-push read (closing t) is)
answer-closing (Some Nodes) now old new names read numbers n t is within front below entered =
    subst (λ z. IsAnswer z new names (read ++ (closing t ∷ [])) (numbers ++ (n ∷ []))) (sym entered)
    (full-push read (closing t) is)

-- nothing was read
pub Keeps-start
    : (graph : List Term) (names : List (List ℕ × ℕ))
    → graph ≡ variable ∷ []
    → names ≡ []
    → Keeps graph names None [] []
Keeps-start graph names graph_is names_are = record {
  known = ap keys_of names_are;
  within = subst (λ z. All (λ own. own.1 < length graph) z) (sym names_are)
      (λ k d below. absurd (omega arith));
  answer = record {
    asked = ap answered (sym graph_is);
    terms = ap (named_terms graph) names_are;
    last = refl;
    within = λ k d below. absurd (omega arith);
  };
}

-- a definition was read
pub Keeps-definition
    : (old new : List Term) (names : List (List ℕ × ℕ)) (limit now : Option Limit) (read : List Line)
    (numbers : List ℕ) (name : List ℕ) (place n : ℕ) (t : Written)
    → Keeps old names limit read numbers
    → IsEntered old names limit t new now n
    → Keeps new (names ++ ((name, n) ∷ [])) now (read ++ (definition name place t ∷ [])) numbers
Keeps-definition old new names limit now read numbers name place n t keeps entered = record {
  known = map-append _ names ((name, n) ∷ []) ∙ ap (λ z. z ++ (name ∷ [])) keeps.known
      ∙ sym (names_after-push [] read (definition name place t));
  within = All-push (λ (own : List ℕ × ℕ). own.1 < length new) names (name, n)
      (names-within old new names entered.kept keeps.within) entered.within;
  answer = answer-definition limit now old new names read numbers name place n t keeps.answer keeps.within
      entered.kept entered.answer;
}

-- a term was read
pub Keeps-closing
    : (old new : List Term) (names : List (List ℕ × ℕ)) (limit now : Option Limit) (read : List Line)
    (numbers : List ℕ) (n : ℕ) (t : Written)
    → Keeps old names limit read numbers
    → IsEntered old names limit t new now n
    → Keeps new names now (read ++ (closing t ∷ [])) (numbers ++ (n ∷ []))
Keeps-closing old new names limit now read numbers n t keeps entered = record {
  known = keeps.known ∙ sym (names_after-push [] read (closing t));
  within = names-within old new names entered.kept keeps.within;
  answer = answer-closing limit now old new names read numbers n t keeps.answer keeps.within entered.kept
      entered.within entered.answer;
}
