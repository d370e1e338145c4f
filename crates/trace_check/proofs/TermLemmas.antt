-- Laws of the terms of a trace file.
--
-- A new graph has room for such a term (`refused-Memory`), which it then stands for (`number-as_term`); and
-- its braid word isn't come to where it is too long (`stepped_to-long`).
use Rattle.std.proofs.Common.{◌≡◌, ℕ, ◌<◌, List, [], ◌∷◌, length, None, Err, refl, sym, ap, ◌∙◌, subst, arith}
use Rattle.std.proofs.lemmas.Bool.{lt-ltb}
use Rattle.braid_word.specs.declared.TheConstants.{MAX_LETTERS}
use Rattle.ld_term.specs.Terms.{Term, variable}
use Rattle.ld_term.specs.Written.{Written, leaf, named, times, HasNoName}
use Rattle.ld_term.specs.StrictTexts.{as_term}
use Rattle.term_graph.specs.TermLists.{term_at, braid_length}
use Rattle.term_graph.specs.Asks.{Asked, answered, ask_all, IsRefusal}
use Rattle.term_graph.specs.Requests.{first_unknown, meaning, text_requests, named_terms}
use Rattle.term_graph.specs.declared.error.GraphErr.{GraphErr}
use Rattle.term_graph.specs.declared.error.GraphErr.TheVariants.{TooDeep, Full, Memory}
use Rattle.term_graph.proofs.GrantLemmas.{meaning-as_term, height-as_term, leaf_count-as_term, text_requests-granted}
use Rattle.term_eval.specs.Braids.{braid}
use Rattle.term_eval.proofs.BraidLemmas.{length-braid}
use Rattle.trace_format.specs.TraceLines.{IsShortTerm}
use Rattle.trace_check.specs.Checking.{stepped_to}
use Rattle.trace_check.specs.declared.checked.Why.TheVariants.{Long}

-- ---- The graph of a term ----

-- a term without names has none that isn't known
pub first_unknown-nameless
    : (names : List (List ℕ)) (w : Written)
    → HasNoName w
    → first_unknown names w ≡ None
first_unknown-nameless names leaf nameless = refl
first_unknown-nameless names (named name place) nameless = absurd nameless
first_unknown-nameless names (times a b) nameless =
    rw (first_unknown-nameless names a nameless.0, first_unknown-nameless names b nameless.1) refl

-- a granted request is refused for want of memory alone
refused-granted
    : (asked : Asked) (made : List Term) (e : GraphErr)
    → asked ≡ answered made
    → IsRefusal asked e
    → e ≡ Memory
refused-granted asked made TooDeep granted refused = absurd (let both = sym granted ∙ refused in cc)
refused-granted asked made Full granted refused = absurd (let both = sym granted ∙ refused in cc)
refused-granted asked made Memory granted refused = refl

-- a new graph refuses a small term for want of memory alone
pub refused-Memory
    : (terms : List Term) (names : List (List ℕ × ℕ)) (w : Written) (e : GraphErr)
    → terms ≡ variable ∷ []
    → names ≡ []
    → IsShortTerm (as_term w)
    → IsRefusal (ask_all (answered terms) (text_requests (named_terms terms names) w)) e
    → e ≡ Memory
refused-Memory terms names w e new none small refused =
    let (made, granted) = text_requests-granted w (omega (arith, small.low, height-as_term w))
    (omega (arith, small.few, leaf_count-as_term w)) in
    let asked : ask_all (answered terms) (text_requests (named_terms terms names) w) ≡ answered made =
    rw (new, none) granted in
    refused-granted _ made e asked refused

-- the number that it gives stands for the term
pub number-as_term
    : (terms made : List Term) (names : List (List ℕ × ℕ)) (w : Written) (n : ℕ)
    → names ≡ []
    → term_at made n ≡ meaning (named_terms terms names) w
    → term_at made n ≡ as_term w
number-as_term terms made names w n none is =
    is ∙ ap (λ own. meaning (named_terms terms own) w) none ∙ meaning-as_term w

-- ---- Its braid word ----

-- the braid word of a term that is too long
pub stepped_to-long
    : (t u : Term)
    → t ≡ u
    → MAX_LETTERS < braid_length t
    → stepped_to (braid u) ≡ Err Long
stepped_to-long t u same long =
    let above : MAX_LETTERS < length (braid u) =
    subst (λ v. MAX_LETTERS < length (braid v)) same (omega (arith, length-braid t, long)) in
    rw (lt-ltb MAX_LETTERS (length (braid u)) above) refl
