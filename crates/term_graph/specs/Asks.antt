-- Requests: what a graph answers where it is asked for a term.
--
-- A term that is there is answered as it is. Another one is refused where it is too high, or else where as
-- many products are there as may be; otherwise it is added behind the others. A list of requests is asked in
-- its order, up to the first refusal.
-- Source: this project's own.
--
--   same_term t u            whether two terms are one
--   has_term t terms         whether a term is there
--   answered terms           the answer of a request that is granted: the terms are then these
--   too_deep, full           the refusals
--   ask terms t              the answer to one request
--   ask_all asked requests   the answer to a list of requests, where the answer so far is `asked`
--   IsRefusal asked error    a call that met this answer fails so: for its refusal, or for want of memory
--   ask_first terms requests                 the answer to the first of these requests, if there is one
-- IsStopped old new requests error         a call that fails so has had its requests granted up to where it
-- failed
use Rattle.std.specs.Prelude.{◌≡◌, ◌&&◌, nat_lt, Bool, true, false, if◌then◌else◌, List, [], ◌∷◌, ◌++◌}
use Rattle.std.specs.List.{list_any}
use Rattle.ld_term.specs.Terms.{Term, variable, multiply, height}
use Rattle.ld_term.specs.declared.TheConstants.{MAX_HEIGHT}
use Rattle.term_graph.specs.TermLists.{product_count}
use Rattle.term_graph.specs.declared.TheConstants.{MAX_NODES}
use Rattle.term_graph.specs.declared.error.GraphErr.{GraphErr}
use Rattle.term_graph.specs.declared.error.GraphErr.TheVariants.{TooDeep, Full, Memory}

-- ---- Whether a term is there ----

-- Whether two terms are one.
abbrev pub same_term : Term → Term → Bool
same_term variable variable = true
same_term variable (multiply c d) = false
same_term (multiply a b) variable = false
same_term (multiply a b) (multiply c d) = same_term a c && same_term b d

-- Whether a term is among these.
abbrev pub has_term : Term → List Term → Bool
has_term t terms = list_any (same_term t) terms

-- ---- Requests ----

-- What is answered: the terms that are then there, or a refusal.
pub data Asked : Type 0 where
  answered : (terms : List Term) → Asked
  too_deep : Asked
  full : Asked

-- The answer to a request.
abbrev pub ask : List Term → Term → Asked
ask terms t =
    if has_term t terms then answered terms
    else (if nat_lt MAX_HEIGHT (height t) then too_deep
    else (if nat_lt (product_count terms) MAX_NODES then answered (terms ++ t ∷ []) else full))

-- The answer to a list of requests; the first refusal stays.
abbrev pub ask_all : Asked → List Term → Asked
ask_all asked [] = asked
ask_all too_deep (t ∷ requests) = too_deep
ask_all full (t ∷ requests) = full
ask_all (answered terms) (t ∷ requests) = ask_all (ask terms t) requests

-- Why a call fails that met this answer. Memory may run out in any call.
abbrev pub IsRefusal : Asked → GraphErr → Type 0
IsRefusal asked TooDeep = asked ≡ too_deep
IsRefusal asked Full = asked ≡ full
IsRefusal asked Memory = Unit {0}

-- ---- Where requests stop ----

-- The answer to the first of these requests, if there is one.
abbrev pub ask_first : List Term → List Term → Asked
ask_first terms [] = answered terms
ask_first terms (t ∷ requests) = ask terms t

-- How a call leaves a graph whose requests it failed to have granted: those in front were, and the terms are
-- as they were then; the next one is refused for this error, or memory ran out.
pub record IsStopped (old : List Term) (new : List Term) (requests : List Term) (error : GraphErr) : Type 0
  where
    pub granted : List Term
    pub rest : List Term
    pub in_turn : requests ≡ granted ++ rest
    pub there : ask_all (answered old) granted ≡ answered new
    pub refused : IsRefusal (ask_first new rest) error
