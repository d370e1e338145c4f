-- Requests that stop before their end, and what is there then.
--
-- A stop in the first requests is one of them all (`IsStopped-first`), and so is a stop in those that are
-- left (`AreLeft`, `AreLeft-stopped`). It is a refusal of them all (`IsStopped-refusal`).
use Rattle.std.proofs.Common.{◌≡◌, List, [], ◌∷◌, ◌++◌, Result, Ok, Err, IfErr, OnErr, refl, sym, ap, ◌∙◌, subst, append_assoc, append-nil}
use Rattle.ld_term.specs.Terms.{Term}
use Rattle.term_graph.specs.Asks.{Asked, answered, ask, ask_all, ask_first, IsRefusal, IsStopped}
use Rattle.term_graph.specs.declared.error.GraphErr.{GraphErr}
use Rattle.term_graph.specs.declared.error.GraphErr.TheVariants.{TooDeep, Full, Memory}
use Rattle.term_graph.proofs.AskLemmas.{ask_all-append, ask_all-deep, ask_all-full}

-- what refuses an answer refuses it also before further requests
first-more
    : (terms rest more : List Term) (e : GraphErr)
    → IsRefusal (ask_first terms rest) e
    → IsRefusal (ask_first terms (rest ++ more)) e
first-more terms [] more TooDeep is = absurd cc
first-more terms [] more Full is = absurd cc
first-more terms [] more Memory is = tt
first-more terms (t ∷ rest) more e is = is

-- a stop in the first requests is one of them all
pub IsStopped-first
    : (old new first second : List Term) (e : GraphErr)
    → IsStopped old new first e
    → IsStopped old new (first ++ second) e
IsStopped-first old new first second e stop = record {
  granted = stop.granted;
  rest = stop.rest ++ second;
  in_turn = ap (λ z. z ++ second) stop.in_turn ∙ append_assoc stop.granted stop.rest second;
  there = stop.there;
  refused = first-more new stop.rest second e stop.refused;
}

-- one request is refused, and leaves the terms as they were
pub IsStopped-one
    : (old new : List Term) (t : Term) (e : GraphErr)
    → IsRefusal (ask old t) e
    → new ≡ old
    → IsStopped old new (t ∷ []) e
IsStopped-one old new t e refused same = record {
  granted = [];
  rest = t ∷ [];
  in_turn = refl;
  there = ap answered (sym same);
  refused = subst (λ z. IsRefusal (ask z t) e) (sym same) refused;
}

-- memory runs out behind requests that are granted
pub IsStopped-memory
    : (old new requests : List Term)
    → ask_all (answered old) requests ≡ answered new
    → IsStopped old new requests Memory
IsStopped-memory old new requests granted = record {
  granted = requests;
  rest = [];
  in_turn = sym (append-nil requests);
  there = granted;
  refused = tt;
}

-- the answer to the first request is that to them all, where it is a refusal
first-refusal
    : (terms rest : List Term) (e : GraphErr)
    → IsRefusal (ask_first terms rest) e
    → IsRefusal (ask_all (answered terms) rest) e
first-refusal terms [] e is = is
first-refusal terms (t ∷ rest) TooDeep is = ap (λ z. ask_all z rest) is ∙ ask_all-deep rest
first-refusal terms (t ∷ rest) Full is = ap (λ z. ask_all z rest) is ∙ ask_all-full rest
first-refusal terms (t ∷ rest) Memory is = tt

-- requests that stop are refused
pub IsStopped-refusal
    : (old new requests : List Term) (e : GraphErr)
    → IsStopped old new requests e
    → IsRefusal (ask_all (answered old) requests) e
IsStopped-refusal old new requests e stop =
    let parts =
    ap (ask_all (answered old)) stop.in_turn
    ∙ ask_all-append (answered old) stop.granted stop.rest
    ∙ ap (λ z. ask_all z stop.rest) stop.there in
    subst (λ z. IsRefusal z e) (sym parts) (first-refusal new stop.rest e stop.refused)

-- the same of what a call answers
pub IfErr-refusal
    : {T : Type 0} (old new requests : List Term) (r : Result T GraphErr)
    → IfErr r (IsStopped old new requests)
    → IfErr r (IsRefusal (ask_all (answered old) requests))
IfErr-refusal old new requests (Ok n) stop = tt
IfErr-refusal old new requests (Err e) stop = IsStopped-refusal old new requests e stop

-- ---- Requests that are left ----

-- Some of these requests are left: those before them are granted, and the terms are as they then are.
pub record AreLeft (old mid requests rest : List Term) : Type 0 where
  pub before : List Term
  pub is : requests ≡ before ++ rest
  pub granted : ask_all (answered old) before ≡ answered mid

-- one request
pub ask_all-one : (terms : List Term) (t : Term) → ask_all (answered terms) (t ∷ []) ≡ ask terms t
ask_all-one terms t = by_answer (ask terms t)
  where
    by_answer : (asked : Asked) → ask_all asked [] ≡ asked
    by_answer asked = refl

-- they are answered as those that are left
pub AreLeft-asked
    : (old mid requests rest : List Term)
    → AreLeft old mid requests rest
    → ask_all (answered old) requests ≡ ask_all (answered mid) rest
AreLeft-asked old mid requests rest left =
    ap (ask_all (answered old)) left.is
    ∙ ask_all-append (answered old) left.before rest
    ∙ ap (λ z. ask_all z rest) left.granted

-- the same, where one is left
pub AreLeft-one
    : (old mid requests : List Term) (t : Term)
    → AreLeft old mid requests (t ∷ [])
    → ask_all (answered old) requests ≡ ask mid t
AreLeft-one old mid requests t left = AreLeft-asked old mid requests (t ∷ []) left ∙ ask_all-one mid t

-- a stop in those that are left is one of them all
pub AreLeft-stopped
    : (old mid new requests rest : List Term) (e : GraphErr)
    → AreLeft old mid requests rest
    → IsStopped mid new rest e
    → IsStopped old new requests e
AreLeft-stopped old mid new requests rest e left stop = record {
  granted = left.before ++ stop.granted;
  rest = stop.rest;
  in_turn =
      left.is
      ∙ ap (λ z. left.before ++ z) stop.in_turn
      ∙ sym (append_assoc left.before stop.granted stop.rest);
  there =
      ask_all-append (answered old) left.before stop.granted
      ∙ ap (λ z. ask_all z stop.granted) left.granted
      ∙ stop.there;
  refused = stop.refused;
}

-- behind granted requests others are left
pub AreLeft-granted
    : (old mid first second : List Term)
    → ask_all (answered old) first ≡ answered mid
    → AreLeft old mid (first ++ second) second
AreLeft-granted old mid first second granted = record { before = first; is = refl; granted = granted }

-- and again others behind those that are left
pub AreLeft-more
    : (old mid last requests first second : List Term)
    → AreLeft old mid requests (first ++ second)
    → ask_all (answered mid) first ≡ answered last
    → AreLeft old last requests second
AreLeft-more old mid last requests first second left granted = record {
  before = left.before ++ first;
  is = left.is ∙ sym (append_assoc left.before first second);
  granted =
      ask_all-append (answered old) left.before first
      ∙ ap (λ z. ask_all z first) left.granted
      ∙ granted;
}

-- the answer to the last request is that of them all
pub product-stopped
    : {T : Type 0} (old mid new requests : List Term) (t : Term) (r : Result T GraphErr)
    → AreLeft old mid requests (t ∷ [])
    → IfErr r (IsRefusal (ask mid t))
    → OnErr r (new ≡ mid)
    → IfErr r (IsStopped old new requests)
product-stopped old mid new requests t (Ok n) left refused same = tt
product-stopped old mid new requests t (Err e) left refused same =
    AreLeft-stopped old mid new requests (t ∷ []) e left (IsStopped-one mid new t e refused same)
