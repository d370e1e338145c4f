-- Expansion at an address: down to the place, and back with a product at each step.
--
-- An expansion of a part is one of the whole (`expansion_at-Expands`). A function that went to a part has
-- only the product above it to ask for (`IsDue`), and so its answer is an outcome (`product-done`,
-- `product-refused`).
use Rattle.std.proofs.Common.{◌≡◌, ℕ, ◌<◌, ◌==◌, inl, inr, true, false, List, [], ◌∷◌, ◌++◌, length, Result, Ok, Err, IfOk, refl, sym, ap, ◌∙◌, subst, arith}
use Rattle.std.proofs.lemmas.Bool.{cases_Bool, eq-eqb, ne_eqb}
use Rattle.ld_term.specs.Terms.{Term, variable, multiply, Expands, here, on_left, on_right}
use Rattle.term_graph.specs.TermLists.{term_at}
use Rattle.term_graph.specs.Asks.{Asked, answered, ask, ask_all, IsRefusal, IsStopped}
use Rattle.term_graph.specs.Requests.{IsFront}
use Rattle.term_graph.specs.declared.error.GraphErr.{GraphErr}
use Rattle.term_graph.specs.declared.error.GraphErr.TheVariants as graph_errors
use Rattle.term_graph.proofs.StopLemmas.{IsStopped-first, IsStopped-one, IsStopped-refusal, ask_all-one, AreLeft, AreLeft-one, AreLeft-stopped, AreLeft-granted, AreLeft-more}
use Rattle.term_graph.proofs.RequestLemmas.{IsFront-trans, IsFront-ask, term_at-front, length-front}
use Rattle.term_expand.specs.Expansions.{Expansion, expanded, no_place, not_expandable, within, expansion_at, IsExpandRefusal, IsExpandStopped}
use Rattle.term_expand.specs.Requests.{above, expand_requests}
use Rattle.term_expand.specs.Outcomes.{failure_of, Outcome}
use Rattle.term_expand.specs.declared.error.ExpandErr.{ExpandErr}
use Rattle.term_expand.specs.declared.error.ExpandErr.TheVariants.{NoPlace, NotExpandable, TooDeep, Full, Memory}

-- ---- Expansions ----

-- what a part is expanded to stands in the whole
within-expanded
    : (whole : Term → Term) (t u : Term) (e : Expansion)
    → ((a b : Term) → Expands a b → Expands (whole a) (whole b))
    → ((b : Term) → e ≡ expanded b → Expands t b)
    → within whole e ≡ expanded u
    → Expands (whole t) u
within-expanded whole t u (expanded b) lift part is =
    let one : whole b ≡ u = cc in subst (Expands (whole t)) one (lift t b (part b refl))
within-expanded whole t u no_place lift part is = absurd cc
within-expanded whole t u not_expandable lift part is = absurd cc

-- a term that is expanded at an address has one part expanded
pub expansion_at-Expands
    : (address : List ℕ) (t u : Term)
    → expansion_at address t ≡ expanded u
    → Expands t u
expansion_at-Expands [] variable u is = absurd cc
expansion_at-Expands [] (multiply t variable) u is = absurd cc
expansion_at-Expands [] (multiply t (multiply a b)) u is =
    let one : multiply (multiply t a) (multiply t b) ≡ u = cc in
    subst (Expands (multiply t (multiply a b))) one (here t a b)
expansion_at-Expands (side ∷ address) variable u is = absurd cc
expansion_at-Expands (side ∷ address) (multiply a b) u is = elim (cases_Bool (side == 48)) [
  | inl left ↦
      within-expanded (λ z. multiply z b) a u (expansion_at address a) (λ v w. on_left b)
      (λ v. expansion_at-Expands address a v) (rw left at is)
  | inr right ↦
      within-expanded (λ z. multiply a z) b u (expansion_at address b) (λ v w. on_right a)
      (λ v. expansion_at-Expands address b v) (rw right at is)
]

-- so has the term that an expansion answers
pub IfOk-Expands
    : (address : List ℕ) (t : Term) (new : List Term) (r : Result ℕ ExpandErr)
    → IfOk r (λ n. expansion_at address t ≡ expanded (term_at new n))
    → IfOk r (λ n. Expands t (term_at new n))
IfOk-Expands address t new (Ok n) is = expansion_at-Expands address t (term_at new n) is
IfOk-Expands address t new (Err e) is = tt

-- where a part has no such place, the whole has none
within-placeless : (whole : Term → Term) (e : Expansion) → within whole e ≡ no_place → e ≡ no_place
within-placeless whole (expanded t) is = absurd cc
within-placeless whole no_place is = refl
within-placeless whole not_expandable is = absurd cc

-- where the place of a part is no such product, that of the whole is none
within-stuck : (whole : Term → Term) (e : Expansion) → within whole e ≡ not_expandable → e ≡ not_expandable
within-stuck whole (expanded t) is = absurd cc
within-stuck whole no_place is = absurd cc
within-stuck whole not_expandable is = refl

-- ---- Outcomes ----

-- a refused product fails the expansion for its cause
failure-refusal
    : (expansion : Expansion) (asked : Asked) (e : GraphErr)
    → IsRefusal asked e
    → IsExpandRefusal expansion asked (failure_of e)
failure-refusal expansion asked graph_errors.TooDeep is = is
failure-refusal expansion asked graph_errors.Full is = is
failure-refusal expansion asked graph_errors.Memory is = tt

-- it leaves the graph as the product's requests did
failure-stopped
    : (old new requests : List Term) (e : GraphErr)
    → IsStopped old new requests e
    → IsExpandStopped old new requests (failure_of e)
failure-stopped old new requests graph_errors.TooDeep stop = stop
failure-stopped old new requests graph_errors.Full stop = stop
failure-stopped old new requests graph_errors.Memory stop = stop

-- the requests stop
pub stopped-outcome
    : (old new : List Term) (address : List ℕ) (t u : Term) (e : GraphErr)
    → expansion_at address t ≡ expanded u
    → IsStopped old new (expand_requests address t) e
    → IsFront old new
    → Outcome old address t new (Err (failure_of e))
stopped-outcome old new address t u e is stop kept = record {
  number = tt;
  term = tt;
  asked = tt;
  refused =
      failure-refusal (expansion_at address t) (ask_all (answered old) (expand_requests address t)) e
      (IsStopped-refusal old new (expand_requests address t) e stop);
  placeless = λ other. let none : expanded u ≡ no_place = sym is ∙ other in absurd cc;
  stuck = λ other. let none : expanded u ≡ not_expandable = sym is ∙ other in absurd cc;
  stopped = failure-stopped old new (expand_requests address t) e stop;
  kept = kept;
}

-- ---- The last product ----

-- Of an expansion's requests only that for the whole term is left.
pub record IsDue (old mid : List Term) (address : List ℕ) (t u : Term) : Type 0 where
  pub expansion : expansion_at address t ≡ expanded u
  pub due : AreLeft old mid (expand_requests address t) (u ∷ [])
  pub kept : IsFront old mid

-- it is refused
pub product-refused
    : (old mid new : List Term) (address : List ℕ) (t u : Term) (e : GraphErr)
    → IsDue old mid address t u
    → IsRefusal (ask mid u) e
    → new ≡ mid
    → Outcome old address t new (Err (failure_of e))
product-refused old mid new address t u e due refused same =
    stopped-outcome old new address t u e due.expansion
    (AreLeft-stopped old mid new _ _ e due.due (IsStopped-one mid new u e refused same))
    (subst (IsFront old) (sym same) due.kept)

-- it is granted
pub product-done
    : (old mid new : List Term) (address : List ℕ) (t u : Term) (n : ℕ)
    → IsDue old mid address t u
    → n < length new
    → term_at new n ≡ u
    → ask mid u ≡ answered new
    → Outcome old address t new (Ok n)
product-done old mid new address t u n due within is granted = record {
  number = within;
  term = due.expansion ∙ ap expanded (sym is);
  asked = AreLeft-one old mid _ u due.due ∙ granted;
  refused = tt;
  placeless = λ other. let none : expanded u ≡ no_place = sym due.expansion ∙ other in absurd cc;
  stuck = λ other. let none : expanded u ≡ not_expandable = sym due.expansion ∙ other in absurd cc;
  stopped = tt;
  kept = IsFront-trans old mid new due.kept (IsFront-ask mid new u granted);
}

-- along no address the term itself is expanded
pub Outcome-here
    : (old : List Term) (address : List ℕ) (t : Term) (new : List Term) (result : Result ℕ ExpandErr)
    → length address ≡ 0
    → Outcome old [] t new result
    → Outcome old address t new result
Outcome-here old [] t new result none outcome = outcome
Outcome-here old (byte ∷ bytes) t new result none outcome = absurd (omega (arith, none))

-- ---- One step of the address ----

-- The address leads from a term to a part of it, and then along the rest.
pub record IsStep (address rest : List ℕ) (t part : Term) (whole : Term → Term) : Type 0 where
  pub expansion : expansion_at address t ≡ within whole (expansion_at rest part)
  pub requests : expand_requests address t ≡ expand_requests rest part ++ above whole (expansion_at rest part)

-- to the left part
pub left-step
    : (address rest : List ℕ) (side : ℕ) (t a b : Term)
    → address ≡ side ∷ rest
    → side ≡ 48
    → t ≡ multiply a b
    → IsStep address rest t a (λ z. multiply z b)
left-step address rest side t a b is left product =
    let test : (side == 48) ≡ true = eq-eqb side 48 left in
    record { expansion = rw (is, product, test) refl; requests = rw (is, product, test) refl }

-- to the right part
pub right-step
    : (address rest : List ℕ) (side : ℕ) (t a b : Term)
    → address ≡ side ∷ rest
    → (side ≡ 48 → ⊥)
    → t ≡ multiply a b
    → IsStep address rest t b (λ z. multiply a z)
right-step address rest side t a b is right product =
    let test : (side == 48) ≡ false = ne_eqb side 48 right in
    record { expansion = rw (is, product, test) refl; requests = rw (is, product, test) refl }

-- where the requests of the part stop, those of the whole do
step-stopped
    : (old new : List Term) (address rest : List ℕ) (t part : Term) (whole : Term → Term) (e : ExpandErr)
    → IsStep address rest t part whole
    → IsExpandStopped old new (expand_requests rest part) e
    → IsExpandStopped old new (expand_requests address t) e
step-stopped old new address rest t part whole NoPlace step same = same
step-stopped old new address rest t part whole NotExpandable step same = same
step-stopped old new address rest t part whole TooDeep step stop =
    subst (λ z. IsStopped old new z graph_errors.TooDeep) (sym step.requests)
    (IsStopped-first old new (expand_requests rest part) _ graph_errors.TooDeep stop)
step-stopped old new address rest t part whole Full step stop =
    subst (λ z. IsStopped old new z graph_errors.Full) (sym step.requests)
    (IsStopped-first old new (expand_requests rest part) _ graph_errors.Full stop)
step-stopped old new address rest t part whole Memory step stop =
    subst (λ z. IsStopped old new z graph_errors.Memory) (sym step.requests)
    (IsStopped-first old new (expand_requests rest part) _ graph_errors.Memory stop)

-- a refusal of the part is one of the whole
step-refusal
    : (old new : List Term) (address rest : List ℕ) (t part : Term) (whole : Term → Term) (e : ExpandErr)
    → IsStep address rest t part whole
    → IsExpandRefusal (expansion_at rest part) (ask_all (answered old) (expand_requests rest part)) e
    → IsExpandStopped old new (expand_requests address t) e
    → IsExpandRefusal (expansion_at address t) (ask_all (answered old) (expand_requests address t)) e
step-refusal old new address rest t part whole NoPlace step is stop = step.expansion ∙ ap (within whole) is
step-refusal old new address rest t part whole NotExpandable step is stop =
    step.expansion ∙ ap (within whole) is
step-refusal old new address rest t part whole TooDeep step is stop =
    IsStopped-refusal old new (expand_requests address t) graph_errors.TooDeep stop
step-refusal old new address rest t part whole Full step is stop =
    IsStopped-refusal old new (expand_requests address t) graph_errors.Full stop
step-refusal old new address rest t part whole Memory step is stop = tt

-- where the part isn't expanded, the whole isn't
pub part-refused
    : (old new : List Term) (address rest : List ℕ) (t part : Term) (whole : Term → Term) (e : ExpandErr)
    → IsStep address rest t part whole
    → Outcome old rest part new (Err e)
    → Outcome old address t new (Err e)
part-refused old new address rest t part whole e step out = record {
  number = tt;
  term = tt;
  asked = tt;
  refused =
      step-refusal old new address rest t part whole e step out.refused
      (step-stopped old new address rest t part whole e step out.stopped);
  placeless = λ is. out.placeless (within-placeless whole (expansion_at rest part) (sym step.expansion ∙ is));
  stuck = λ is. out.stuck (within-stuck whole (expansion_at rest part) (sym step.expansion ∙ is));
  stopped = step-stopped old new address rest t part whole e step out.stopped;
  kept = out.kept;
}

-- where the part is expanded, the product above it is due
pub part-done
    : (old mid : List Term) (address rest : List ℕ) (t part : Term) (whole : Term → Term) (n : ℕ)
    → IsStep address rest t part whole
    → Outcome old rest part mid (Ok n)
    → IsDue old mid address t (whole (term_at mid n))
part-done old mid address rest t part whole n step out =
    let last = whole (term_at mid n) in
    record {
      expansion = step.expansion ∙ ap (within whole) out.term;
      due =
          subst (λ z. AreLeft old mid z (last ∷ []))
          (sym (step.requests ∙ ap (λ z. expand_requests rest part ++ above whole z) out.term))
          (AreLeft-granted old mid (expand_requests rest part) (last ∷ []) out.asked);
      kept = out.kept;
    }

-- the product of the left part's expansion is due
pub left-due
    : (old mid : List Term) (address rest : List ℕ) (t : Term) (left right n : ℕ)
    → IsStep address rest t (term_at old left) (λ z. multiply z (term_at old right))
    → right < length old
    → Outcome old rest (term_at old left) mid (Ok n)
    → IsDue old mid address t (multiply (term_at mid n) (term_at mid right))
left-due old mid address rest t left right n step within out =
    subst (λ z. IsDue old mid address t (multiply (term_at mid n) z))
    (sym (term_at-front old mid right out.kept within))
    (part-done old mid address rest t _ _ n step out)

-- that of the right part's expansion is due
pub right-due
    : (old mid : List Term) (address rest : List ℕ) (t : Term) (left right n : ℕ)
    → IsStep address rest t (term_at old right) (λ z. multiply (term_at old left) z)
    → left < length old
    → Outcome old rest (term_at old right) mid (Ok n)
    → IsDue old mid address t (multiply (term_at mid left) (term_at mid n))
right-due old mid address rest t left right n step within out =
    subst (λ z. IsDue old mid address t (multiply z (term_at mid n)))
    (sym (term_at-front old mid left out.kept within))
    (part-done old mid address rest t _ _ n step out)

-- ---- At the place ----

-- A term is a product t(uv), and the numbers of its parts are these.
pub record ArePlaced (old : List Term) (whole : Term) (left middle last : ℕ) : Type 0 where
  pub left_within : left < length old
  pub middle_within : middle < length old
  pub last_within : last < length old
  pub is : whole ≡ multiply (term_at old left) (multiply (term_at old middle) (term_at old last))

-- by the parts of the term and those of its right part
pub are-placed
    : (old : List Term) (node left right middle last : ℕ)
    → node < length old
    → (left < node) × (right < node) × (term_at old node ≡ multiply (term_at old left) (term_at old right))
    → (middle < right) × (last < right)
    × (term_at old right ≡ multiply (term_at old middle) (term_at old last))
    → ArePlaced old (term_at old node) left middle last
are-placed old node left right middle last within (left_low, right_low, whole) (middle_low, last_low, part) =
    record {
      left_within = omega (arith, within, left_low);
      middle_within = omega (arith, within, right_low, middle_low);
      last_within = omega (arith, within, right_low, last_low);
      is = whole ∙ ap (multiply (term_at old left)) part;
    }

module _ (old : List Term) (t : Term) (left middle last : ℕ) (placed : ArePlaced old t left middle last) where
  abbrev here_first : Term
  here_first = multiply (term_at old left) (term_at old middle)

  abbrev here_second : Term
  here_second = multiply (term_at old left) (term_at old last)

  here-expansion : expansion_at [] t ≡ expanded (multiply here_first here_second)
  here-expansion = ap (expansion_at []) placed.is

  here-requests : expand_requests [] t ≡ here_first ∷ (here_second ∷ (multiply here_first here_second ∷ []))
  here-requests = ap (expand_requests []) placed.is

  module _ (mid : List Term) (granted : ask old here_first ≡ answered mid) where
    front : IsFront old mid
    front = IsFront-ask old mid here_first granted

    -- the numbers are still there
    pub still-placed : (left < length mid) × (middle < length mid) × (last < length mid)
    still-placed = (
      length-front old mid left front placed.left_within,
      length-front old mid middle front placed.middle_within,
      length-front old mid last front placed.last_within,
    )

    -- the product tv, of the terms that the numbers stand for then
    second-is : multiply (term_at mid left) (term_at mid last) ≡ here_second
    second-is =
        ap (λ z. multiply z (term_at mid last)) (term_at-front old mid left front placed.left_within)
        ∙ ap (multiply (term_at old left)) (term_at-front old mid last front placed.last_within)

    -- behind tu the two others are left
    first-due : AreLeft old mid (expand_requests [] t) (here_second ∷ (multiply here_first here_second ∷ []))
    first-due =
        subst (λ z. AreLeft old mid z (here_second ∷ (multiply here_first here_second ∷ [])))
        (sym here-requests)
        (AreLeft-granted old mid (here_first ∷ []) _ (ask_all-one old here_first ∙ granted))

    -- tv is refused
    pub second-refused
        : (new : List Term) (e : GraphErr)
        → IsRefusal (ask mid (multiply (term_at mid left) (term_at mid last))) e
        → new ≡ mid
        → Outcome old [] t new (Err (failure_of e))
    second-refused new e refused same =
        stopped-outcome old new [] t _ e here-expansion
        (AreLeft-stopped old mid new _ _ e first-due
        (IsStopped-first mid new (here_second ∷ []) (multiply here_first here_second ∷ []) e
        (IsStopped-one mid new here_second e (subst (λ z. IsRefusal (ask mid z) e) second-is refused) same)))
        (subst (IsFront old) (sym same) front)

    -- both are granted
    pub here-due
        : (new : List Term) (first second : ℕ)
        → first < length mid
        → term_at mid first ≡ here_first
        → ask mid (multiply (term_at mid left) (term_at mid last)) ≡ answered new
        → term_at new second ≡ multiply (term_at mid left) (term_at mid last)
        → (first < length new) × IsDue old new [] t (multiply (term_at new first) (term_at new second))
    here-due new first second within first_is also second_number =
        let also_granted : ask mid here_second ≡ answered new = ap (ask mid) (sym second-is) ∙ also in
        let behind = IsFront-ask mid new here_second also_granted in
        let product : multiply here_first here_second ≡ multiply (term_at new first) (term_at new second) =
        ap (λ z. multiply z here_second) (sym (term_at-front mid new first behind within ∙ first_is))
        ∙ ap (multiply (term_at new first)) (sym (second_number ∙ second-is)) in (
          length-front mid new first behind within,
          record {
            expansion = here-expansion ∙ ap expanded product;
            due =
                subst (λ z. AreLeft old new (expand_requests [] t) (z ∷ [])) product
                (AreLeft-more old mid new (expand_requests [] t) (here_second ∷ []) _ first-due
                (ask_all-one mid here_second ∙ also_granted));
            kept = IsFront-trans old mid new front behind;
          },
        )
