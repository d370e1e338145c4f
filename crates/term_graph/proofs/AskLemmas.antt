-- What requests do to a list of terms.
--
-- The main lemmas are `ask_all-append`, `ask_all-Grants` and `ask_all-skip`.
use Rattle.std.proofs.Common.{◌≡◌, ℕ, suc, ◌<◌, ◌≤◌, ◌⊎◌, inl, inr, Bool, true, false, if◌then◌else◌, nat_lt, List, [], ◌∷◌, ◌++◌, length, refl, sym, ap, ◌∙◌, subst, true≢false, arith, append_assoc, append-nil, get_or}
use Rattle.std.proofs.lemmas.Bool.{and_parts, cases_Bool, lt-ltb, le-ltb}
use Rattle.std.proofs.lemmas.List.{get_or_append_left}
use Rattle.std.proofs.lemmas.List.Folds.{list_any_at, list_any-append}
use Rattle.ld_term.specs.Terms.{Term, variable, multiply, height}
use Rattle.ld_term.specs.declared.TheConstants.{MAX_HEIGHT}
use Rattle.term_graph.specs.TermLists.{term_at, product_count}
use Rattle.term_graph.specs.Asks.{same_term, has_term, Asked, answered, too_deep, full, ask, ask_all}
use Rattle.term_graph.specs.declared.TheConstants.{MAX_NODES}

-- ---- Whether a term is there ----

-- a term is itself
pub same_term-self : (t : Term) → same_term t t ≡ true
same_term-self variable = refl
same_term-self (multiply t u) = rw (same_term-self t, same_term-self u) refl

-- terms that pass the test are one
pub same_term-true : (t u : Term) → same_term t u ≡ true → t ≡ u
same_term-true variable variable is = refl
same_term-true variable (multiply c d) is = absurd (true≢false (sym is))
same_term-true (multiply a b) variable is = absurd (true≢false (sym is))
same_term-true (multiply a b) (multiply c d) is =
    let (left, right) = and_parts (same_term a c) (same_term b d) is in
    λ i. multiply (same_term-true a c left i) (same_term-true b d right i)

-- each term of a list is there
pub has_term-in
    : (terms : List Term) (n : ℕ) (d : Term)
    → n < length terms
    → has_term (get_or terms n d) terms ≡ true
has_term-in terms n d within =
    list_any_at (same_term (get_or terms n d)) terms n d within (same_term-self (get_or terms n d))

-- so is the term of each number
pub has_term-at : (terms : List Term) (n : ℕ) → n < length terms → has_term (term_at terms n) terms ≡ true
has_term-at terms n within = has_term-in terms n variable within

-- A number that stands for a term.
pub record Stands (t : Term) (terms : List Term) : Type 0 where
  pub number : ℕ
  pub within : number < length terms
  pub is : term_at terms number ≡ t

Stands-more : (t u : Term) (terms : List Term) → Stands t terms → Stands t (u ∷ terms)
Stands-more t u terms s = record { number = suc s.number; within = omega (arith, s.within); is = s.is }

-- a term that is there has a number
pub has_term-Stands : (t : Term) (terms : List Term) → has_term t terms ≡ true → Stands t terms
has_term-Stands t [] is = absurd (true≢false (sym is))
has_term-Stands t (u ∷ terms) is = elim (cases_Bool (same_term t u)) [
  | inl one ↦ record { number = 0; within = omega arith; is = sym (same_term-true t u one) }
  | inr other ↦ Stands-more t u terms (has_term-Stands t terms (rw other at is))
]

-- and a term that has a number is there
pub Stands-has_term : (t : Term) (terms : List Term) → Stands t terms → has_term t terms ≡ true
Stands-has_term t terms s = subst (λ z. has_term z terms ≡ true) s.is (has_term-at terms s.number s.within)

-- a term that is there stays where terms are added
pub has_term-append_left
    : (t : Term) (xs ys : List Term)
    → has_term t xs ≡ true
    → has_term t (xs ++ ys) ≡ true
has_term-append_left t xs ys there = rw (list_any-append (same_term t) xs ys, there) refl

-- a term that is added is there
pub has_term-push : (t : Term) (terms : List Term) → has_term t (terms ++ t ∷ []) ≡ true
has_term-push t terms = list_any-append (same_term t) terms (t ∷ []) ∙ elim (cases_Bool (has_term t terms)) [
  | inl there ↦ rw there refl
  | inr absent ↦ rw (absent, same_term-self t) refl
]

-- ---- One request ----

-- a term that is there is answered as it is
pub ask-there : (terms : List Term) (t : Term) → has_term t terms ≡ true → ask terms t ≡ answered terms
ask-there terms t there = rw there refl

-- a new term that is too high is refused for it
pub ask-deep
    : (terms : List Term) (t : Term)
    → has_term t terms ≡ false
    → MAX_HEIGHT < height t
    → ask terms t ≡ too_deep
ask-deep terms t absent high = let test = lt-ltb MAX_HEIGHT (height t) high in rw (absent, test) refl

-- a new term is refused where too many are there
pub ask-full
    : (terms : List Term) (t : Term)
    → has_term t terms ≡ false
    → height t ≤ MAX_HEIGHT
    → MAX_NODES ≤ product_count terms
    → ask terms t ≡ full
ask-full terms t absent low many =
    let test = le-ltb MAX_HEIGHT (height t) low in
    let room = le-ltb (product_count terms) MAX_NODES many in
    rw (absent, test, room) refl

-- a new term is added otherwise
pub ask-new
    : (terms : List Term) (t : Term)
    → has_term t terms ≡ false
    → height t ≤ MAX_HEIGHT
    → product_count terms < MAX_NODES
    → ask terms t ≡ answered (terms ++ t ∷ [])
ask-new terms t absent low few =
    let test = le-ltb MAX_HEIGHT (height t) low in
    let room = lt-ltb (product_count terms) MAX_NODES few in
    rw (absent, test, room) refl

granted
    : (there high room : Bool) (old : List Term) (t : Term) (new : List Term)
    → (if there then answered old
    else (if high then too_deep
    else (if room then answered (old ++ t ∷ []) else full))) ≡ answered new
    → ((there ≡ true) × (new ≡ old)) ⊎ (new ≡ old ++ t ∷ [])
granted true high room old t new is = inl (refl, cc)
granted false true room old t new is = absurd cc
granted false false true old t new is = inr cc
granted false false false old t new is = absurd cc

-- a request that is granted finds the term there, or adds it
pub ask-granted
    : (old : List Term) (t : Term) (new : List Term)
    → ask old t ≡ answered new
    → ((has_term t old ≡ true) × (new ≡ old)) ⊎ (new ≡ old ++ t ∷ [])
ask-granted old t new is =
    granted (has_term t old) (nat_lt MAX_HEIGHT (height t)) (nat_lt (product_count old) MAX_NODES)
    old t new is

-- ---- Lists that grow ----

-- Terms were added behind the others.
pub record Extends (old new : List Term) : Type 0 where
  pub added : List Term
  pub is : new ≡ old ++ added

pub Extends-self : (terms : List Term) → Extends terms terms
Extends-self terms = record { added = []; is = sym (append-nil terms) }

pub Extends-trans : {a b c : List Term} → Extends a b → Extends b c → Extends a c
Extends-trans {a} {b} {c} one two = record {
  added = one.added ++ two.added;
  is = two.is ∙ ap (λ z. z ++ two.added) one.is ∙ append_assoc a one.added two.added;
}

-- a number stands for the term that it stood for
pub Extends-term_at
    : {old new : List Term}
    → Extends old new
    → (n : ℕ)
    → n < length old
    → term_at new n ≡ term_at old n
Extends-term_at {old} {new} more n within =
    ap (λ z. term_at z n) more.is ∙ get_or_append_left old more.added variable n within

-- what was there is there
pub Extends-has_term
    : {old new : List Term}
    → Extends old new
    → (t : Term)
    → has_term t old ≡ true
    → has_term t new ≡ true
Extends-has_term {old} {new} more t there =
    ap (has_term t) more.is ∙ has_term-append_left t old more.added there

-- a request adds to the list
pub ask-extends
    : (old : List Term) (t : Term) (new : List Term)
    → ask old t ≡ answered new
    → Extends old new
ask-extends old t new is = elim (ask-granted old t new is) [
  | inl kept ↦ subst (Extends old) (sym kept.1) (Extends-self old)
  | inr more ↦ record { added = t ∷ []; is = more }
]

-- the term that was asked for is there afterwards
pub ask-has
    : (old : List Term) (t : Term) (new : List Term)
    → ask old t ≡ answered new
    → has_term t new ≡ true
ask-has old t new is = elim (ask-granted old t new is) [
  | inl kept ↦ ap (has_term t) kept.1 ∙ kept.0
  | inr more ↦ ap (has_term t) more ∙ has_term-push t old
]

-- ---- Lists of requests ----

-- a refusal stays
pub ask_all-deep : (requests : List Term) → ask_all too_deep requests ≡ too_deep
ask_all-deep [] = refl
ask_all-deep (t ∷ requests) = refl

pub ask_all-full : (requests : List Term) → ask_all full requests ≡ full
ask_all-full [] = refl
ask_all-full (t ∷ requests) = refl

-- requests in two parts are asked one part after the other
pub ask_all-append
    : (asked : Asked) (xs ys : List Term)
    → ask_all asked (xs ++ ys) ≡ ask_all (ask_all asked xs) ys
ask_all-append asked [] ys = refl
ask_all-append (answered terms) (t ∷ xs) ys = ask_all-append (ask terms t) xs ys
ask_all-append too_deep (t ∷ xs) ys = sym (ask_all-deep ys)
ask_all-append full (t ∷ xs) ys = sym (ask_all-full ys)

-- What granted requests bring: the list grows, and each term that was asked for is there.
pub record Grants (old : List Term) (requests : List Term) (new : List Term) : Type 0 where
  pub extends : Extends old new
  pub has : (t : Term) → has_term t requests ≡ true → has_term t new ≡ true

Grants-none : (old new : List Term) → ask_all (answered old) [] ≡ answered new → Grants old [] new
Grants-none old new is =
    let one : old ≡ new = cc in
    record {
      extends = subst (Extends old) one (Extends-self old);
      has = λ t there. absurd (true≢false (sym there));
    }

Grants-more
    : (old : List Term) (t : Term) (requests new middle : List Term)
    → ask old t ≡ answered middle
    → Grants middle requests new
    → Grants old (t ∷ requests) new
Grants-more old t requests new middle first rest = record {
  extends = Extends-trans (ask-extends old t middle first) rest.extends;
  has = λ u there. elim (cases_Bool (same_term u t)) [
    | inl one ↦
        let is = same_term-true u t one in
        subst (λ z. has_term z new ≡ true) (sym is)
        (Extends-has_term rest.extends t (ask-has old t middle first))
    | inr other ↦ rest.has u (rw other at there)
  ];
}

-- the same, where the first request was answered so
Grants-next
    : (old : List Term) (t : Term) (requests new : List Term) (asked : Asked)
    → ask old t ≡ asked
    → ask_all asked requests ≡ answered new
    → ((middle : List Term) → ask_all (answered middle) requests ≡ answered new → Grants middle requests new)
    → Grants old (t ∷ requests) new
Grants-next old t requests new (answered middle) first rest after =
    Grants-more old t requests new middle first (after middle rest)
Grants-next old t requests new too_deep first rest after =
    let none : too_deep ≡ answered new = sym (ask_all-deep requests) ∙ rest in absurd cc
Grants-next old t requests new full first rest after =
    let none : full ≡ answered new = sym (ask_all-full requests) ∙ rest in absurd cc

-- granted requests add to the list, and each term that was asked for is there afterwards
pub ask_all-Grants
    : (old requests new : List Term)
    → ask_all (answered old) requests ≡ answered new
    → Grants old requests new
ask_all-Grants old [] new is = Grants-none old new is
ask_all-Grants old (t ∷ requests) new is =
    Grants-next old t requests new (ask old t) refl is
    (λ middle rest. ask_all-Grants middle requests new rest)

-- requests for terms that are there change nothing
pub ask_all-there
    : (terms requests : List Term)
    → ((t : Term) → has_term t requests ≡ true → has_term t terms ≡ true)
    → ask_all (answered terms) requests ≡ answered terms
ask_all-there terms [] there = refl
ask_all-there terms (t ∷ requests) there =
    let first : has_term t terms ≡ true = there t (rw (same_term-self t) refl) in
    ap (λ z. ask_all z requests) (ask-there terms t first)
    ∙ ask_all-there terms requests (λ u among. there u (later u among))
  where
    later : (u : Term) → has_term u requests ≡ true → has_term u (t ∷ requests) ≡ true
    later u among = elim (cases_Bool (same_term u t)) [
      | inl one ↦ rw one refl
      | inr other ↦ rw (other, among) refl
    ]

-- a request for a term that was asked for before may be left out
pub ask_all-skip
    : (old before : List Term) (t : Term) (after : List Term)
    → has_term t before ≡ true
    → ask_all (answered old) (before ++ t ∷ after) ≡ ask_all (answered old) (before ++ after)
ask_all-skip old before t after among =
    ask_all-append (answered old) before (t ∷ after)
    ∙ skip (ask_all (answered old) before) refl
    ∙ sym (ask_all-append (answered old) before after)
  where
    skip
        : (asked : Asked)
        → ask_all (answered old) before ≡ asked
        → ask_all asked (t ∷ after) ≡ ask_all asked after
    skip (answered terms) is =
        ap (λ z. ask_all z after) (ask-there terms t ((ask_all-Grants old before terms is).has t among))
    skip too_deep is = sym (ask_all-deep after)
    skip full is = sym (ask_all-full after)
