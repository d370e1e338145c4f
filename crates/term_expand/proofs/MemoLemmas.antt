-- What a call remembers.
--
-- An answer stays one where the graph grows (`IsMemo-front`), what was made is one (`IsMade-answer`), and an
-- answer is made without a change (`IsAnswer-made`).
use Rattle.std.proofs.Common.{◌≡◌, ℕ, Bool, true, false, nat_eq, List, [], ◌∷◌, Option, All, IfSome, Result, Ok, Err, OnOk, refl, sym, ap, ◌∙◌, subst, true≢false, if◌then◌else◌}
use Rattle.std.proofs.lemmas.Bool.{and_parts, eqb-true}
use Rattle.std.proofs.lemmas.List.Elements.{All-from_recursion, recursion_from_All, All-contains}
use Rattle.std.proofs.lemmas.Map.Views.{IfSome-lookup}
use Rattle.std.proofs.lemmas.Option.{IfSome_then}
use Rattle.std.specs.List.{AllByRecursion}
use Rattle.indexmap.specs.IndexMap.{get_by, insert_entry}
use Rattle.ld_term.specs.Terms.{Term, multiply}
use Rattle.term_graph.specs.TermLists.{term_at}
use Rattle.term_graph.specs.Asks.{has_term, answered, ask}
use Rattle.term_graph.specs.Requests.{IsFront}
use Rattle.term_graph.specs.declared.error.GraphErr.{GraphErr}
use Rattle.term_graph.proofs.AskLemmas.{Extends-has_term, ask_all-Grants, ask_all-there}
use Rattle.term_graph.proofs.RequestLemmas.{length-front, term_at-front, IsFront-ask}
use Rattle.term_expand.specs.Memos.{wanted, requests, HasNumbers, IsMade, IsAnswer, IsMemo}
use Rattle.term_expand.specs.declared.memo.Memo.{Memo}
use Rattle.term_expand.specs.declared.memo.Work.{Work}
use Rattle.term_expand.specs.declared.memo.Work.TheVariants.{Distribution, Derivation}
use Rattle.term_expand.specs.contracts.memo.WorkPartialEq.TheImpl.{eq-value}

-- ---- The map ----

-- Whether two works are one, by the derived comparison.
abbrev pub same_work : Work → Work → Bool
same_work = eq-value.it

-- works of which that holds are one
same_work-true : (v w : Work) → same_work v w ≡ true → v ≡ w
same_work-true (Distribution a b) (Distribution c d) is =
    let (first, second) = and_parts (nat_eq a c) (nat_eq b d) is in
    λ i. Distribution (eqb-true a c first i) (eqb-true b d second i)
same_work-true (Distribution a b) (Derivation c) is = absurd (true≢false (sym is))
same_work-true (Derivation a) (Distribution c d) is = absurd (true≢false (sym is))
same_work-true (Derivation a) (Derivation c) is = ap Derivation (eqb-true a c is)

-- what is remembered is an answer
pub IsMemo-found
    : (terms : List Term) (memo : Memo) (work : Work) (o : Option ℕ)
    → o ≡ get_by (same_work work) memo.numbers
    → IsMemo terms memo
    → IfSome o (IsAnswer terms work)
IsMemo-found terms memo work o is all =
    subst (λ z. IfSome z (IsAnswer terms work)) (sym is)
    (IfSome_then _ (IfSome-lookup same_work-true work memo.numbers.entries)
    (λ n among. All-contains (λ own. IsAnswer terms own.0 own.1) memo.numbers.entries (work, n) all among))

module _ (P : Work × ℕ → Type 0) (work : Work) (n : ℕ) (new : P (work, n)) where
  -- what holds of each entry and of the new one holds of each afterwards
  insert-recursion
      : (entries : List (Work × ℕ))
      → AllByRecursion P entries
      → AllByRecursion P (insert_entry same_work entries work n)
  insert-recursion [] all = (new, tt)
  insert-recursion (own ∷ entries) all = by_test (same_work work own.0) refl (insert-recursion entries all.1)
    where
      by_test
          : (b : Bool)
          → same_work work own.0 ≡ b
          → AllByRecursion P (insert_entry same_work entries work n)
          → AllByRecursion P (if b then (own.0, n) ∷ entries else own ∷ insert_entry same_work entries work n)
      by_test true one rest = (subst (λ z. P (z, n)) (same_work-true work own.0 one) new, all.1)
      by_test false other rest = (all.0, rest)

-- an answer is added
pub IsMemo-remembered
    : (terms : List Term) (old new : Memo) (work : Work) (n : ℕ)
    → new.numbers.entries ≡ insert_entry same_work old.numbers.entries work n
    → IsMemo terms old
    → IsAnswer terms work n
    → IsMemo terms new
IsMemo-remembered terms old new work n is all answer =
    let P : Work × ℕ → Type 0 = λ own. IsAnswer terms own.0 own.1 in
    subst (All P) (sym is)
    (All-from_recursion P _
    (insert-recursion P work n answer old.numbers.entries (recursion_from_All P old.numbers.entries all)))

-- ---- A graph that grows ----

module _ (old new : List Term) (front : IsFront old new) where
  -- the term stays
  pub wanted-front : (work : Work) → HasNumbers old work → wanted new work ≡ wanted old work
  wanted-front (Distribution a b) numbers =
      rw (term_at-front old new a front numbers.0, term_at-front old new b front numbers.1) refl
  wanted-front (Derivation a) numbers = rw (term_at-front old new a front numbers) refl

  -- so do its requests
  pub requests-front : (work : Work) → HasNumbers old work → requests new work ≡ requests old work
  requests-front (Distribution a b) numbers =
      rw (term_at-front old new a front numbers.0, term_at-front old new b front numbers.1) refl
  requests-front (Derivation a) numbers = rw (term_at-front old new a front numbers) refl

  -- and its numbers
  pub HasNumbers-front : (work : Work) → HasNumbers old work → HasNumbers new work
  HasNumbers-front (Distribution a b) numbers =
      (length-front old new a front numbers.0, length-front old new b front numbers.1)
  HasNumbers-front (Derivation a) numbers = length-front old new a front numbers

  -- an answer stays one
  IsAnswer-front : (work : Work) (n : ℕ) → IsAnswer old work n → IsAnswer new work n
  IsAnswer-front work n answer = record {
    numbers = HasNumbers-front work answer.numbers;
    within = length-front old new n front answer.within;
    term =
        term_at-front old new n front answer.within
        ∙ answer.term
        ∙ sym (wanted-front work answer.numbers);
    there = λ t among.
        Extends-has_term (record { added = front.0; is = front.1 }) t
        (answer.there t (subst (λ z. has_term t z ≡ true) (requests-front work answer.numbers) among));
  }

  -- so what is remembered are answers still
  pub IsMemo-front : (memo : Memo) → IsMemo old memo → IsMemo new memo
  IsMemo-front memo all = λ k d within. IsAnswer-front _ _ (all k d within)

-- also where a product was asked for
pub IsMemo-product
    : (old new : List Term) (a b : ℕ) (memo : Memo) (r : Result ℕ GraphErr)
    → OnOk r (ask old (multiply (term_at old a) (term_at old b)) ≡ answered new)
    → IsMemo old memo
    → OnOk r (IsMemo new memo)
IsMemo-product old new a b memo (Ok n) asked all =
    IsMemo-front old new (IsFront-ask old new (multiply (term_at old a) (term_at old b)) asked) memo all
IsMemo-product old new a b memo (Err e) asked all = tt

-- ---- What was made ----

-- to make a term adds to the graph
pub IsMade-front : (old new : List Term) (work : Work) (n : ℕ) → IsMade old new work n → IsFront old new
IsMade-front old new work n made =
    let more = (ask_all-Grants old (requests old work) new made.asked).extends in
    (more.added, more.is)

-- what was made is an answer
pub IsMade-answer
    : (old new : List Term) (work : Work) (n : ℕ)
    → HasNumbers old work
    → IsMade old new work n
    → IsAnswer new work n
IsMade-answer old new work n numbers made =
    let front = IsMade-front old new work n made in record {
      numbers = HasNumbers-front old new front work numbers;
      within = made.within;
      term = made.term ∙ sym (wanted-front old new front work numbers);
      there = λ t among.
          (ask_all-Grants old (requests old work) new made.asked).has t
          (subst (λ z. has_term t z ≡ true) (requests-front old new front work numbers) among);
    }

-- an answer is made without a change
pub IsAnswer-made
    : (terms : List Term) (work : Work) (n : ℕ)
    → IsAnswer terms work n
    → IsMade terms terms work n
IsAnswer-made terms work n answer = record {
  within = answer.within;
  term = answer.term;
  asked = ask_all-there terms (requests terms work) answer.there;
}
