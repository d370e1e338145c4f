-- The products that a term with names asks for, one after the other.
use Rattle.std.proofs.Common.{◌≡◌, ℕ, ◌+◌, ◌<◌, Bool, true, false, cond, List, [], ◌∷◌, ◌++◌, length, All, map, ◌||◌, Some, None, is_some, Result, Ok, Err, OnOk, OnErr, refl, sym, ap, ◌∙◌, subst, append_assoc, append-nil, arith}
use Rattle.std.specs.List.{AllByRecursion}
use Rattle.std.specs.Map.{keys_of, lookup}
use Rattle.std.specs.Option.{unwrap_or}
use Rattle.std.specs.Str.{bytes_eq}
use Rattle.std.proofs.lemmas.List.{get_or_append_left, length-append}
use Rattle.std.proofs.lemmas.List.Elements.{recursion_from_All}
use Rattle.std.proofs.lemmas.Option.{none-some}
use Rattle.ld_term.specs.Terms.{Term, variable, multiply}
use Rattle.ld_term.specs.Written.{Written, named, times}
use Rattle.term_graph.specs.TermLists.{term_at}
use Rattle.term_graph.specs.Asks.{answered, ask, ask_all, IsStopped}
use Rattle.term_graph.specs.Listings.{distinct_products, IsListing}
use Rattle.term_graph.specs.NameLists.{number_of}
use Rattle.term_graph.specs.Requests.{is_known, first_unknown, meaning, text_requests, named_terms, IsFront}
use Rattle.term_graph.specs.declared.error.GraphErr.{GraphErr}
use Rattle.term_graph.proofs.AskLemmas.{ask-extends}
use Rattle.term_graph.proofs.StopLemmas.{IsStopped-first, AreLeft, AreLeft-stopped, AreLeft-granted, AreLeft-more}

-- ---- Fronts ----

-- a list is a front of itself
pub IsFront-refl : (old : List Term) → IsFront old old
IsFront-refl old = ([], sym (append-nil old))

-- a front of a front is a front
pub IsFront-trans : (old mid new : List Term) → IsFront old mid → IsFront mid new → IsFront old new
IsFront-trans old mid new (more, is) (also, next) =
    (more ++ also, next ∙ ap (λ z. z ++ also) is ∙ append_assoc old more also)

-- a front is no longer
pub length-front : (old new : List Term) (n : ℕ) → IsFront old new → n < length old → n < length new
length-front old new n (more, is) below =
    let whole : length new ≡ length old + length more = ap length is ∙ length-append old more in
    omega (arith, whole)

-- a number of a front stands for its term
pub term_at-front
    : (old new : List Term) (n : ℕ)
    → IsFront old new
    → n < length old
    → term_at new n ≡ term_at old n
term_at-front old new n (more, is) below =
    ap (λ z. term_at z n) is ∙ get_or_append_left old more variable n below

-- so do the numbers of a list
pub terms-front
    : (old new : List Term) (numbers : List ℕ)
    → IsFront old new
    → AllByRecursion (λ n. n < length old) numbers
    → map (term_at new) numbers ≡ map (term_at old) numbers
terms-front old new [] front within = refl
terms-front old new (n ∷ numbers) front within =
    let here : term_at new n ≡ term_at old n = term_at-front old new n front within.0 in
    let rest : map (term_at new) numbers ≡ map (term_at old) numbers =
    terms-front old new numbers front within.1 in
    rw (here, rest) refl

-- a listing stays one
pub IsListing-front
    : (old new : List Term) (root : ℕ) (numbers : List ℕ)
    → IsFront old new
    → IsListing old root numbers
    → IsListing new root numbers
IsListing-front old new root numbers front listing = record {
  root_within = length-front old new root front listing.root_within;
  within = λ k d within. length-front old new _ front (listing.within k d within);
  terms =
      terms-front old new numbers front
      (recursion_from_All (λ (n : ℕ). n < length old) numbers listing.within)
      ∙ listing.terms
      ∙ ap distinct_products (sym (term_at-front old new root front listing.root_within));
}

-- ---- Names ----

-- The numbers of the names are numbers of the graph.
abbrev pub AreNumbers : ℕ → List (List ℕ × ℕ) → Type 0
AreNumbers bound names = All (λ own. own.1 < bound) names

-- names keep their terms
named_terms-recursion
    : (old new : List Term) (names : List (List ℕ × ℕ))
    → IsFront old new
    → AllByRecursion (λ own. own.1 < length old) names
    → named_terms new names ≡ named_terms old names
named_terms-recursion old new [] front within = refl
named_terms-recursion old new (own ∷ names) front within =
    let here : term_at new own.1 ≡ term_at old own.1 = term_at-front old new own.1 front within.0 in
    let rest : named_terms new names ≡ named_terms old names =
    named_terms-recursion old new names front within.1 in
    rw (here, rest) refl

-- names keep their terms where the graph grows
pub named_terms-front
    : (old new : List Term) (names : List (List ℕ × ℕ))
    → IsFront old new
    → AreNumbers (length old) names
    → named_terms new names ≡ named_terms old names
named_terms-front old new names front within =
    named_terms-recursion old new names front
    (recursion_from_All (λ (own : List ℕ × ℕ). own.1 < length old) names within)

-- a name that has a number is known
pub is_known-number
    : (name : List ℕ) (names : List (List ℕ × ℕ))
    → is_known name (keys_of names) ≡ is_some (number_of name names)
is_known-number name [] = refl
is_known-number name (own ∷ names) = by_test (bytes_eq name own.0) (is_known-number name names)
  where
    by_test : (b : Bool)
        → is_known name (keys_of names) ≡ is_some (number_of name names)
        → (b || is_known name (keys_of names)) ≡ is_some (cond b (Some own.1) (number_of name names))
    by_test true more = refl
    by_test false more = more

-- the only name of a name is known where it has a number
pub unknown-none
    : (name : List ℕ) (place n : ℕ) (w : Written) (names : List (List ℕ × ℕ))
    → w ≡ named name place
    → number_of name names ≡ Some n
    → None ≡ first_unknown (keys_of names) w
unknown-none name place n w names is found =
    let known : is_known name (keys_of names) ≡ true = is_known-number name names ∙ ap is_some found in
    sym (ap (first_unknown (keys_of names)) is ∙ ap (λ b. cond b None (Some place)) known)

-- and unknown where it has none
pub unknown-some
    : (name : List ℕ) (place : ℕ) (w : Written) (names : List (List ℕ × ℕ))
    → w ≡ named name place
    → number_of name names ≡ None
    → Some place ≡ first_unknown (keys_of names) w
unknown-some name place w names is none =
    let unknown : is_known name (keys_of names) ≡ false = is_known-number name names ∙ ap is_some none in
    sym (ap (first_unknown (keys_of names)) is ∙ ap (λ b. cond b None (Some place)) unknown)

-- a known name has a number
pub known-number
    : (name : List ℕ) (place : ℕ) (w : Written) (names : List (List ℕ × ℕ))
    → w ≡ named name place
    → first_unknown (keys_of names) w ≡ None
    → number_of name names ≡ None
    → ⊥
known-number name place w names is known none =
    let unknown : is_known name (keys_of names) ≡ false = is_known-number name names ∙ ap is_some none in
    none-some place
    (sym known ∙ ap (first_unknown (keys_of names)) is ∙ ap (λ b. cond b None (Some place)) unknown)

-- a name stands for the term of its number
lookup-number
    : (made : List Term) (name : List ℕ) (names : List (List ℕ × ℕ)) (n : ℕ)
    → number_of name names ≡ Some n
    → lookup (bytes_eq name) (named_terms made names) ≡ Some (term_at made n)
lookup-number made name [] n is = cc
lookup-number made name (own ∷ names) n is =
    by_test (bytes_eq name own.0) is (lookup-number made name names n)
  where
    by_test : (b : Bool)
        → cond b (Some own.1) (number_of name names) ≡ Some n
        → (number_of name names ≡ Some n
        → lookup (bytes_eq name) (named_terms made names) ≡ Some (term_at made n))
        → cond b (Some (term_at made own.1)) (lookup (bytes_eq name) (named_terms made names))
        ≡ Some (term_at made n)
    by_test true same more =
        let number : own.1 ≡ n = cc in
        ap (λ k. Some (term_at made k)) number
    by_test false same more = more same

-- a name's number is one of the graph
number-within
    : (bound : ℕ) (name : List ℕ) (names : List (List ℕ × ℕ)) (n : ℕ)
    → AllByRecursion (λ own. own.1 < bound) names
    → number_of name names ≡ Some n
    → n < bound
number-within bound name [] n within is = absurd (none-some n is)
number-within bound name (own ∷ names) n within is =
    by_test (bytes_eq name own.0) is (number-within bound name names n within.1)
  where
    by_test : (b : Bool)
        → cond b (Some own.1) (number_of name names) ≡ Some n
        → (number_of name names ≡ Some n → n < bound)
        → n < bound
    by_test true same more =
        let number : own.1 ≡ n = cc in
        subst (λ k. k < bound) number within.0
    by_test false same more = more same

-- the number of a name stands for its meaning
pub number-meaning
    : (made : List Term) (names : List (List ℕ × ℕ)) (w : Written) (name : List ℕ) (place n : ℕ)
    → w ≡ named name place
    → AreNumbers (length made) names
    → number_of name names ≡ Some n
    → (n < length made) × (term_at made n ≡ meaning (named_terms made names) w)
number-meaning made names w name place n is within found = (
  number-within (length made) name names n
      (recursion_from_All (λ (own : List ℕ × ℕ). own.1 < length made) names within) found,
  ap (λ o. unwrap_or o variable) (sym (lookup-number made name names n found))
      ∙ sym (ap (meaning (named_terms made names)) is),
)

-- ---- Requests ----

-- a request that is granted adds to the graph
pub IsFront-ask : (old new : List Term) (t : Term) → ask old t ≡ answered new → IsFront old new
IsFront-ask old new t is =
    let more = ask-extends old t new is in (more.added, more.is)

-- a request adds to the graph or leaves it
pub IsFront-product
    : {E : Type 0} (old new : List Term) (t : Term) (r : Result ℕ E)
    → OnOk r (ask old t ≡ answered new)
    → OnErr r (new ≡ old)
    → IsFront old new
IsFront-product old new t (Ok n) asked same = IsFront-ask old new t asked
IsFront-product old new t (Err e) asked same = subst (IsFront old) (sym same) (IsFront-refl old)

-- ---- Products ----

-- the requests stop in the left part
pub left-stopped
    : (old new : List Term) (terms : List (List ℕ × Term)) (w a b : Written) (e : GraphErr)
    → w ≡ times a b
    → IsStopped old new (text_requests terms a) e
    → IsStopped old new (text_requests terms w) e
left-stopped old new terms w a b e is stop =
    subst (λ z. IsStopped old new (text_requests terms z) e) (sym is)
    (IsStopped-first old new (text_requests terms a) _ e stop)

-- What a call has done behind the left part of a product.
pub record IsLeftDone (old mid : List Term) (names : List (List ℕ × ℕ)) (a : Written) (left : ℕ) : Type 0
  where
    pub numbers : AreNumbers (length old) names
    pub within : left < length mid
    pub number : term_at mid left ≡ meaning (named_terms old names) a
    pub asked : ask_all (answered old) (text_requests (named_terms old names) a) ≡ answered mid
    pub kept : IsFront old mid

-- the requests stop in the right part
pub right-stopped
    : (old mid new : List Term) (names : List (List ℕ × ℕ)) (w a b : Written) (left : ℕ) (e : GraphErr)
    → w ≡ times a b
    → IsLeftDone old mid names a left
    → IsStopped mid new (text_requests (named_terms mid names) b) e
    → IsStopped old new (text_requests (named_terms old names) w) e
right-stopped old mid new names w a b left e is done stop =
    let terms = named_terms old names in
    let same : named_terms mid names ≡ terms = named_terms-front old mid names done.kept done.numbers in
    let left = AreLeft-granted old mid (text_requests terms a) _ done.asked in
    subst (λ z. IsStopped old new (text_requests terms z) e) (sym is)
    (AreLeft-stopped old mid new _ _ e left
    (IsStopped-first mid new (text_requests terms b) _ e
    (subst (λ z. IsStopped mid new (text_requests z b) e) same stop)))

-- What a call has done behind both parts of a product.
pub record ArePartsDone (old last : List Term) (terms : List (List ℕ × Term)) (w : Written)
    (left right : ℕ) : Type 0 where
  pub left_within : left < length last
  pub number : meaning terms w ≡ multiply (term_at last left) (term_at last right)
  pub due : AreLeft old last (text_requests terms w) (multiply (term_at last left) (term_at last right) ∷ [])
  pub kept : IsFront old last

-- behind both parts only the product is asked for
pub parts-done
    : (old mid last : List Term) (names : List (List ℕ × ℕ)) (w a b : Written) (left right : ℕ)
    → w ≡ times a b
    → IsLeftDone old mid names a left
    → term_at last right ≡ meaning (named_terms mid names) b
    → ask_all (answered mid) (text_requests (named_terms mid names) b) ≡ answered last
    → IsFront mid last
    → ArePartsDone old last (named_terms old names) w left right
parts-done old mid last names w a b left right is done number granted front =
    let terms = named_terms old names in
    let same : named_terms mid names ≡ terms = named_terms-front old mid names done.kept done.numbers in
    let left_is : term_at last left ≡ meaning terms a =
    term_at-front mid last left front done.within ∙ done.number in
    let right_is : term_at last right ≡ meaning terms b = number ∙ ap (λ z. meaning z b) same in
    let product : multiply (meaning terms a) (meaning terms b)
    ≡ multiply (term_at last left) (term_at last right) =
    ap (λ z. multiply z (meaning terms b)) (sym left_is) ∙ ap (multiply (term_at last left)) (sym right_is) in
    let second : ask_all (answered mid) (text_requests terms b) ≡ answered last =
    ap (λ z. ask_all (answered mid) (text_requests z b)) (sym same) ∙ granted in
    record {
      left_within = length-front mid last left front done.within;
      number = ap (meaning terms) is ∙ product;
      due =
          subst (λ z. AreLeft old last z (multiply (term_at last left) (term_at last right) ∷ []))
          (sym (ap (text_requests terms) is))
          (subst (λ z. AreLeft old last (text_requests terms (times a b)) (z ∷ [])) product
          (AreLeft-more old mid last (text_requests terms (times a b)) (text_requests terms b) _
          (AreLeft-granted old mid (text_requests terms a) _ done.asked) second));
      kept = IsFront-trans old mid last done.kept front;
    }
