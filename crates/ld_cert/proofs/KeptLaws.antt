-- What is due after a line that is kept.
--
-- A line is kept exactly where it is the text of what may be said there, and then what is due follows from
-- that: `kept_short-Follows`, and `kept_short-line_text` of `FollowsLaws`.
use Rattle.std.proofs.Common.{◌≡◌, ℕ, Bool, true, false, if◌then◌else◌, List, [], ◌∷◌, codes, Option, Some, None, Result, Ok, Err, refl, sym, ap, subst}
use Rattle.std.specs.Str.{bytes_eq}
use Rattle.std.proofs.lemmas.Slice.Eq.{bytes_eq-Decides}
use Rattle.wb_base.proofs.PartLemmas.{Ok-cond, Ok-cond_not, Ok-injective}
use Rattle.line_file.specs.Grammars.{Grammar, Says}
use Rattle.ld_term.specs.Terms.{Term, variable}
use Rattle.term_graph.specs.Asks.{same_term, Asked, answered, too_deep, full, ask_all}
use Rattle.term_graph.specs.Listings.{products}
use Rattle.term_graph.proofs.AskLemmas.{same_term-true}
use Rattle.term_expand.specs.Expansions.{Expansion, expanded, no_place, not_expandable, expansion_at}
use Rattle.term_expand.specs.Requests.{expand_requests}
use Rattle.ld_cert.specs.Accepted.{Claim}
use Rattle.ld_cert.specs.States.{Terms, Pair, State}
use Rattle.ld_cert.specs.States as due
use Rattle.ld_cert.specs.Checking.{behind_front, term_behind, address_behind, exponent_in, made_term, made_by, made_expansion, expanded_by, with_made, kept_start, kept_left, kept_right, unexpanded, claimed, are_alike, kept_no, with_left, with_right, kept_end, right_kept, kept_right_step, left_kept, kept_finish, kept_short}
use Rattle.ld_cert.specs.declared.checked.LdAnswer.TheVariants.{Yes, No}
use Rattle.ld_cert.specs.declared.checked.LdWhy.{LdWhy}
use Rattle.ld_cert.proofs.SaidLaws.{Said, line_text, IsLine}
use Rattle.ld_cert.proofs.SaidLaws as said
use Rattle.ld_cert.proofs.TextLemmas.{exponent_in-is, term_behind-is, address_behind-is}

-- ---- What may follow ----

-- A graph is asked for the products of a term, and has them then.
pub record Makes (made : List Term) (t : Term) (new : List Term) : Type 0 where
  pub granted : ask_all (answered made) (products t) ≡ answered new

-- A term of a graph is expanded at an address, and the graph has the expanded term then.
pub record MakesExpansion (made : List Term) (address : List ℕ) (t : Term) (new : List Term)
    (u : Term) : Type 0 where
  pub expansion : expansion_at address t ≡ expanded u
  pub granted : ask_all (answered made) (expand_requests address t) ≡ answered new

-- The left term may be expanded at an address, and then this is due.
pub record FollowsLeft (pair : Pair) (address : List ℕ) (next : State) : Type 0 where
  pub new : List Term
  pub term : Term
  pub makes : MakesExpansion pair.terms.made address pair.left_now new term
  pub due : next ≡ due.left_step (with_left pair new term)

-- So may the right one.
pub record FollowsRight (pair : Pair) (address : List ℕ) (next : State) : Type 0 where
  pub new : List Term
  pub term : Term
  pub makes : MakesExpansion pair.terms.made address pair.right_now new term
  pub due : next ≡ due.right_step (with_right pair new term)

-- The end may follow where both terms have become one.
pub record FollowsEnd (pair : Pair) (next : State) : Type 0 where
  pub one : pair.left_now ≡ pair.right_now
  pub due : next ≡ due.passed (claimed pair.terms Yes)

-- A line may be said where `now` is due, and then `next` is due.
abbrev pub Follows : State → Said → State → Type 0
Follows due.start said.start next = next ≡ due.left
Follows due.left (said.left t) next =
    (new : List Term) × Makes (variable ∷ []) t new × (next ≡ due.right new t)
Follows (due.right made t) (said.right u) next =
    (new : List Term) × Makes made u new × (next ≡ due.answer (record { made = new; left = t; right = u }))
Follows (due.answer terms) said.yes next = next ≡ due.left_step (unexpanded terms)
Follows (due.answer terms) (said.no_by n) next =
    (are_alike n terms.left terms.right ≡ false) × (next ≡ due.finish (claimed terms (No n)))
Follows (due.left_step pair) (said.left_step address) next = FollowsLeft pair address next
Follows (due.left_step pair) (said.right_step address) next = FollowsRight pair address next
Follows (due.left_step pair) said.finish next = FollowsEnd pair next
Follows (due.right_step pair) (said.right_step address) next = FollowsRight pair address next
Follows (due.right_step pair) said.finish next = FollowsEnd pair next
Follows (due.finish claim) said.finish next = next ≡ due.passed claim
Follows now s next = ⊥

-- What the lines of a certificate file may say.
abbrev pub certificate_grammar : Grammar State Said
certificate_grammar = record { text = line_text; can = IsLine; follows = Follows }

-- A line says something that may follow.
abbrev pub IsKept : State → List ℕ → State → Type 0
IsKept now line next = Says certificate_grammar now line next

-- ---- What is granted ----

-- a term that is made was granted
made_term-Ok
    : (t : Term) (asked : Asked) (new : List Term) (u : Term)
    → made_term t asked ≡ Ok (new, u)
    → (t ≡ u) × (asked ≡ answered new)
made_term-Ok t (answered made) new u is =
    let one = Ok-injective (made, t) (new, u) is in (ap (λ p. p.1) one, ap (λ p. answered p.0) one)
made_term-Ok t too_deep new u is = absurd (cc)
made_term-Ok t full new u is = absurd (cc)

-- the term of a line
made_by-Ok
    : (made : List Term) (read : Result Term LdWhy) (new : List Term) (t : Term)
    → made_by made read ≡ Ok (new, t)
    → (read ≡ Ok t) × Makes made t new
made_by-Ok made (Ok u) new t is =
    let (one, granted) = made_term-Ok u (ask_all (answered made) (products u)) new t is in
    (ap (λ z. Ok z) one, subst (λ z. Makes made z new) one (record { granted = granted }))
made_by-Ok made (Err why) new t is = absurd (cc)

-- an expansion
made_expansion-Ok
    : (expansion : Expansion) (asked : Asked) (new : List Term) (u : Term)
    → made_expansion expansion asked ≡ Ok (new, u)
    → (expansion ≡ expanded u) × (asked ≡ answered new)
made_expansion-Ok (expanded t) asked new u is =
    let (one, granted) = made_term-Ok t asked new u is in (ap expanded one, granted)
made_expansion-Ok no_place asked new u is = absurd (cc)
made_expansion-Ok not_expandable asked new u is = absurd (cc)

expanded_by-Ok
    : (made : List Term) (address : List ℕ) (t : Term) (new : List Term) (u : Term)
    → expanded_by made address t ≡ Ok (new, u)
    → MakesExpansion made address t new u
expanded_by-Ok made address t new u is =
    let (expansion, granted) = made_expansion-Ok (expansion_at address t) _ new u is in
    record { expansion = expansion; granted = granted }

-- what is due with a term that was made
with_made-Ok
    : (r : Result (List Term × Term) LdWhy) (follow : List Term → Term → State) (next : State)
    → with_made r follow ≡ Ok next
    → (new : List Term) × (t : Term) × (r ≡ Ok (new, t)) × (next ≡ follow new t)
with_made-Ok (Ok (new, t)) follow next is = (new, t, refl, sym (Ok-injective _ _ is))
with_made-Ok (Err why) follow next is = absurd (cc)

-- ---- What is kept may follow ----

-- a line that is a fixed text
text-kept
    : (now : State) (line : List ℕ) (s : Said) (next : State)
    → bytes_eq line (line_text s) ≡ true
    → IsLine s
    → Follows now s next
    → IsKept now line next
text-kept now line s next test can follows =
    record { what = s; text = (bytes_eq-Decides line (line_text s)).0 test; can = can; follows = follows }

-- the start
kept_start-Follows
    : (line : List ℕ) (next : State)
    → kept_start (bytes_eq line (codes "ld-certificate 1")) ≡ Ok next
    → IsKept due.start line next
kept_start-Follows line next is =
    let (test, same) = Ok-cond (bytes_eq line (codes "ld-certificate 1")) _ _ next is in
    text-kept due.start line said.start next test tt (sym (Ok-injective _ _ same))

-- the left term
kept_left-Follows
    : (line : List ℕ) (next : State)
    → kept_left (term_behind (codes "left") line) ≡ Ok next
    → IsKept due.left line next
kept_left-Follows line next is =
    let read = term_behind (codes "left") line in
    let (new, t, made, follows) = with_made-Ok (made_by (variable ∷ []) read) due.right next is in
    let (found, makes) = made_by-Ok (variable ∷ []) read new t made in
    let (text, small) = term_behind-is (codes "left") line t found in
    record { what = said.left t; text = text; can = small; follows = (new, makes, follows) }

-- the right term
kept_right-Follows
    : (made : List Term) (left : Term) (line : List ℕ) (next : State)
    → kept_right made left (term_behind (codes "right") line) ≡ Ok next
    → IsKept (due.right made left) line next
kept_right-Follows made left line next is =
    let read = term_behind (codes "right") line in
    let (new, t, is_made, follows) =
    with_made-Ok (made_by made read)
    (λ new right. due.answer (record { made = new; left = left; right = right })) next is in
    let (found, makes) = made_by-Ok made read new t is_made in
    let (text, small) = term_behind-is (codes "right") line t found in
    record { what = said.right t; text = text; can = small; follows = (new, makes, follows) }

-- a no
kept_no-Follows
    : (terms : Terms) (line : List ℕ) (next : State) (number : Option ℕ)
    → exponent_in (behind_front (codes "no ") line) ≡ number
    → kept_no terms number ≡ Ok next
    → IsKept (due.answer terms) line next
kept_no-Follows terms line next None read is = absurd (cc)
kept_no-Follows terms line next (Some n) read is =
    let (apart, same) = Ok-cond_not (are_alike n terms.left terms.right) _ _ next is in
    let (text, low) = exponent_in-is (codes "no ") line n read in
    record {
      what = said.no_by n;
      text = text;
      can = low;
      follows = (apart, sym (Ok-injective _ _ same));
    }

-- the answer
kept_answer-Follows
    : (terms : Terms) (line : List ℕ) (next : State) (yes : Bool)
    → bytes_eq line (codes "yes") ≡ yes
    → (if yes then Ok (due.left_step (unexpanded terms))
    else kept_no terms (exponent_in (behind_front (codes "no ") line))) ≡ Ok next
    → IsKept (due.answer terms) line next
kept_answer-Follows terms line next true test is =
    text-kept (due.answer terms) line said.yes next test tt (sym (Ok-injective _ _ is))
kept_answer-Follows terms line next false test is =
    kept_no-Follows terms line next (exponent_in (behind_front (codes "no ") line)) refl is

-- the end of a yes
kept_end-Follows
    : (pair : Pair) (line : List ℕ) (next : State)
    → kept_end pair (bytes_eq line (codes "end")) ≡ Ok next
    → (bytes_eq line (codes "end") ≡ true) × FollowsEnd pair next
kept_end-Follows pair line next is =
    let (test, ends) = Ok-cond (bytes_eq line (codes "end")) _ _ next is in
    let (one, same) = Ok-cond (same_term pair.left_now pair.right_now) _ _ next ends in (
      test,
      record {
        one = same_term-true pair.left_now pair.right_now one;
        due = sym (Ok-injective _ _ same);
      },
    )

-- an expansion of the right term, or the end, where these may follow
right_kept-Follows
    : (now : State) (pair : Pair) (line : List ℕ) (next : State) (address : Option (List ℕ))
    → address_behind (codes "r .") line ≡ address
    → right_kept pair line address ≡ Ok next
    → ((side : List ℕ) → FollowsRight pair side next → Follows now (said.right_step side) next)
    → (FollowsEnd pair next → Follows now said.finish next)
    → IsKept now line next
right_kept-Follows now pair line next None read is steps ends =
    let (test, follows) = kept_end-Follows pair line next is in
    text-kept now line said.finish next test tt (ends follows)
right_kept-Follows now pair line next (Some address) read is steps ends =
    let (new, t, made, follows) =
    with_made-Ok (expanded_by pair.terms.made address pair.right_now)
    (λ made t. due.right_step (with_right pair made t)) next is in
    let (text, can) = address_behind-is (codes "r .") line address read in
    let makes = expanded_by-Ok pair.terms.made address pair.right_now new t made in
    record {
      what = said.right_step address;
      text = text;
      can = can;
      follows = steps address (record { new = new; term = t; makes = makes; due = follows });
    }

kept_right_step-Follows
    : (pair : Pair) (line : List ℕ) (next : State)
    → kept_right_step pair line ≡ Ok next
    → IsKept (due.right_step pair) line next
kept_right_step-Follows pair line next is =
    right_kept-Follows (due.right_step pair) pair line next _ refl is (λ address follows. follows)
    (λ follows. follows)

-- the same, or an expansion of the left term
left_kept-Follows
    : (pair : Pair) (line : List ℕ) (next : State) (address : Option (List ℕ))
    → address_behind (codes "l .") line ≡ address
    → left_kept pair line address ≡ Ok next
    → IsKept (due.left_step pair) line next
left_kept-Follows pair line next None read is =
    right_kept-Follows (due.left_step pair) pair line next _ refl is (λ address follows. follows)
    (λ follows. follows)
left_kept-Follows pair line next (Some address) read is =
    let (new, t, made, follows) =
    with_made-Ok (expanded_by pair.terms.made address pair.left_now)
    (λ made t. due.left_step (with_left pair made t)) next is in
    let (text, can) = address_behind-is (codes "l .") line address read in
    let makes = expanded_by-Ok pair.terms.made address pair.left_now new t made in
    record {
      what = said.left_step address;
      text = text;
      can = can;
      follows = record { new = new; term = t; makes = makes; due = follows };
    }

-- the end behind a no
kept_finish-Follows
    : (claim : Claim) (line : List ℕ) (next : State)
    → kept_finish claim (bytes_eq line (codes "end")) ≡ Ok next
    → IsKept (due.finish claim) line next
kept_finish-Follows claim line next is =
    let (test, same) = Ok-cond (bytes_eq line (codes "end")) _ _ next is in
    text-kept (due.finish claim) line said.finish next test tt (sym (Ok-injective _ _ same))

-- a line that is kept says something that may follow
pub kept_short-Follows
    : (now : State) (line : List ℕ) (next : State)
    → kept_short now line ≡ Ok next
    → IsKept now line next
kept_short-Follows due.start line next is = kept_start-Follows line next is
kept_short-Follows due.left line next is = kept_left-Follows line next is
kept_short-Follows (due.right made left) line next is = kept_right-Follows made left line next is
kept_short-Follows (due.answer terms) line next is =
    kept_answer-Follows terms line next (bytes_eq line (codes "yes")) refl is
kept_short-Follows (due.left_step pair) line next is = left_kept-Follows pair line next _ refl is
kept_short-Follows (due.right_step pair) line next is = kept_right_step-Follows pair line next is
kept_short-Follows (due.finish claim) line next is = kept_finish-Follows claim line next is
kept_short-Follows (due.passed claim) line next is = absurd (cc)
