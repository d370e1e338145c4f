-- What a call remembers of the terms that it has made by distribution and derivation, by their numbers.
--
-- No public clause cites this module.
-- Source: this project's own.
--
--   wanted terms work        the term that is to be made
--   requests terms work      the requests for it
--   HasNumbers terms work    the numbers that it is made of are there
--   IsMade old new work n    a call has made it as number n, and has asked for its requests
--   IsAnswer terms work n    it is number n, and to ask for its requests again changes nothing
--   IsMemo terms memo        each number that is remembered is an answer
use Rattle.std.specs.Prelude.{◌≡◌, ℕ, ◌<◌, List, All, length, true}
use Rattle.ld_term.specs.Terms.{Term, distributed, derived}
use Rattle.term_graph.specs.TermLists.{term_at}
use Rattle.term_graph.specs.Asks.{has_term, answered, ask_all}
use Rattle.term_expand.specs.Requests.{distribute_requests, derive_requests}
use Rattle.term_expand.specs.declared.memo.Memo.{Memo}
use Rattle.term_expand.specs.declared.memo.Work.{Work}
use Rattle.term_expand.specs.declared.memo.Work.TheVariants.{Distribution, Derivation}

-- The term that is to be made.
abbrev pub wanted : List Term → Work → Term
wanted terms (Distribution a b) = distributed (term_at terms a) (term_at terms b)
wanted terms (Derivation a) = derived (term_at terms a)

-- The requests for it.
abbrev pub requests : List Term → Work → List Term
requests terms (Distribution a b) = distribute_requests (term_at terms a) (term_at terms b)
requests terms (Derivation a) = derive_requests (term_at terms a)

-- The numbers that it is made of are there.
abbrev pub HasNumbers : List Term → Work → Type 0
HasNumbers terms (Distribution a b) = (a < length terms) × (b < length terms)
HasNumbers terms (Derivation a) = a < length terms

-- The term was made as number n.
pub record IsMade (old new : List Term) (work : Work) (n : ℕ) : Type 0 where
  pub within : n < length new
  pub term : term_at new n ≡ wanted old work
  pub asked : ask_all (answered old) (requests old work) ≡ answered new

-- The term is number n, and each term that it asks for is there.
pub record IsAnswer (terms : List Term) (work : Work) (n : ℕ) : Type 0 where
  pub numbers : HasNumbers terms work
  pub within : n < length terms
  pub term : term_at terms n ≡ wanted terms work
  pub there : (t : Term) → has_term t (requests terms work) ≡ true → has_term t terms ≡ true

-- What is remembered are answers.
abbrev pub IsMemo : List Term → Memo → Type 0
IsMemo terms memo = All (λ own. IsAnswer terms own.0 own.1) memo.numbers.entries
