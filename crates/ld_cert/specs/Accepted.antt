-- When a certificate file is accepted, and what an accepted one claims.
--
-- Its bytes are the text of a certificate that is right and within the bounds: its terms can be read, its
-- addresses are addresses, its table is one that can be built, and one graph grants all products that a check
-- asks for, in the order of the lines.
-- Source: this project's own.
--
--   IsReadable t                  t is neither too high nor has too many products
--   along_requests addresses t    the products that expansions at the addresses ask for
--   certificate_requests c        those that the check of a certificate asks for
--   IsAnswer answer               each address is one, or a table of this size can be built
--   IsAccepted bytes c            the bytes are the text of the certificate c, and it is accepted
--   Claim, claim_of c             what a certificate claims, with the graph of the products that it asks for
use Rattle.std.specs.Prelude.{◌≡◌, ℕ, ◌+◌, ◌≤◌, List, [], ◌∷◌, ◌++◌}
use Rattle.std.specs.List.{AllByRecursion}
use Rattle.ld_term.specs.Terms.{Term, variable, height, leaf_count}
use Rattle.ld_term.specs.declared.TheConstants.{MAX_HEIGHT, MAX_PRODUCTS}
use Rattle.laver_table.specs.declared.TheConstants.{MAX_EXPONENT}
use Rattle.term_graph.specs.Asks.{Asked, answered, too_deep, full, ask_all}
use Rattle.term_graph.specs.Listings.{products}
use Rattle.term_expand.specs.Expansions.{IsAddress, Expansion, expanded, no_place, not_expandable, expansion_at}
use Rattle.term_expand.specs.Requests.{expand_requests}
use Rattle.ld_cert.specs.Certificates.{Answer, yes_by, no_by, Certificate, IsRight}
use Rattle.ld_cert.specs.CertificateText.{certificate_text}
use Rattle.ld_cert.specs.declared.checked.LdAnswer.{LdAnswer}
use Rattle.ld_cert.specs.declared.checked.LdAnswer.TheVariants.{Yes, No}

-- ---- Bounds ----

-- A term has one leaf more than products.
pub record IsReadable (t : Term) : Type 0 where
  pub low : height t ≤ MAX_HEIGHT
  pub few : leaf_count t ≤ MAX_PRODUCTS + 1

-- No address is too long, and no table too large.
abbrev pub IsAnswer : Answer → Type 0
IsAnswer (yes_by left right) = AllByRecursion IsAddress left × AllByRecursion IsAddress right
IsAnswer (no_by n) = n ≤ MAX_EXPONENT

-- ---- Requests ----

-- What is asked for behind an expansion.
abbrev pub behind_expansion : Expansion → (Term → List Term) → List Term
behind_expansion (expanded t) more = more t
behind_expansion no_place more = []
behind_expansion not_expandable more = []

-- Each expansion asks for its products where the one before it has ended.
abbrev pub along_requests : List (List ℕ) → Term → List Term
along_requests [] t = []
along_requests (address ∷ addresses) t =
    expand_requests address t ++ behind_expansion (expansion_at address t) (along_requests addresses)

-- A yes asks for the expansions of the left term, and then for those of the right one.
abbrev pub answer_requests : Term → Term → Answer → List Term
answer_requests t u (yes_by left right) = along_requests left t ++ along_requests right u
answer_requests t u (no_by n) = []

-- The products of the left term, those of the right one, and those of the answer.
abbrev pub certificate_requests : Certificate → List Term
certificate_requests c =
    products c.left ++ (products c.right ++ answer_requests c.left c.right c.answer)

-- ---- Acceptance ----

-- The terms of a graph whose requests were granted; of one whose requests weren't, x alone.
abbrev pub terms_granted : Asked → List Term
terms_granted (answered terms) = terms
terms_granted too_deep = variable ∷ []
terms_granted full = variable ∷ []

-- The terms of a new graph that is asked for these.
abbrev pub graph_of : List Term → List Term
graph_of requests = terms_granted (ask_all (answered (variable ∷ [])) requests)

-- The bytes are the certificate's, it is within the bounds, a new graph grants what its check asks for, and it
-- is right.
pub record IsAccepted (bytes : List ℕ) (c : Certificate) : Type 0 where
  pub text : bytes ≡ certificate_text c
  pub left : IsReadable c.left
  pub right : IsReadable c.right
  pub answer : IsAnswer c.answer
  pub granted
      : ask_all (answered (variable ∷ [])) (certificate_requests c) ≡ answered (graph_of (certificate_requests c))
  pub is_right : IsRight c

-- ---- Claims ----

-- An answer on two terms, and the terms of a graph that has both.
pub record Claim : Type 0 where
  pub answer : LdAnswer
  pub made : List Term
  pub left : Term
  pub right : Term

-- The answer without its addresses.
abbrev pub told_answer : Answer → LdAnswer
told_answer (yes_by left right) = Yes
told_answer (no_by n) = No n

-- What a certificate claims.
abbrev pub claim_of : Certificate → Claim
claim_of c = record {
  answer = told_answer c.answer;
  made = graph_of (certificate_requests c);
  left = c.left;
  right = c.right;
}
