-- Terms that have two values in a table.
--
-- Equivalent terms have one value in each (`equivalent-AreAlikeIn`). The certificate that two terms of a graph
-- have two is accepted (`differing-accepted`).
use Rattle.std.proofs.Common.{◌≡◌, ℕ, ◌+◌, ◌<◌, ◌≤◌, inl, inr, List, [], ◌++◌, length}
use Rattle.ld_term.specs.Terms.{Term, variable, leaf_count, IsEquivalent}
use Rattle.ld_term.specs.declared.TheConstants.{MAX_PRODUCTS}
use Rattle.laver_table.specs.declared.TheConstants.{MAX_EXPONENT}
use Rattle.term_eval.proofs.ValueLemmas.{value_of-IsEquivalent}
use Rattle.term_graph.specs.TermLists.{term_at, IsGraph}
use Rattle.term_graph.specs.Listings.{products}
use Rattle.term_graph.proofs.ListingLemmas.{has_term-either}
use Rattle.term_graph.proofs.ProductLemmas.{products-there}
use Rattle.ld_cert.specs.Certificates.{no_by, IsRightOf}
use Rattle.ld_cert.specs.CertificateText.{certificate_text}
use Rattle.ld_cert.specs.Accepted.{IsReadable, IsAccepted}
use Rattle.ld_cert.specs.Differences.{AreAlikeIn}
use Rattle.ld_cert.proofs.GrantLemmas.{AreIn, graph-granted}
use Rattle.ld_cert.proofs.PathLemmas.{granted-terms}

-- equivalent terms are alike in each table
pub equivalent-AreAlikeIn : (m : ℕ) (t u : Term) → IsEquivalent t u → AreAlikeIn m t u
equivalent-AreAlikeIn m t u equivalent = λ rows laver. value_of-IsEquivalent m rows t u laver equivalent

-- ---- The certificate ----

module _ (made : List Term) (graph : IsGraph made) where
  -- a term of a graph is no higher than a line may have it
  graph-IsReadable
      : (n : ℕ)
      → n < length made
      → leaf_count (term_at made n) ≤ MAX_PRODUCTS + 1
      → IsReadable (term_at made n)
  graph-IsReadable n within few = record { low = graph.low n variable within; few = few }

  -- the products of two terms of it are there
  both-there
      : (a b : ℕ)
      → a < length made
      → b < length made
      → AreIn (products (term_at made a) ++ (products (term_at made b) ++ [])) made
  both-there a b in_a in_b t among =
      elim (has_term-either t (products (term_at made a)) (products (term_at made b) ++ []) among) [
        | inl first ↦ products-there made graph a t in_a first
        | inr later ↦ elim (has_term-either t (products (term_at made b)) [] later) [
          | inl second ↦ products-there made graph b t in_b second
          | inr none ↦ absurd cc
        ]
      ]

  pub differing-accepted
      : (bytes : List ℕ) (a b n : ℕ)
      → a < length made
      → b < length made
      → leaf_count (term_at made a) ≤ MAX_PRODUCTS + 1
      → leaf_count (term_at made b) ≤ MAX_PRODUCTS + 1
      → n ≤ MAX_EXPONENT
      → IsRightOf (term_at made a) (term_at made b) (no_by n)
      → bytes
      ≡ certificate_text (record { left = term_at made a; right = term_at made b; answer = no_by n })
      → IsAccepted bytes (record { left = term_at made a; right = term_at made b; answer = no_by n })
  differing-accepted bytes a b n in_a in_b few_a few_b low right text =
      let (new, granted) = graph-granted _ made graph (both-there a b in_a in_b) in
      record {
        text = text;
        left = graph-IsReadable a in_a few_a;
        right = graph-IsReadable b in_b few_b;
        answer = low;
        granted = granted-terms _ new granted;
        is_right = right;
      }
