-- The certificate that is written of a term and its derived term.
--
-- Its size is known before it: the leaves of the derived term are counted without making it.
-- Source: this project's own; derived terms as in P. Dehornoy, Braids and Self-Distributivity, 2000.
--
--   IsCertRefusal t error      why no certificate of t and its derived term is written
--   derived_leaves t           the leaves of the derived term of t, as 64 bits hold them
--   AreCounted made counts     each count is that of its number's term, or 0 where there is none yet
--   lines_below place list     the lines of expansions at these addresses, in the part at this place
use Rattle.std.specs.Prelude.{◌≡◌, ℕ, ◌<◌, ◌⊎◌, List, ◌++◌, length, slice_index_or}
use Rattle.std.specs.List.{flat_map}
use Rattle.ld_term.specs.Terms.{Term, leaf_count, derived}
use Rattle.term_graph.specs.TermLists.{term_at, capped}
use Rattle.ld_cert.specs.CertificateText.{left_line}
use Rattle.ld_cert.specs.declared.TheConstants.{MAX_DERIVED_LEAVES}
use Rattle.ld_cert.specs.declared.derive.CertErr.{CertErr}
use Rattle.ld_cert.specs.declared.derive.CertErr.TheVariants.{TooLarge, Memory}

-- ---- Leaves ----

-- The number of leaves; the greatest number of 64 bits stands for all above it.
abbrev pub derived_leaves : Term → ℕ
derived_leaves t = capped (leaf_count (derived t))

-- The derived term has so many leaves, which are too many; or memory ran out.
abbrev pub IsCertRefusal : Term → CertErr → Type 0
IsCertRefusal t (TooLarge leaves) =
    (MAX_DERIVED_LEAVES < leaf_count (derived t)) × (leaves ≡ derived_leaves t)
IsCertRefusal t Memory = Unit {0}

-- The counts of a graph's terms by their numbers, so far. No public clause cites it.
pub record AreCounted (made : List Term) (counts : List ℕ) : Type 0 where
  pub room : length counts ≡ length made
  pub each
      : (n : ℕ)
      → n < length made
      → (slice_index_or counts n 0 ≡ 0) ⊎ (slice_index_or counts n 0 ≡ derived_leaves (term_at made n))

-- ---- Lines ----

-- The lines of expansions of the left term in its part at a place. No public clause cites it.
abbrev pub lines_below : List ℕ → List (List ℕ) → List ℕ
lines_below place addresses = flat_map (λ address. left_line (place ++ address)) addresses
