-- Expansion of a term at an address.
--
-- An address says how a part of a term is reached from the whole: left at the byte `0` (48), right at the
-- byte `1` (49). Where the part there is t(uv), the expansion replaces it by (tu)(tv).
-- Source: P. Dehornoy, Braids and Self-Distributivity, 2000.
--
--   IsAddress bytes             the bytes are an address
--   expanded u                  the term is expanded to u
--   no_place, not_expandable    the address leads below a leaf; the part there is x or tx
--   expansion_at address t      what the expansion of t at an address is
--   IsExpandRefusal expansion asked e        a call that met this answer to its requests fails so
--   IsExpandStopped old new requests e       a call that fails so leaves the graph so
use Rattle.std.specs.Prelude.{◌≡◌, ℕ, ◌≤◌, ◌==◌, ◌⊎◌, if◌then◌else◌, List, [], ◌∷◌, All, length}
use Rattle.ld_term.specs.Terms.{Term, variable, multiply}
use Rattle.term_graph.specs.Asks.{Asked, too_deep, full, IsStopped}
use Rattle.term_graph.specs.declared.error.GraphErr.TheVariants as graph_errors
use Rattle.term_expand.specs.declared.TheConstants.{MAX_ADDRESS}
use Rattle.term_expand.specs.declared.error.ExpandErr.{ExpandErr}
use Rattle.term_expand.specs.declared.error.ExpandErr.TheVariants.{NoPlace, NotExpandable, TooDeep, Full, Memory}

-- ---- Addresses ----

-- At most 1,000 bytes, the greatest height of a term, each `0` or `1`.
pub record IsAddress (bytes : List ℕ) : Type 0 where
  pub short : length bytes ≤ MAX_ADDRESS
  pub sides : All (λ byte. (byte ≡ 48) ⊎ (byte ≡ 49)) bytes

-- ---- Expansions ----

-- What an expansion gives.
pub data Expansion : Type 0 where
  expanded : (t : Term) → Expansion
  no_place : Expansion
  not_expandable : Expansion

-- A part's expansion, with what stands round the part.
abbrev pub within : (Term → Term) → Expansion → Expansion
within whole (expanded t) = expanded (whole t)
within whole no_place = no_place
within whole not_expandable = not_expandable

-- The term itself is expanded: x(xx) to (xx)(xx).
abbrev pub expansion_of : Term → Expansion
expansion_of variable = not_expandable
expansion_of (multiply t variable) = not_expandable
expansion_of (multiply t (multiply u v)) = expanded (multiply (multiply t u) (multiply t v))

-- The part at an address is expanded.
abbrev pub expansion_at : List ℕ → Term → Expansion
expansion_at [] t = expansion_of t
expansion_at (side ∷ address) variable = no_place
expansion_at (side ∷ address) (multiply t u) =
    if side == 48 then within (λ a. multiply a u) (expansion_at address t)
    else within (λ b. multiply t b) (expansion_at address u)

-- ---- Refusals ----

-- Why an expansion fails whose requests were answered so. The faults of the address come before any request.
abbrev pub IsExpandRefusal : Expansion → Asked → ExpandErr → Type 0
IsExpandRefusal expansion asked NoPlace = expansion ≡ no_place
IsExpandRefusal expansion asked NotExpandable = expansion ≡ not_expandable
IsExpandRefusal expansion asked TooDeep = asked ≡ too_deep
IsExpandRefusal expansion asked Full = asked ≡ full
IsExpandRefusal expansion asked Memory = Unit {0}

-- How an expansion that fails so leaves the graph: as it was, where the address is at fault, and else as its
-- requests had made it where they stopped.
abbrev pub IsExpandStopped : List Term → List Term → List Term → ExpandErr → Type 0
IsExpandStopped old new requests NoPlace = new ≡ old
IsExpandStopped old new requests NotExpandable = new ≡ old
IsExpandStopped old new requests TooDeep = IsStopped old new requests graph_errors.TooDeep
IsExpandStopped old new requests Full = IsStopped old new requests graph_errors.Full
IsExpandStopped old new requests Memory = IsStopped old new requests graph_errors.Memory
