-- The certificate of a term and its derived term is accepted, where that is small (`path-accepted`).
use Rattle.std.proofs.Common.{◌≡◌, ℕ, ◌+◌, ◌*◌, ◌≤◌, ◌⊎◌, inl, inr, List, [], ◌∷◌, ◌++◌, All, length, length-append, refl, sym, ap, ◌∙◌, arith}
use Rattle.std.proofs.Math.Nat.{mul-le-mul}
use Rattle.std.proofs.lemmas.List.Elements.{All-cons}
use Rattle.std.specs.List.{AllByRecursion}
use Rattle.ld_term.specs.Terms.{Term, variable, multiply, height, leaf_count, derived}
use Rattle.ld_term.specs.declared.TheConstants.{MAX_HEIGHT}
use Rattle.term_graph.specs.Asks.{Asked, answered, ask_all}
use Rattle.term_graph.specs.Listings.{products}
use Rattle.term_expand.specs.Expansions.{IsAddress}
use Rattle.ld_cert.specs.Certificates.{below, spread, path, path_certificate}
use Rattle.ld_cert.specs.CertificateText.{certificate_text}
use Rattle.ld_cert.specs.Accepted.{along_requests, certificate_requests, IsReadable, terms_granted, IsAccepted}
use Rattle.ld_cert.specs.declared.TheConstants.{MAX_DERIVED_LEAVES}
use Rattle.ld_cert.proofs.ListLemmas.{all_append, all_weaker, all_map, all_both}
use Rattle.ld_cert.proofs.AlongLemmas.{along_path}
use Rattle.ld_cert.proofs.GrowthLemmas.{leaf_pos, height-leaf_count, along-GrowsAlong, length-products, products-few}
use Rattle.ld_cert.proofs.GrantLemmas.{requests-granted}

-- ---- Addresses ----

-- Each side is the left or the right one.
abbrev AreSides : List ℕ → Type 0
AreSides address = All (λ byte. (byte ≡ 48) ⊎ (byte ≡ 49)) address

below-sides
    : (side : ℕ) (addresses : List (List ℕ))
    → (side ≡ 48) ⊎ (side ≡ 49)
    → AllByRecursion AreSides addresses
    → AllByRecursion AreSides (below side addresses)
below-sides side addresses one all =
    all_map AreSides AreSides (λ address. side ∷ address) addresses
    (λ address sides. All-cons (λ byte. (byte ≡ 48) ⊎ (byte ≡ 49)) side address one sides) all

spread-sides : (t : Term) → AllByRecursion AreSides (spread t)
spread-sides variable = tt
spread-sides (multiply t u) = (
  λ k d within. absurd (omega (arith, within)),
  all_append AreSides (below 48 (spread t)) (below 49 (spread u))
      (below-sides 48 (spread t) (inl refl) (spread-sides t))
      (below-sides 49 (spread u) (inr refl) (spread-sides u)),
)

path-sides : (t : Term) → AllByRecursion AreSides (path t)
path-sides variable = tt
path-sides (multiply t u) =
    all_append AreSides (below 48 (path t)) (below 49 (path u) ++ spread (derived u))
    (below-sides 48 (path t) (inl refl) (path-sides t))
    (all_append AreSides (below 49 (path u)) (spread (derived u))
    (below-sides 49 (path u) (inr refl) (path-sides u)) (spread-sides (derived u)))

-- no address of the path is too long
path-addresses
    : (t : Term)
    → leaf_count (derived t) ≤ MAX_DERIVED_LEAVES
    → AllByRecursion IsAddress (path t)
path-addresses t small =
    let along = along-GrowsAlong (path t) t (derived t) (along_path t) in
    all_both (λ address. length address + 3 ≤ leaf_count (derived t)) AreSides IsAddress (path t)
    (λ address short sides. record { short = omega (arith, short, small); sides = sides })
    along.deep (path-sides t)

-- ---- Requests ----

-- a term that isn't large can be read
small-IsReadable : (t : Term) → leaf_count t ≤ MAX_DERIVED_LEAVES → IsReadable t
small-IsReadable t small =
    record { low = omega (arith, height-leaf_count t, small); few = omega (arith, small) }

-- so few terms are never refused
path-granted
    : (t : Term)
    → leaf_count (derived t) ≤ MAX_DERIVED_LEAVES
    → (made : List Term)
    × (ask_all (answered (variable ∷ [])) (certificate_requests (path_certificate t)) ≡ answered made)
path-granted t small =
    let most = leaf_count (derived t) in
    let along = along-GrowsAlong (path t) t (derived t) (along_path t) in
    let steps = along_requests (path t) t ++ [] in
    let own : leaf_count t ≤ most = omega (arith, along.more) in
    let few : Term → Type 0 = λ s. leaf_count s ≤ most in
    let many : length (path t) * most ≤ 299 * 300 =
    mul-le-mul {n₂ = 299} {m₂ = 300} (omega (arith, along.more, leaf_pos t, small)) (omega (arith, small)) in
    requests-granted (products t ++ (products (derived t) ++ steps))
    (omega (
      arith,
      length-append (products t) (products (derived t) ++ steps),
      length-append (products (derived t)) steps,
      length-append (along_requests (path t) t) [],
      length-products t,
      length-products (derived t),
      own,
      small,
      along.count,
      many,
    ))
    (all_weaker few (λ s. height s ≤ MAX_HEIGHT) (products t ++ (products (derived t) ++ steps))
    (λ s low. omega (arith, height-leaf_count s, low, small))
    (all_append few (products t) (products (derived t) ++ steps) (products-few t most own)
    (all_append few (products (derived t)) steps (products-few (derived t) most (omega arith))
    (all_append few (along_requests (path t) t) [] along.few tt))))

-- ---- Acceptance ----

-- what is granted are the terms granted
pub granted-terms
    : (asked : Asked) (made : List Term)
    → asked ≡ answered made
    → asked ≡ answered (terms_granted asked)
granted-terms asked made is = is ∙ ap answered (sym (ap terms_granted is))

-- the certificate is accepted
pub path-accepted
    : (bytes : List ℕ) (t : Term)
    → bytes ≡ certificate_text (path_certificate t)
    → leaf_count (derived t) ≤ MAX_DERIVED_LEAVES
    → IsAccepted bytes (path_certificate t)
path-accepted bytes t text small =
    let along = along-GrowsAlong (path t) t (derived t) (along_path t) in
    let (made, granted) = path-granted t small in
    record {
      text = text;
      left = small-IsReadable t (omega (arith, along.more, small));
      right = small-IsReadable (derived t) small;
      answer = (path-addresses t small, tt);
      granted = granted-terms _ made granted;
      is_right = (derived t, along_path t, refl);
    }
