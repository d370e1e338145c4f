-- How an expansion makes a term grow.
--
-- It has a leaf more at least, and the term had three more than the address has sides. It asks for three
-- products at its place, and for one at each above it, none of which has more leaves than it
-- (`expanded-Grows`).
use Rattle.std.proofs.Common.{◌≡◌, ℕ, ◌+◌, ◌-◌, ◌*◌, ◌<◌, ◌≤◌, ◌==◌, if◌then◌else◌, Bool, true, false, List, [], ◌∷◌, ◌++◌, length, length-append, refl, sym, ap, ◌∙◌, subst, arith}
use Rattle.std.proofs.Math.Nat.{suc-mul}
use Rattle.std.specs.List.{AllByRecursion}
use Rattle.ld_term.specs.Terms.{Term, variable, multiply, height, leaf_count}
use Rattle.term_expand.specs.Expansions.{Expansion, expanded, no_place, not_expandable, within, expansion_at}
use Rattle.term_expand.specs.Requests.{above, expand_requests}
use Rattle.term_graph.specs.Listings.{products}
use Rattle.ld_cert.specs.Certificates.{ExpandsAlong}
use Rattle.ld_cert.specs.Accepted.{behind_expansion, along_requests}
use Rattle.ld_cert.proofs.ListLemmas.{all_append, all_weaker}

-- ---- Leaves ----

-- a term has a leaf
pub leaf_pos : (t : Term) → 1 ≤ leaf_count t
leaf_pos variable = omega arith
leaf_pos (multiply t u) = omega (arith, leaf_pos t)

-- and more leaves than it is high
pub height-leaf_count : (t : Term) → height t + 1 ≤ leaf_count t
height-leaf_count variable = omega arith
height-leaf_count (multiply t u) =
    omega (arith, height-leaf_count t, height-leaf_count u, leaf_pos t, leaf_pos u)

-- ---- Parts ----

-- An expansion of a whole is one of its part.
record IsOfPart (whole : Term → Term) (e : Expansion) (u : Term) : Type 0 where
  part : Term
  is : e ≡ expanded part
  same : u ≡ whole part

within-expanded
    : (whole : Term → Term) (e : Expansion) (u : Term)
    → within whole e ≡ expanded u
    → IsOfPart whole e u
within-expanded whole (expanded v) u is = record { part = v; is = refl; same = cc }
within-expanded whole no_place u is = absurd cc
within-expanded whole not_expandable u is = absurd cc

-- No term of a list has more leaves than this.
abbrev pub AreFew : ℕ → List Term → Type 0
AreFew most ts = AllByRecursion (λ t. leaf_count t ≤ most) ts

-- What is known of an expansion: its size, and its requests.
pub record Grows (address : List ℕ) (t u : Term) (requests : List Term) : Type 0 where
  pub deep : length address + 3 ≤ leaf_count t
  pub more : leaf_count t + 1 ≤ leaf_count u
  pub count : length requests ≡ length address + 3
  pub few : AreFew (leaf_count u) requests

-- a part with something beside it
grows-part
    : (side : ℕ) (address : List ℕ) (t whole part u : Term) (requests : List Term)
    → leaf_count t < leaf_count whole
    → leaf_count part + (leaf_count whole - leaf_count t) ≡ leaf_count u
    → Grows address t part requests
    → Grows (side ∷ address) whole u (requests ++ u ∷ [])
grows-part side address t whole part u requests larger leaves grows = record {
  deep = omega (arith, larger, grows.deep);
  more = omega (arith, larger, leaves, grows.more);
  count = omega (arith, grows.count, length-append requests (u ∷ []));
  few =
      all_append (λ s. leaf_count s ≤ leaf_count u) requests (u ∷ [])
      (all_weaker (λ s. leaf_count s ≤ leaf_count part) (λ s. leaf_count s ≤ leaf_count u) requests
      (λ s low. omega (arith, low, larger, leaves)) grows.few)
      (omega arith, tt);
}

-- the requests for a part, and the whole behind them
above-part
    : (address : List ℕ) (t : Term) (whole : Term → Term) (part u : Term)
    → expansion_at address t ≡ expanded part
    → u ≡ whole part
    → expand_requests address t ++ u ∷ []
    ≡ expand_requests address t ++ above whole (expansion_at address t)
above-part address t whole part u is same =
    ap (λ z. expand_requests address t ++ z) (ap (λ z. z ∷ []) same ∙ sym (ap (above whole) is))

-- an expansion at an address
pub expanded-Grows
    : (address : List ℕ) (t u : Term)
    → expansion_at address t ≡ expanded u
    → Grows address t u (expand_requests address t)
expanded-Grows [] variable u is = absurd cc
expanded-Grows [] (multiply t variable) u is = absurd cc
expanded-Grows [] (multiply t (multiply a b)) u is =
    let same : multiply (multiply t a) (multiply t b) ≡ u = cc in
    let leaves = ap leaf_count same in
    record {
      deep = omega (arith, leaf_pos t, leaf_pos a, leaf_pos b);
      more = omega (arith, leaves, leaf_pos t);
      count = refl;
      few = (omega (arith, leaves), (omega (arith, leaves), (omega (arith, leaves), tt)));
    }
expanded-Grows (side ∷ address) variable u is = absurd cc
expanded-Grows (side ∷ address) (multiply t v) u is =
    go (side == 48) refl is (expanded-Grows address t) (expanded-Grows address v)
  where
    go
        : (left : Bool)
        → (side == 48) ≡ left
        → (if left then within (λ a. multiply a v) (expansion_at address t)
        else within (λ b. multiply t b) (expansion_at address v)) ≡ expanded u
        → ((p : Term) → expansion_at address t ≡ expanded p → Grows address t p (expand_requests address t))
        → ((p : Term) → expansion_at address v ≡ expanded p → Grows address v p (expand_requests address v))
        → Grows (side ∷ address) (multiply t v) u
        (if left then expand_requests address t ++ above (λ a. multiply a v) (expansion_at address t)
        else expand_requests address v ++ above (λ b. multiply t b) (expansion_at address v))
    go true test is one two =
        let of = within-expanded (λ a. multiply a v) (expansion_at address t) u is in
        let leaves = ap leaf_count of.same in
        subst (Grows (side ∷ address) (multiply t v) u)
        (above-part address t (λ a. multiply a v) of.part u of.is of.same)
        (grows-part side address t (multiply t v) of.part u (expand_requests address t)
        (omega (arith, leaf_pos v)) (omega (arith, leaves)) (one of.part of.is))
    go false test is one two =
        let of = within-expanded (λ b. multiply t b) (expansion_at address v) u is in
        let leaves = ap leaf_count of.same in
        subst (Grows (side ∷ address) (multiply t v) u)
        (above-part address v (λ b. multiply t b) of.part u of.is of.same)
        (grows-part side address v (multiply t v) of.part u (expand_requests address v)
        (omega (arith, leaf_pos t)) (omega (arith, leaves)) (two of.part of.is))

-- ---- Along a list of addresses ----

-- What is known of a term and what it becomes along addresses: it has a leaf more for each, no address is
-- deep, and each asks for few products.
pub record GrowsAlong (addresses : List (List ℕ)) (t u : Term) : Type 0 where
  pub more : length addresses + leaf_count t ≤ leaf_count u
  pub deep : AllByRecursion (λ address. length address + 3 ≤ leaf_count u) addresses
  pub count : length (along_requests addresses t) ≤ length addresses * leaf_count u
  pub few : AreFew (leaf_count u) (along_requests addresses t)

pub along-GrowsAlong
    : (addresses : List (List ℕ)) (t u : Term)
    → ExpandsAlong addresses t u
    → GrowsAlong addresses t u
along-GrowsAlong [] t u same =
    record { more = omega (arith, ap leaf_count same); deep = tt; count = omega arith; few = tt }
along-GrowsAlong (address ∷ addresses) t u (v, is, along) =
    let first = expanded-Grows address t v is in
    let rest = along-GrowsAlong addresses v u along in
    let lower : leaf_count v ≤ leaf_count u = omega (arith, rest.more) in
    let asked : expand_requests address t ++ along_requests addresses v
    ≡ along_requests (address ∷ addresses) t
    = ap (λ e. expand_requests address t ++ behind_expansion e (along_requests addresses)) (sym is) in
    record {
      more = omega (arith, first.more, rest.more);
      deep = (omega (arith, first.deep, first.more, lower), rest.deep);
      count =
          let size = length-append (expand_requests address t) (along_requests addresses v) in
          let product = suc-mul (length addresses) (leaf_count u) in
          omega (arith, ap length asked, size, product, first.count, first.deep, first.more, lower, rest.count);
      few = subst (AreFew (leaf_count u)) asked
          (all_append (λ s. leaf_count s ≤ leaf_count u) (expand_requests address t)
          (along_requests addresses v)
          (all_weaker (λ s. leaf_count s ≤ leaf_count v) (λ s. leaf_count s ≤ leaf_count u)
          (expand_requests address t) (λ s low. omega (arith, low, lower)) first.few)
          rest.few);
    }

-- ---- The products of a term ----

-- a term has one leaf more than products
pub length-products : (t : Term) → length (products t) + 1 ≡ leaf_count t
length-products variable = refl
length-products (multiply t u) =
    omega (
      arith,
      length-products t,
      length-products u,
      length-append (products u) (multiply t u ∷ []),
      length-append (products t) (products u ++ (multiply t u ∷ [])),
    )

-- none of which has more leaves
pub products-few : (t : Term) (most : ℕ) → leaf_count t ≤ most → AreFew most (products t)
products-few variable most low = tt
products-few (multiply t u) most low =
    let small : Term → Type 0 = λ s. leaf_count s ≤ most in
    all_append small (products t) (products u ++ (multiply t u ∷ [])) (products-few t most (omega (arith, low)))
    (all_append small (products u) (multiply t u ∷ []) (products-few u most (omega (arith, low))) (low, tt))
