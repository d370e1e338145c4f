-- An order of strands, settled between the one before it and the one after it.
--
-- Read a product of simple braids as the orders of the strands between its factors. Two neighbours of an
-- order may be exchanged where they stand in this order before and turned after: the crossing then goes
-- over to the first of the two factors. The end of such exchanges is one order (`settle`). Settling
-- twice over a middle order that crosses no pair twice is settling once (`settle-merge`).
use Rattle.std.proofs.Common.{ℕ, ◌≡◌, ◌⊎◌, inl, inr, ◌+◌, ◌<◌, ◌≤◌, ◌∙◌, List, refl, sym, arith}
use Rattle.std.proofs.lemmas.Bool.{true≢false}
use Rattle.perm_braid.specs.Arrangements.{entry, IsOrder}
use Rattle.garside_form.proofs.SortLemmas.{sort_by, Leads, done, Leads-sort, sort-leads, IsChain, IsChain-sort, chain_at, chain_from, sort-is}
use Rattle.garside_form.proofs.LeadingLemmas.{IsBefore, IsStrand, before_or, neighbours_before, descends, descends_parts, descends_from, descends_not, IsStrict-descends, IsOrder-leads, Leads-before, leads_to}

-- ---- Settling ----

-- The order y, settled between x and z.
unfoldable pub settle : List ℕ → List ℕ → List ℕ → List ℕ
settle x y z = sort_by (descends x z) y

-- No neighbours in y stand so in x and turned in z.
abbrev pub IsSettled : List ℕ → List ℕ → List ℕ → Type 0
IsSettled x y z = IsChain (descends x z) y

-- it is reached by exchanges
pub Leads-settle : (x y z : List ℕ) → Leads (descends x z) y (settle x y z)
unfolding settle
Leads-settle x y z = Leads-sort (descends x z) y

-- it is an order
pub IsOrder-settle : {n : ℕ} {y : List ℕ} (x z : List ℕ) → IsOrder n y → IsOrder n (settle x y z)
IsOrder-settle {n} {y} x z order = IsOrder-leads order (Leads-settle x y z)

-- it is settled
pub IsSettled-settle : (x y z : List ℕ) → IsSettled x (settle x y z) z
unfolding settle
IsSettled-settle x y z = IsChain-sort (IsStrict-descends x z) y

-- exchanges before settling change nothing
pub settle-along : (x y c z : List ℕ) → Leads (descends x z) y c → settle x y z ≡ settle x c z
unfolding settle
settle-along x y c z leads = sort-leads (IsStrict-descends x z) leads

-- what is settled and is reached by exchanges is the end
pub settle-is : (x y c z : List ℕ) → Leads (descends x z) y c → IsSettled x c z → settle x y z ≡ c
unfolding settle
settle-is x y c z leads chain = sort-is (IsStrict-descends x z) leads chain

-- a settled order stays
pub settle-settled : (x y z : List ℕ) → IsSettled x y z → settle x y z ≡ y
settle-settled x y z chain = settle-is x y y z done chain

-- pairs that were turned by settling
pub settle-turned
    : {n : ℕ} {y : List ℕ} (x z : List ℕ)
    → IsOrder n y
    → (e f : ℕ)
    → IsStrand n e
    → IsStrand n f
    → IsBefore (settle x y z) f e
    → IsBefore y f e ⊎ (IsBefore x e f × IsBefore z f e)
settle-turned {n} {y} x z order e f one two after =
    elim (Leads-before order (Leads-settle x y z) e f one two after) [
      | inl before ↦ inl before
      | inr may ↦ inr (descends_parts x z e f may)
    ]

-- a settled order, from its pairs of neighbours
pub IsSettled-from
    : {n : ℕ} {y : List ℕ} (x z : List ℕ)
    → IsOrder n y
    → ((i : ℕ) → 1 ≤ i → i < n → IsBefore x (entry y i) (entry y (i + 1))
    → IsBefore z (entry y (i + 1)) (entry y i) → ⊥)
    → IsSettled x y z
IsSettled-from {n} {y} x z order never =
    chain_from (descends x z) y
    (λ i low high. descends_not x z (entry y i) (entry y (i + 1))
    (never i low (omega (arith, order.size, high))))

-- at a place of a settled order
pub settled_at
    : {n : ℕ} {y : List ℕ} (x z : List ℕ)
    → IsOrder n y
    → IsSettled x y z
    → (i : ℕ)
    → 1 ≤ i
    → i < n
    → IsBefore x (entry y i) (entry y (i + 1))
    → IsBefore z (entry y (i + 1)) (entry y i)
    → ⊥
settled_at {n} {y} x z order chain i low high first second =
    let no = chain_at (descends x z) y chain i (i + 1) low refl (omega (arith, order.size, high)) in
    let may = descends_from x z (entry y i) (entry y (i + 1)) first second in
    absurd (true≢false (sym may ∙ no))

-- settling between orders that agree leads all the way
pub settle-all : {n : ℕ} {x z : List ℕ} → IsOrder n x → IsOrder n z → settle x x z ≡ z
settle-all {n} {x} {z} first second =
    settle-is x x z z (leads_to (descends x z) first second
    (λ e f one two before after. descends_from x z e f before after))
    (IsSettled-from x z second (λ i low high before after. let now =
    neighbours_before second i low high in absurd (omega (arith, now, after))))

-- ---- Orders between two others ----

-- No pair is turned twice from x over y to z.
abbrev pub IsBetween : ℕ → List ℕ → List ℕ → List ℕ → Type 0
IsBetween n x y z = (e f : ℕ) → IsStrand n e → IsStrand n f → IsBefore x e f → IsBefore z e f → IsBefore y e f

-- strands in an order are two
pub before_differ : (a : List ℕ) (e f : ℕ) → IsBefore a e f → e ≡ f → ⊥
before_differ a e f before same =
    let twice : IsBefore a f f = rw same at before in absurd (omega arith)

-- a pair turned from y to o stands in x as in y
between_first
    : {n : ℕ} {x : List ℕ} (y o : List ℕ)
    → IsOrder n x
    → IsBetween n x y o
    → (e f : ℕ)
    → IsStrand n e
    → IsStrand n f
    → IsBefore y e f
    → IsBefore o f e
    → IsBefore x e f
between_first {n} {x} y o order between e f one two before after =
    elim (before_or order e f one two (before_differ y e f before)) [
      | inl right ↦ right
      | inr wrong ↦ let again = between f e two one wrong after in absurd (omega (arith, again, before))
    ]

-- what stands so in x and turned where y and o end, stands turned there if it was settled between y and p
pub turned_stays
    : {n : ℕ} {u : List ℕ} (y p : List ℕ)
    → IsOrder n u
    → (e f : ℕ)
    → IsStrand n e
    → IsStrand n f
    → IsBefore u f e
    → (IsBefore y f e → IsBefore p e f → ⊥)
    → IsBefore (settle y u p) f e
turned_stays {n} {u} y p order e f one two now never =
    elim (before_or (IsOrder-settle y p order) e f one two (λ same. before_differ u f e now (sym same))) [
      | inl wrong ↦ elim (settle-turned y p order f e two one wrong) [
        | inl before ↦ absurd (omega (arith, before, now))
        | inr both ↦ absurd (never both.0 both.1)
      ]
      | inr right ↦ right
    ]

-- settling over a middle order is settling once
--
-- Let t be o settled between y and p, and u be o settled between x and p. Exchanges that x and t allow lead
-- from y to o and on to u, where none is left; and where such exchanges end is determined, so that y, settled
-- between x and t, is u.
pub settle-merge
    : {n : ℕ} {x y o p : List ℕ}
    → IsOrder n x
    → IsOrder n y
    → IsOrder n o
    → IsOrder n p
    → IsBetween n x y o
    → settle x y (settle y o p) ≡ settle x o p
settle-merge {n} {x} {y} {o} {p} in_x in_y in_o in_p between =
    let t = settle y o p in
    let u = settle x o p in
    let in_t = IsOrder-settle y p in_o in
    let in_u = IsOrder-settle x p in_o in
    let first : Leads (descends x t) y o = leads_to (descends x t) in_y in_o
    (λ e f one two before after.
    descends_from x t e f (between_first y o in_x between e f one two before after)
    (turned_stays y p in_o e f one two after (λ back _. absurd (omega (arith, back, before))))) in
    let over : Leads (descends y p) o u = leads_to (descends y p) in_o in_u
    (λ e f one two before after.
    elim (settle-turned x p in_o e f one two after) [
      | inl same ↦ absurd (omega (arith, same, before))
      | inr may ↦ descends_from y p e f (between e f one two may.0 before) may.1
    ]) in
    let same : t ≡ settle y u p = settle-along y o u p over in
    let second : Leads (descends x t) o u = leads_to (descends x t) in_o in_u
    (λ e f one two before after.
    elim (settle-turned x p in_o e f one two after) [
      | inl back ↦ absurd (omega (arith, back, before))
      | inr may ↦
          let there : IsBefore (settle y u p) f e =
          turned_stays y p in_u e f one two after (λ _ wrong. absurd (omega (arith, wrong, may.1))) in
          descends_from x t e f may.0 (rw same there)
    ]) in
    let stuck : IsSettled x u t = IsSettled-from x t in_u
    (λ i low high before after.
    merged_stuck in_x in_o in_p i low high before after) in
    settle-along x y o t first ∙ settle-is x o u t second stuck
  where
    merged_stuck : IsOrder n x → IsOrder n o → IsOrder n p → (i : ℕ) → 1 ≤ i → i < n
        → IsBefore x (entry (settle x o p) i) (entry (settle x o p) (i + 1))
        → IsBefore (settle y o p) (entry (settle x o p) (i + 1)) (entry (settle x o p) i) → ⊥
    merged_stuck in_x in_o in_p i low high before after =
        let u = settle x o p in
        let in_u = IsOrder-settle x p in_o in
        let e = entry u i in
        let f = entry u (i + 1) in
        let one = in_u.within i low (omega arith) in
        let two = in_u.within (i + 1) (omega arith) (omega arith) in
        let now = neighbours_before in_u i low high in
        elim (settle-turned y p in_o e f one two after) [
          | inl turned ↦ elim (settle-turned x p in_o f e two one now) [
            | inl back ↦ absurd (omega (arith, back, turned))
            | inr may ↦ absurd (omega (arith, may, before))
          ]
          | inr may ↦ settled_at x p in_u (IsSettled-settle x o p) i low high before may.1
        ]
