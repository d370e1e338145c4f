-- Sorting by a relation that is transitive and asymmetric.
--
-- Neighbours that the relation holds of may be exchanged. However that is done, the end is one list, the
-- one that insertion sort gives (`sort-leads`, `sort-chain`): so an order of exchanges never matters.
use Rattle.std.proofs.Common.{ℕ, zero, suc, ◌≡◌, inl, inr, ◌+◌, ◌<◌, ◌≤◌, ◌∙◌, Bool, true, false, cond, List, [], ◌∷◌, length, refl, ap, arith}
use Rattle.std.proofs.lemmas.Bool.{cases_Bool}
use Rattle.perm_braid.specs.Arrangements.{entry, swapped}

-- ---- The relation ----

-- A relation by which there is a sorted list.
pub record IsStrict (R : ℕ → ℕ → Bool) : Type 0 where
  pub trans : (a b c : ℕ) → R a b ≡ true → R b c ≡ true → R a c ≡ true
  pub asym : (a b : ℕ) → R a b ≡ true → R b a ≡ false

-- ---- Insertion sort ----

-- e is put behind all at the front that it may pass.
abbrev pub insert_by : (ℕ → ℕ → Bool) → ℕ → List ℕ → List ℕ
insert_by R e [] = e ∷ []
insert_by R e (x ∷ a) = cond (R e x) (x ∷ insert_by R e a) (e ∷ x ∷ a)

-- Each entry is put into the sorted rest.
abbrev pub sort_by : (ℕ → ℕ → Bool) → List ℕ → List ℕ
sort_by R [] = []
sort_by R (x ∷ a) = insert_by R x (sort_by R a)

-- ---- Exchanges ----

-- Exchanges of neighbours that the relation holds of lead from the first list to the second.
pub data Leads (R : ℕ → ℕ → Bool) : List ℕ → List ℕ → Type 0 where
  done : {a : List ℕ} → Leads R a a
  turn : {a c : List ℕ} (i j : ℕ) → 1 ≤ i → j ≡ i + 1 → j ≤ length a → R (entry a i) (entry a j) ≡ true
      → Leads R (swapped i a) c → Leads R a c

-- exchanges one after another
pub Leads-trans : {R : ℕ → ℕ → Bool} {a b c : List ℕ} → Leads R a b → Leads R b c → Leads R a c
Leads-trans done second = second
Leads-trans (turn i j low next high may first) second = turn i j low next high may (Leads-trans first second)

-- exchanges behind one entry
pub Leads-cons : {R : ℕ → ℕ → Bool} {a c : List ℕ} (x : ℕ) → Leads R a c → Leads R (x ∷ a) (x ∷ c)
Leads-cons x done = done
Leads-cons x (turn zero j low next high may rest) = absurd (omega arith)
Leads-cons x (turn (suc i) zero low next high may rest) = absurd (omega arith)
Leads-cons {R} {a} x (turn (suc i) (suc j) low next high may rest) =
    turn (suc (suc i)) (suc (suc j)) (omega arith) (omega arith) (omega arith) may (Leads-cons x rest)

-- inserting is by exchanges
insert_leads : (R : ℕ → ℕ → Bool) (e : ℕ) (a : List ℕ) → Leads R (e ∷ a) (insert_by R e a)
insert_leads R e [] = done
insert_leads R e (x ∷ a) = elim (cases_Bool (R e x)) [
  | inl may ↦ rw may (first may (Leads-cons x (insert_leads R e a)))
  | inr not ↦ rw not done
]
  where
    first : {c : List ℕ} → R e x ≡ true → Leads R (x ∷ e ∷ a) c → Leads R (e ∷ x ∷ a) c
    first may rest = turn {a = e ∷ x ∷ a} 1 2 (omega arith) (omega arith) (omega arith) may rest

-- sorting is by exchanges
pub Leads-sort : (R : ℕ → ℕ → Bool) (a : List ℕ) → Leads R a (sort_by R a)
Leads-sort R [] = done
Leads-sort R (x ∷ a) = Leads-trans (Leads-cons x (Leads-sort R a)) (insert_leads R x (sort_by R a))

-- ---- The end is one ----

-- what may be exchanged can be inserted in either order
insert-exchange
    : {R : ℕ → ℕ → Bool}
    → IsStrict R
    → (a b : ℕ)
    → R a b ≡ true
    → (s : List ℕ)
    → insert_by R a (insert_by R b s) ≡ insert_by R b (insert_by R a s)
insert-exchange {R} strict a b may [] = simp (may, strict.asym a b may)
insert-exchange {R} strict a b may (x ∷ s) =
    let back = strict.asym a b may in
    elim (cases_Bool (R b x)) [
      | inl second ↦
          let first = strict.trans a b x may second in
          simp (second, first) (ap (λ c. x ∷ c) (insert-exchange strict a b may s))
      | inr second ↦ elim (cases_Bool (R a x)) [
        | inl first ↦ simp (second, first, may)
        | inr first ↦ simp (second, first, may, back)
      ]
    ]

-- one exchange doesn't change the sorted list
pub sort-swapped
    : {R : ℕ → ℕ → Bool}
    → IsStrict R
    → (i j : ℕ) (a : List ℕ)
    → 1 ≤ i
    → j ≡ i + 1
    → j ≤ length a
    → R (entry a i) (entry a j) ≡ true
    → sort_by R a ≡ sort_by R (swapped i a)
sort-swapped strict zero j a low next high may = absurd (omega arith)
sort-swapped strict (suc i) zero a low next high may = absurd (omega arith)
sort-swapped strict (suc i) (suc j) [] low next high may = absurd (omega arith)
sort-swapped strict (suc zero) (suc j) (x ∷ []) low next high may = absurd (omega arith)
sort-swapped {R} strict (suc zero) (suc j) (x ∷ y ∷ a) low next high may =
    let e : j ≡ 1 = omega arith in
    let both : R x y ≡ true = rw e at may in
    insert-exchange strict x y both (sort_by R a)
sort-swapped strict (suc (suc i)) (suc zero) (x ∷ a) low next high may = absurd (omega arith)
sort-swapped {R} strict (suc (suc i)) (suc (suc j)) (x ∷ a) low next high may =
    ap (insert_by R x) (sort-swapped strict (suc i) (suc j) a (omega arith) (omega arith) (omega arith) may)

-- no exchanges change the sorted list
pub sort-leads : {R : ℕ → ℕ → Bool} {a c : List ℕ} → IsStrict R → Leads R a c → sort_by R a ≡ sort_by R c
sort-leads strict done = refl
sort-leads {R} {a} strict (turn i j low next high may rest) =
    sort-swapped strict i j a low next high may ∙ sort-leads strict rest

-- ---- Lists in which nothing may be exchanged ----

-- The relation holds of no neighbours.
abbrev pub IsChain : (ℕ → ℕ → Bool) → List ℕ → Type 0
IsChain R [] = Unit {0}
IsChain R (x ∷ []) = Unit {0}
IsChain R (x ∷ y ∷ a) = (R x y ≡ false) × IsChain R (y ∷ a)

-- inserting into such a list gives one
insert_chain
    : {R : ℕ → ℕ → Bool}
    → IsStrict R
    → (e : ℕ) (a : List ℕ)
    → IsChain R a
    → IsChain R (insert_by R e a)
insert_chain strict e [] chain = tt
insert_chain {R} strict e (x ∷ []) chain = elim (cases_Bool (R e x)) [
  | inl may ↦ rw may (strict.asym e x may, tt)
  | inr not ↦ rw not (not, tt)
]
insert_chain {R} strict e (x ∷ y ∷ a) chain = elim (cases_Bool (R e x)) [
  | inl may ↦ elim (cases_Bool (R e y)) [
    | inl next ↦
        let rest : IsChain R (y ∷ insert_by R e a) = rw next at (insert_chain strict e (y ∷ a) chain.1) in
        rw (may, next) (chain.0, rest)
    | inr not ↦ rw (may, not) (strict.asym e x may, (not, chain.1))
  ]
  | inr not ↦ rw not (not, chain)
]

-- a sorted list is one
pub IsChain-sort : {R : ℕ → ℕ → Bool} → IsStrict R → (a : List ℕ) → IsChain R (sort_by R a)
IsChain-sort strict [] = tt
IsChain-sort {R} strict (x ∷ a) = insert_chain strict x (sort_by R a) (IsChain-sort strict a)

-- and such a list is sorted
pub sort-chain : (R : ℕ → ℕ → Bool) (a : List ℕ) → IsChain R a → sort_by R a ≡ a
sort-chain R [] chain = refl
sort-chain R (x ∷ []) chain = refl
sort-chain R (x ∷ y ∷ a) chain = rw (sort-chain R (y ∷ a) chain.1, chain.0) refl

-- at a place of such a list
pub chain_at
    : (R : ℕ → ℕ → Bool) (a : List ℕ)
    → IsChain R a
    → (i j : ℕ)
    → 1 ≤ i
    → j ≡ i + 1
    → j ≤ length a
    → R (entry a i) (entry a j) ≡ false
chain_at R a chain zero j low next high = absurd (omega arith)
chain_at R a chain (suc i) zero low next high = absurd (omega arith)
chain_at R [] chain (suc i) (suc j) low next high = absurd (omega arith)
chain_at R (x ∷ []) chain (suc i) (suc j) low next high = absurd (omega arith)
chain_at R (x ∷ y ∷ a) chain (suc zero) (suc j) low next high = let e : j ≡ 1 = omega arith in rw e chain.0
chain_at R (x ∷ y ∷ a) chain (suc (suc i)) (suc zero) low next high = absurd (omega arith)
chain_at R (x ∷ y ∷ a) chain (suc (suc i)) (suc (suc j)) low next high =
    chain_at R (y ∷ a) chain.1 (suc i) (suc j) (omega arith) (omega arith) (omega arith)

-- from all places
pub chain_from
    : (R : ℕ → ℕ → Bool) (a : List ℕ)
    → ((i : ℕ) → 1 ≤ i → i < length a → R (entry a i) (entry a (i + 1)) ≡ false)
    → IsChain R a
chain_from R [] all = tt
chain_from R (x ∷ []) all = tt
chain_from R (x ∷ y ∷ a) all = (all 1 (omega arith) (omega arith), chain_from R (y ∷ a) (rest all))
  where
    rest
        : ((i : ℕ) → 1 ≤ i → i < length (x ∷ y ∷ a)
        → R (entry (x ∷ y ∷ a) i) (entry (x ∷ y ∷ a) (i + 1)) ≡ false)
        → (i : ℕ) → 1 ≤ i → i < length (y ∷ a) → R (entry (y ∷ a) i) (entry (y ∷ a) (i + 1)) ≡ false
    rest all zero low high = absurd (omega arith)
    rest all (suc i) low high =
        let e : suc (suc i) + 1 ≡ suc (suc (i + 1)) = omega arith in
        let f : suc i + 1 ≡ suc (i + 1) = omega arith in
        let at : R (entry (y ∷ a) (suc i)) (entry (y ∷ a) (suc (i + 1))) ≡ false =
        rw e at (all (suc (suc i)) (omega arith) (omega arith)) in
        rw f at

-- exchanges that end in such a list end in the sorted one
pub sort-is : {R : ℕ → ℕ → Bool} {a c : List ℕ} → IsStrict R → Leads R a c → IsChain R c → sort_by R a ≡ c
sort-is {R} {a} {c} strict leads chain = sort-leads strict leads ∙ sort-chain R c chain
