-- Each job that a session keeps stands under the key of its name (`HasKeys`), whatever the session does: no
-- closed job is left in the slab.
use Rattle.std.proofs.Common.{◌≡◌, ℕ, Bool, List, [], ◌∷◌, ◌++◌, Some, None, is_some, refl, ap, sym, subst, ◌∙◌, inl, inr, get_or}
use Rattle.std.proofs.lemmas.Bool.{cases_Bool, cases_eq}
use Rattle.std.specs.List.{IsDistinct}
use Rattle.std.specs.Map.{keys_of, lookup, remove_entry}
use Rattle.std.proofs.lemmas.Map.{lookup-remove_entry}
use Rattle.std.proofs.lemmas.Cmp.{nat_list_eq_equiv}
use Rattle.std.proofs.lemmas.Slice.Eq.{bytes_eq-Decides}
use Rattle.std.specs.Str.{bytes_eq}
use Rattle.slab.specs.Slab.{Slab, get, Updates, with_value}
use Rattle.slab.proofs.SlabLemmas.{Updates-with_value}
use Rattle.wb_base.proofs.NameLemmas.{same_name, same_name-self, same_name-bytes}
use Rattle.wb_base.proofs.PartLemmas.{Some-injective}
use Rattle.session_run.specs.Jobs.{Job}
use Rattle.session_run.specs.Keeping.{HasKeys}

-- ---- Keys of names ----

-- a name is looked up by its bytes
lookup_bytes
    : (name : List ℕ) (es : List (List ℕ × ℕ))
    → lookup (bytes_eq name) es ≡ lookup (same_name name) es
lookup_bytes name es =
    let one : same_name ≡ bytes_eq = λ i a b. same_name-bytes a b i in
    ap (λ (eq : List ℕ → List ℕ → Bool). lookup (eq name) es) (sym one)

-- the key of a name stays where another name is taken away
lookup_kept
    : (name other : List ℕ) (es : List (List ℕ × ℕ)) (key : ℕ)
    → IsDistinct bytes_eq (keys_of es)
    → (name ≡ other → ⊥)
    → lookup (bytes_eq other) es ≡ Some key
    → lookup (bytes_eq other) (remove_entry (same_name name) es) ≡ Some key
lookup_kept name other es key distinct differ found =
    elim (cases_Bool (bytes_eq name other)) [
      | inl same ↦ absurd (differ ((bytes_eq-Decides name other).0 same))
      | inr other_one ↦
          let one : same_name ≡ bytes_eq = λ i a b. same_name-bytes a b i in
          let stays : lookup (bytes_eq other) (remove_entry (bytes_eq name) es) ≡ Some key =
          lookup-remove_entry nat_list_eq_equiv (bytes_eq name) (λ x y. nat_list_eq_equiv.congr name x y)
          other es distinct ∙ rw other_one found in
          subst (λ (eq : List ℕ → List ℕ → Bool). lookup (bytes_eq other) (remove_entry (eq name) es)
          ≡ Some key)
          (sym one) stays
    ]

-- and where one is added at the end
lookup_front
    : (name : List ℕ) (es more : List (List ℕ × ℕ)) (key : ℕ)
    → lookup (same_name name) es ≡ Some key
    → lookup (same_name name) (es ++ more) ≡ Some key
lookup_front name [] more key found = absurd cc
lookup_front name (e ∷ es) more key found = elim (cases_Bool (same_name name e.0)) [
  | inl here ↦ rw here (rw here at found)
  | inr next ↦ rw next (lookup_front name es more key (rw next at found))
]

-- a name that is added has its key
lookup_last
    : (name : List ℕ) (es : List (List ℕ × ℕ)) (key : ℕ)
    → lookup (same_name name) es ≡ None
    → lookup (same_name name) (es ++ (name, key) ∷ []) ≡ Some key
lookup_last name [] key none = rw (same_name-self name) refl
lookup_last name (e ∷ es) key none = elim (cases_Bool (same_name name e.0)) [
  | inl here ↦ let never : Some e.1 ≡ None = rw here at none in absurd cc
  | inr next ↦ rw next (lookup_last name es key (rw next at none))
]

-- ---- What the calls of a session leave ----

-- a session without jobs
pub HasKeys-empty : (jobs : Slab Job) (es : List (List ℕ × ℕ)) → jobs.slots ≡ [] → HasKeys jobs es
HasKeys-empty jobs es empty key job found =
    let none : get jobs key ≡ None = ap (λ slots. get_or slots key None) empty in
    let never : None ≡ Some job = sym none ∙ found in
    absurd cc

-- a turn of the job at a key
pub HasKeys-turned
    : (old : Slab Job) (es : List (List ℕ × ℕ)) (place : ℕ) (j turned : Job)
    → HasKeys old es
    → get old place ≡ Some j
    → turned.name ≡ j.name
    → HasKeys (with_value old place turned) es
HasKeys-turned old es place j turned keys at name key job found =
    let updates = Updates-with_value old place turned (ap is_some at) in
    elim (cases_eq key place) [
      | inl here ↦
          let now : get (with_value old place turned) place ≡ Some job =
          ap (get (with_value old place turned)) (sym here) ∙ found in
          let same : turned ≡ job = Some-injective (sym updates.changed ∙ now) in
          let names : j.name ≡ job.name = sym name ∙ ap (λ (x : Job). x.name) same in
          subst (λ z. lookup (bytes_eq z) es ≡ Some key) names (keys place j at ∙ ap (λ k. Some k) (sym here))
      | inr other ↦ keys key job (sym (updates.others key other) ∙ found)
    ]

-- a close of the job of a name
pub HasKeys-closed
    : (old new : Slab Job) (es : List (List ℕ × ℕ)) (name : List ℕ) (place : ℕ)
    → IsDistinct bytes_eq (keys_of es)
    → HasKeys old es
    → lookup (same_name name) es ≡ Some place
    → Updates old new place None
    → HasKeys new (remove_entry (same_name name) es)
HasKeys-closed old new es name place distinct keys opened updates key job found =
    elim (cases_eq key place) [
      | inl here ↦
          let never : None ≡ Some job = sym updates.changed ∙ ap (get new) (sym here) ∙ found in absurd cc
      | inr other ↦
          let has : lookup (bytes_eq job.name) es ≡ Some key =
          keys key job (sym (updates.others key other) ∙ found) in
          let here : lookup (bytes_eq name) es ≡ Some place = lookup_bytes name es ∙ opened in
          let differ : name ≡ job.name → ⊥ =
          λ same. other (Some-injective (sym has ∙ ap (λ z. lookup (bytes_eq z) es) (sym same) ∙ here)) in
          lookup_kept name job.name es key distinct differ has
    ]

-- an opening of a name that isn't open
pub HasKeys-added
    : (old room new : Slab Job) (es : List (List ℕ × ℕ)) (place : ℕ) (j : Job)
    → HasKeys old es
    → room.slots ≡ old.slots
    → lookup (same_name j.name) es ≡ None
    → Updates room new place (Some j)
    → HasKeys new (es ++ (j.name, place) ∷ [])
HasKeys-added old room new es place j keys same closed updates key job found =
    elim (cases_eq key place) [
      | inl here ↦
          let now : get new place ≡ Some job = ap (get new) (sym here) ∙ found in
          let one : j ≡ job = Some-injective (sym updates.changed ∙ now) in
          subst (λ (z : Job). lookup (bytes_eq z.name) (es ++ (j.name, place) ∷ []) ≡ Some key) one
          (lookup_bytes j.name (es ++ (j.name, place) ∷ []) ∙ lookup_last j.name es place closed
          ∙ ap (λ k. Some k) (sym here))
      | inr other ↦
          let before : get old key ≡ Some job =
          ap (λ slots. get_or slots key None) (sym same) ∙ sym (updates.others key other) ∙ found in
          lookup_bytes job.name (es ++ (j.name, place) ∷ [])
          ∙ lookup_front job.name es ((j.name, place) ∷ []) key
          (sym (lookup_bytes job.name es) ∙ keys key job before)
    ]
