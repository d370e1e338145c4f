-- What a session keeps, and the list of jobs that it is seen as.
use Rattle.std.proofs.Common.{◌≡◌, ◌≢◌, ℕ, true, false, List, [], ◌∷◌, Option, Some, None, refl, ap, sym, subst, ◌∙◌, inl, inr, true≢false}
use Rattle.std.proofs.lemmas.Bool.{cases_Bool}
use Rattle.std.proofs.lemmas.Map.Keys.{IsDistinct-head}
use Rattle.std.specs.List.{AllByRecursion, IsDistinct}
use Rattle.std.specs.Map.{keys_of, lookup}
use Rattle.std.specs.Str.{bytes_eq}
use Rattle.slab.specs.Slab.{Slab, get, Updates}
use Rattle.wb_base.proofs.NameLemmas.{same_name, same_name-true, same_name-self, same_name-bytes}
use Rattle.session_run.specs.Jobs.{Job, is_of, find_job, turn_job, close_job}
use Rattle.session_run.specs.Keeping.{HasJob, jobs_of, Keeps}

-- ---- Names ----

-- names that differ by one differ by the other
pub distinct_bytes : (names : List (List ℕ)) → IsDistinct same_name names → IsDistinct bytes_eq names
distinct_bytes names distinct =
    let one : same_name ≡ bytes_eq = λ i a b. same_name-bytes a b i in
    subst (λ eq. IsDistinct eq names) one distinct

pub distinct_same : (names : List (List ℕ)) → IsDistinct bytes_eq names → IsDistinct same_name names
distinct_same names distinct =
    let one : same_name ≡ bytes_eq = λ i a b. same_name-bytes a b i in
    subst (λ eq. IsDistinct eq names) (sym one) distinct

-- whether a job has a name, by the key under which it is
pub is_of-key : (name : List ℕ) (j : Job) (key : List ℕ) → j.name ≡ key → is_of name j ≡ same_name name key
is_of-key name j key own = ap (bytes_eq name) own ∙ sym (same_name-bytes name key)

-- ---- One job by its name ----

-- the job at a key, if there is one
abbrev pub job_at : Slab Job → Option ℕ → Option Job
job_at jobs None = None
job_at jobs (Some key) = get jobs key

-- the job of a name is that of the key of this name
pub find_job-lookup
    : (jobs : Slab Job) (name : List ℕ) (es : List (List ℕ × ℕ))
    → Keeps jobs es
    → find_job name (jobs_of jobs es) ≡ job_at jobs (lookup (same_name name) es)
find_job-lookup jobs name [] keeps = refl
find_job-lookup jobs name (e ∷ es) keeps =
    let h = keeps.0 in
    let test : is_of name h.job ≡ same_name name e.0 = is_of-key name h.job e.0 h.own in
    elim (cases_Bool (same_name name e.0)) [
      | inl same ↦ rw (h.found, test, same, h.found) refl
      | inr other ↦ rw (h.found, test, other) (find_job-lookup jobs name es keeps.1)
    ]

-- the job under a name has this name
pub own_name
    : (jobs : Slab Job) (name : List ℕ) (es : List (List ℕ × ℕ)) (key : ℕ) (j : Job)
    → Keeps jobs es
    → lookup (same_name name) es ≡ Some key
    → get jobs key ≡ Some j
    → j.name ≡ name
own_name jobs name [] key j keeps found at = absurd cc
own_name jobs name (e ∷ es) key j keeps found at = elim (cases_Bool (same_name name e.0)) [
  | inl same ↦
      let first : Some e.1 ≡ Some key = rw same at found in
      let place : e.1 ≡ key = cc in
      let h = keeps.0 in
      let here : get jobs key ≡ Some h.job = subst (λ k. get jobs k ≡ Some h.job) place h.found in
      let both : Some h.job ≡ Some j = sym here ∙ at in
      let one : h.job ≡ j = cc in
      ap (λ (x : Job). x.name) (sym one) ∙ h.own ∙ sym (same_name-true name e.0 same)
  | inr other ↦ own_name jobs name es key j keeps.1 (rw other at found) at
]

-- ---- Jobs that a change leaves as they are ----

-- the keys have what they had
abbrev pub SameAt : Slab Job → Slab Job → List (List ℕ × ℕ) → Type 0
SameAt old new es = AllByRecursion (λ (e : List ℕ × ℕ). get new e.1 ≡ get old e.1) es

pub jobs_of-same
    : (old new : Slab Job) (es : List (List ℕ × ℕ))
    → SameAt old new es
    → jobs_of new es ≡ jobs_of old es
jobs_of-same old new [] same = refl
jobs_of-same old new (e ∷ es) same = rw (same.0, jobs_of-same old new es same.1) refl

pub HasJob-same
    : (old new : Slab Job) (e : List ℕ × ℕ)
    → get new e.1 ≡ get old e.1
    → HasJob old e
    → HasJob new e
HasJob-same old new e same h = record { job = h.job; found = same ∙ h.found; own = h.own }

pub Keeps-same
    : (old new : Slab Job) (es : List (List ℕ × ℕ))
    → SameAt old new es
    → Keeps old es
    → Keeps new es
Keeps-same old new [] same keeps = tt
Keeps-same old new (e ∷ es) same keeps =
    (HasJob-same old new e same.0 keeps.0, Keeps-same old new es same.1 keeps.1)

-- a change at a key that has no job leaves all others
pub SameAt-vacant
    : (old new : Slab Job) (es : List (List ℕ × ℕ)) (key : ℕ) (slot : Option Job)
    → Keeps old es
    → get old key ≡ None
    → Updates old new key slot
    → SameAt old new es
SameAt-vacant old new [] key slot keeps vacant updates = tt
SameAt-vacant old new (e ∷ es) key slot keeps vacant updates = (
  updates.others e.1 (λ at. absurd (never (sym (ap (get old) at ∙ vacant) ∙ (keeps.0).found))),
  SameAt-vacant old new es key slot keeps.1 vacant updates,
)
  where
    never : None ≡ Some (keeps.0).job → ⊥
    never e = absurd cc

-- a change of the job of this name leaves an entry of another name
pub same_elsewhere
    : (old new : Slab Job) (e : List ℕ × ℕ) (name : List ℕ) (key : ℕ) (j : Job) (slot : Option Job)
    → HasJob old e
    → get old key ≡ Some j
    → j.name ≡ name
    → same_name name e.0 ≡ false
    → Updates old new key slot
    → get new e.1 ≡ get old e.1
same_elsewhere old new e name key j slot h at own other updates = updates.others e.1 differs
  where
    differs : e.1 ≢ key
    differs place =
        let here : get old key ≡ Some h.job = subst (λ k. get old k ≡ Some h.job) place h.found in
        let both : Some h.job ≡ Some j = sym here ∙ at in
        let one : h.job ≡ j = cc in
        let names : name ≡ e.0 = sym own ∙ ap (λ (x : Job). x.name) (sym one) ∙ h.own in
        absurd (true≢false (sym (subst (λ z. same_name name z ≡ true) names (same_name-self name)) ∙ other))

-- no entry has this name
abbrev pub NoneNamed : List ℕ → List (List ℕ × ℕ) → Type 0
NoneNamed name es = AllByRecursion (λ k. same_name name k ≡ false) (keys_of es)

pub SameAt-named
    : (old new : Slab Job) (es : List (List ℕ × ℕ)) (name : List ℕ) (key : ℕ) (j : Job) (slot : Option Job)
    → Keeps old es
    → get old key ≡ Some j
    → j.name ≡ name
    → NoneNamed name es
    → Updates old new key slot
    → SameAt old new es
SameAt-named old new [] name key j slot keeps at own none updates = tt
SameAt-named old new (e ∷ es) name key j slot keeps at own none updates = (
  same_elsewhere old new e name key j slot keeps.0 at own none.0 updates,
  SameAt-named old new es name key j slot keeps.1 at own none.1 updates,
)

-- a turn of a name that none has
pub turn_job-none
    : (jobs : Slab Job) (name : List ℕ) (count : ℕ) (es : List (List ℕ × ℕ))
    → Keeps jobs es
    → NoneNamed name es
    → turn_job name count (jobs_of jobs es) ≡ jobs_of jobs es
turn_job-none jobs name count [] keeps none = refl
turn_job-none jobs name count (e ∷ es) keeps none =
    let h = keeps.0 in
    let test : is_of name h.job ≡ false = is_of-key name h.job e.0 h.own ∙ none.0 in
    rw (h.found, test, turn_job-none jobs name count es keeps.1 none.1) refl

-- a close of a name that none has
pub close_job-none
    : (jobs : Slab Job) (name : List ℕ) (es : List (List ℕ × ℕ))
    → Keeps jobs es
    → NoneNamed name es
    → close_job name (jobs_of jobs es) ≡ jobs_of jobs es
close_job-none jobs name [] keeps none = refl
close_job-none jobs name (e ∷ es) keeps none =
    let h = keeps.0 in
    let test : is_of name h.job ≡ false = is_of-key name h.job e.0 h.own ∙ none.0 in
    rw (h.found, test, close_job-none jobs name es keeps.1 none.1) refl

-- the entries behind the one of a name
pub none_behind
    : (name key : List ℕ) (es : List (List ℕ × ℕ))
    → same_name name key ≡ true
    → IsDistinct same_name (key ∷ keys_of es)
    → NoneNamed name es
none_behind name key es same distinct =
    subst (λ z. NoneNamed z es) (sym (same_name-true name key same))
    (IsDistinct-head same_name key (keys_of es) distinct)
