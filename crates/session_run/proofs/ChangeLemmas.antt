-- What a turn, a close and an opening make of what a session keeps, and of the list of jobs.
use Rattle.std.proofs.Common.{◌≡◌, ℕ, true, false, List, [], ◌∷◌, ◌++◌, Option, Some, None, is_some, refl, ap, sym, subst, ◌∙◌, inl, inr, get_or}
use Rattle.std.proofs.lemmas.Bool.{cases_Bool}
use Rattle.std.proofs.lemmas.Map.Keys.{IsDistinct-tail}
use Rattle.std.specs.List.{IsDistinct}
use Rattle.std.specs.Map.{keys_of, lookup, remove_entry}
use Rattle.indexmap.specs.IndexMap.{IndexMap, insert_entry}
use Rattle.indexmap.proofs.CallerLemmas.{insert_entry-new}
use Rattle.slab.specs.Slab.{Slab, get, Updates, with_value}
use Rattle.slab.proofs.SlabLemmas.{Updates-with_value}
use Rattle.wb_base.proofs.NameLemmas.{same_name, same_name-true}
use Rattle.session_run.specs.Jobs.{Job, is_of, more_turns, find_job, turn_job, close_job}
use Rattle.session_run.specs.Keeping.{jobs_of, Keeps, HasKeys, IsKept}
use Rattle.session_run.proofs.KeepLemmas.{distinct_same, is_of-key, job_at, find_job-lookup, own_name, SameAt, jobs_of-same, HasJob-same, Keeps-same, SameAt-vacant, same_elsewhere, NoneNamed, SameAt-named, turn_job-none, close_job-none, none_behind}
use Rattle.session_run.proofs.OwnedLemmas.{HasKeys-added}

-- ---- A turn ----

-- what a turn leaves: the jobs with that one turned, each under its name
pub record Turned (old new : Slab Job) (es : List (List ℕ × ℕ)) (name : List ℕ) (count : ℕ) : Type 0 where
  pub jobs : jobs_of new es ≡ turn_job name count (jobs_of old es)
  pub keeps : Keeps new es

-- the turned job is the first
turned_here
    : (old new : Slab Job) (e : List ℕ × ℕ) (es : List (List ℕ × ℕ)) (name : List ℕ) (count key : ℕ) (j : Job)
    → Keeps old (e ∷ es)
    → IsDistinct same_name (keys_of (e ∷ es))
    → same_name name e.0 ≡ true
    → e.1 ≡ key
    → get old key ≡ Some j
    → j.name ≡ name
    → Updates old new key (Some (more_turns count j))
    → Turned old new (e ∷ es) name count
turned_here old new e es name count key j keeps distinct same place at own updates =
    let none = none_behind name e.0 es same distinct in
    let others = SameAt-named old new es name key j (Some (more_turns count j)) keeps.1 at own none updates in
    let was : get old e.1 ≡ Some j = ap (get old) place ∙ at in
    let now : get new e.1 ≡ Some (more_turns count j) = ap (get new) place ∙ updates.changed in
    let key_own : j.name ≡ e.0 = own ∙ same_name-true name e.0 same in
    let test : is_of name j ≡ true = is_of-key name j e.0 key_own ∙ same in
    let back = jobs_of-same old new es others in
    record {
      jobs = rw (was, now, test, back, turn_job-none old name count es keeps.1 none) refl;
      keeps = (
        record { job = more_turns count j; found = now; own = key_own },
        Keeps-same old new es others keeps.1,
      );
    }

-- the turned job is a later one
turned_later
    : (old new : Slab Job) (e : List ℕ × ℕ) (es : List (List ℕ × ℕ)) (name : List ℕ) (count key : ℕ) (j : Job)
    → Keeps old (e ∷ es)
    → same_name name e.0 ≡ false
    → get old key ≡ Some j
    → j.name ≡ name
    → Updates old new key (Some (more_turns count j))
    → Turned old new es name count
    → Turned old new (e ∷ es) name count
turned_later old new e es name count key j keeps other at own updates later =
    let h = keeps.0 in
    let stays = same_elsewhere old new e name key j (Some (more_turns count j)) h at own other updates in
    let test : is_of name h.job ≡ false = is_of-key name h.job e.0 h.own ∙ other in
    record {
      jobs = rw (stays, h.found, test, later.jobs) refl;
      keeps = (HasJob-same old new e stays h, later.keeps);
    }

pub Turned-update
    : (old new : Slab Job) (es : List (List ℕ × ℕ)) (name : List ℕ) (count key : ℕ) (j : Job)
    → Keeps old es
    → IsDistinct same_name (keys_of es)
    → lookup (same_name name) es ≡ Some key
    → get old key ≡ Some j
    → j.name ≡ name
    → Updates old new key (Some (more_turns count j))
    → Turned old new es name count
Turned-update old new [] name count key j keeps distinct found at own updates = absurd cc
Turned-update old new (e ∷ es) name count key j keeps distinct found at own updates =
    elim (cases_Bool (same_name name e.0)) [
      | inl same ↦
          let first : Some e.1 ≡ Some key = rw same at found in
          let place : e.1 ≡ key = cc in
          turned_here old new e es name count key j keeps distinct same place at own updates
      | inr other ↦
          turned_later old new e es name count key j keeps other at own updates
          (Turned-update old new es name count key j keeps.1
          (IsDistinct-tail same_name e.0 (keys_of es) distinct) (rw other at found) at own updates)
    ]

-- ---- A close ----

-- what a close leaves
pub record Closed (old new : Slab Job) (es : List (List ℕ × ℕ)) (name : List ℕ) : Type 0 where
  pub jobs : jobs_of new (remove_entry (same_name name) es) ≡ close_job name (jobs_of old es)
  pub keeps : Keeps new (remove_entry (same_name name) es)

closed_here
    : (old new : Slab Job) (e : List ℕ × ℕ) (es : List (List ℕ × ℕ)) (name : List ℕ) (key : ℕ) (j : Job)
    → Keeps old (e ∷ es)
    → IsDistinct same_name (keys_of (e ∷ es))
    → same_name name e.0 ≡ true
    → get old key ≡ Some j
    → j.name ≡ name
    → Updates old new key None
    → Closed old new (e ∷ es) name
closed_here old new e es name key j keeps distinct same at own updates =
    let h = keeps.0 in
    let none = none_behind name e.0 es same distinct in
    let others = SameAt-named old new es name key j None keeps.1 at own none updates in
    let test : is_of name h.job ≡ true = is_of-key name h.job e.0 h.own ∙ same in
    record {
      jobs = rw (same, h.found, test, close_job-none old name es keeps.1 none)
          (jobs_of-same old new es others);
      keeps = rw same (Keeps-same old new es others keeps.1);
    }

closed_later
    : (old new : Slab Job) (e : List ℕ × ℕ) (es : List (List ℕ × ℕ)) (name : List ℕ) (key : ℕ) (j : Job)
    → Keeps old (e ∷ es)
    → same_name name e.0 ≡ false
    → get old key ≡ Some j
    → j.name ≡ name
    → Updates old new key None
    → Closed old new es name
    → Closed old new (e ∷ es) name
closed_later old new e es name key j keeps other at own updates later =
    let h = keeps.0 in
    let stays = same_elsewhere old new e name key j None h at own other updates in
    let test : is_of name h.job ≡ false = is_of-key name h.job e.0 h.own ∙ other in
    record {
      jobs = rw (other, stays, h.found, test, later.jobs) refl;
      keeps = rw other (HasJob-same old new e stays h, later.keeps);
    }

pub Closed-update
    : (old new : Slab Job) (es : List (List ℕ × ℕ)) (name : List ℕ) (key : ℕ) (j : Job)
    → Keeps old es
    → IsDistinct same_name (keys_of es)
    → lookup (same_name name) es ≡ Some key
    → get old key ≡ Some j
    → j.name ≡ name
    → Updates old new key None
    → Closed old new es name
Closed-update old new [] name key j keeps distinct found at own updates = absurd cc
Closed-update old new (e ∷ es) name key j keeps distinct found at own updates =
    elim (cases_Bool (same_name name e.0)) [
      | inl same ↦ closed_here old new e es name key j keeps distinct same at own updates
      | inr other ↦
          closed_later old new e es name key j keeps other at own updates
          (Closed-update old new es name key j keeps.1 (IsDistinct-tail same_name e.0 (keys_of es) distinct)
          (rw other at found) at own updates)
    ]

-- a turn or a close of a name that isn't open
pub none_named-lookup
    : (name : List ℕ) (es : List (List ℕ × ℕ))
    → lookup (same_name name) es ≡ None
    → NoneNamed name es
none_named-lookup name [] none = tt
none_named-lookup name (e ∷ es) none = elim (cases_Bool (same_name name e.0)) [
  | inl same ↦ let never : Some e.1 ≡ None = rw same at none in absurd cc
  | inr other ↦ (other, none_named-lookup name es (rw other at none))
]

pub turn_job-closed
    : (jobs : Slab Job) (name : List ℕ) (count : ℕ) (es : List (List ℕ × ℕ))
    → Keeps jobs es
    → lookup (same_name name) es ≡ None
    → turn_job name count (jobs_of jobs es) ≡ jobs_of jobs es
turn_job-closed jobs name count es keeps none =
    turn_job-none jobs name count es keeps (none_named-lookup name es none)

pub close_job-closed
    : (jobs : Slab Job) (name : List ℕ) (es : List (List ℕ × ℕ))
    → Keeps jobs es
    → lookup (same_name name) es ≡ None
    → close_job name (jobs_of jobs es) ≡ jobs_of jobs es
close_job-closed jobs name es keeps none =
    close_job-none jobs name es keeps (none_named-lookup name es none)

-- the key of an open name has a job of this name
pub record OpenJob (jobs : Slab Job) (name : List ℕ) (es : List (List ℕ × ℕ)) (key : ℕ) : Type 0 where
  pub job : Job
  pub at : get jobs key ≡ Some job
  pub own : job.name ≡ name
  pub found : find_job name (jobs_of jobs es) ≡ Some job

pub OpenJob-lookup
    : (jobs : Slab Job) (name : List ℕ) (es : List (List ℕ × ℕ)) (key : ℕ)
    → Keeps jobs es
    → lookup (same_name name) es ≡ Some key
    → OpenJob jobs name es key
OpenJob-lookup jobs name es key keeps found =
    let (job, at) = has_job jobs name es key keeps found in
    record {
      job = job;
      at = at;
      own = own_name jobs name es key job keeps found at;
      found = find_job-lookup jobs name es keeps ∙ ap (job_at jobs) found ∙ at;
    }
  where
    has_job
        : (jobs : Slab Job) (name : List ℕ) (es : List (List ℕ × ℕ)) (key : ℕ)
        → Keeps jobs es
        → lookup (same_name name) es ≡ Some key
        → (j : Job) × (get jobs key ≡ Some j)
    has_job jobs name [] key keeps found = absurd cc
    has_job jobs name (e ∷ es) key keeps found = elim (cases_Bool (same_name name e.0)) [
      | inl same ↦
          let first : Some e.1 ≡ Some key = rw same at found in
          let place : e.1 ≡ key = cc in
          ((keeps.0).job, subst (λ k. get jobs k ≡ Some (keeps.0).job) place (keeps.0).found)
      | inr other ↦ has_job jobs name es key keeps.1 (rw other at found)
    ]

-- ---- An opening ----

-- what the jobs are behind an opening
pub record Added (old new : Slab Job) (es : List (List ℕ × ℕ)) (key : ℕ) (j : Job) : Type 0 where
  pub jobs : jobs_of new (es ++ (j.name, key) ∷ []) ≡ jobs_of old es ++ j ∷ []
  pub keeps : Keeps new (es ++ (j.name, key) ∷ [])

pub Added-update
    : (old new : Slab Job) (es : List (List ℕ × ℕ)) (key : ℕ) (j : Job)
    → Keeps old es
    → get old key ≡ None
    → Updates old new key (Some j)
    → Added old new es key j
Added-update old new es key j keeps vacant updates =
    by es keeps (SameAt-vacant old new es key (Some j) keeps vacant updates)
  where
    by : (es : List (List ℕ × ℕ)) → Keeps old es → SameAt old new es → Added old new es key j
    by [] keeps same = record {
      jobs = rw updates.changed refl;
      keeps = (record { job = j; found = updates.changed; own = refl }, tt);
    }
    by (e ∷ es) keeps same =
        let later = by es keeps.1 same.1 in
        record {
          jobs = rw (same.0, later.jobs) refl;
          keeps = (HasJob-same old new e same.0 keeps.0, later.keeps);
        }

-- ---- What the calls of a session leave ----

-- a turn of the job under a key
pub Turned-open
    : (old : Slab Job) (es : List (List ℕ × ℕ)) (name : List ℕ) (count key : ℕ) (j turned : Job)
    → IsKept old es
    → lookup (same_name name) es ≡ Some key
    → get old key ≡ Some j
    → turned ≡ more_turns count j
    → Turned old (with_value old key turned) es name count
Turned-open old es name count key j turned kept found at is =
    rw is (Turned-update old (with_value old key (more_turns count j)) es name count key j kept.each
    (distinct_same (keys_of es) kept.distinct) found at (own_name old name es key j kept.each found at)
    (Updates-with_value old key (more_turns count j) (ap is_some at)))

-- the job under the key of a name
pub find_job-open
    : (jobs : Slab Job) (es : List (List ℕ × ℕ)) (name : List ℕ) (key : ℕ) (j : Job)
    → IsKept jobs es
    → lookup (same_name name) es ≡ Some key
    → get jobs key ≡ Some j
    → find_job name (jobs_of jobs es) ≡ Some j
find_job-open jobs es name key j kept found at =
    find_job-lookup jobs name es kept.each ∙ ap (job_at jobs) found ∙ at

pub find_job-closed
    : (jobs : Slab Job) (es : List (List ℕ × ℕ)) (name : List ℕ)
    → IsKept jobs es
    → lookup (same_name name) es ≡ None
    → find_job name (jobs_of jobs es) ≡ None
find_job-closed jobs es name kept none =
    find_job-lookup jobs name es kept.each ∙ ap (job_at jobs) none

-- the key of an open name has a job
pub HasJob-open
    : (jobs : Slab Job) (es : List (List ℕ × ℕ)) (name : List ℕ) (key : ℕ)
    → IsKept jobs es
    → lookup (same_name name) es ≡ Some key
    → is_some (get jobs key) ≡ true
HasJob-open jobs es name key kept found = ap is_some (OpenJob-lookup jobs name es key kept.each found).at

-- a close of the job under a key
pub Closed-open
    : (old new : Slab Job) (es : List (List ℕ × ℕ)) (name : List ℕ) (key : ℕ) (j : Job)
    → IsKept old es
    → lookup (same_name name) es ≡ Some key
    → get old key ≡ Some j
    → Updates old new key None
    → Closed old new es name
Closed-open old new es name key j kept found at updates =
    Closed-update old new es name key j kept.each (distinct_same (keys_of es) kept.distinct) found at
    (own_name old name es key j kept.each found at) updates

-- no key is under a name that no job has
pub lookup-closed
    : (jobs : Slab Job) (es : List (List ℕ × ℕ)) (name : List ℕ)
    → IsKept jobs es
    → find_job name (jobs_of jobs es) ≡ None
    → lookup (same_name name) es ≡ None
lookup-closed jobs es name kept closed = by (lookup (same_name name) es) refl
  where
    by : (found : Option ℕ) → lookup (same_name name) es ≡ found → lookup (same_name name) es ≡ None
    by None is = is
    by (Some key) is =
        let here = OpenJob-lookup jobs name es key kept.each is in
        let never : None ≡ Some here.job = sym closed ∙ here.found in
        absurd cc

-- an opening under a name that no job has
pub Added-open
    : {S : Type 0} (old room new : Slab Job) (m : IndexMap (List ℕ) ℕ S) (es entries : List (List ℕ × ℕ))
    (key : ℕ) (j : Job)
    → IsKept old es
    → room.slots ≡ old.slots
    → m.entries ≡ es
    → find_job j.name (jobs_of old es) ≡ None
    → get room key ≡ None
    → Updates room new key (Some j)
    → entries ≡ insert_entry same_name m.entries j.name key
    → (jobs_of new entries ≡ jobs_of old es ++ j ∷ []) × Keeps new entries × HasKeys new entries
Added-open old room new m es entries key j kept same unchanged closed vacant updates is =
    let none = lookup-closed old es j.name kept closed in
    let last : entries ≡ es ++ (j.name, key) ∷ []
    = is ∙ insert_entry-new same_name m j.name key (ap (lookup (same_name j.name)) unchanged ∙ none)
    ∙ ap (λ z. z ++ (j.name, key) ∷ []) unchanged in
    let alike : SameAt old room es = by es in
    let added = Added-update room new es key j (Keeps-same old room es alike kept.each) vacant updates in (
      rw last (added.jobs ∙ ap (λ z. z ++ j ∷ []) (jobs_of-same old room es alike)),
      rw last added.keeps,
      rw last (HasKeys-added old room new es key j kept.owned same none updates),
    )
  where
    by : (es : List (List ℕ × ℕ)) → SameAt old room es
    by [] = tt
    by (e ∷ es) = (ap (λ slots. get_or slots e.1 None) same, by es)
