-- What an opening meets.
use Rattle.std.proofs.Common.{◌≡◌, ℕ, ◌+◌, ◌<◌, ◌≤◌, List, length, is_some, false, refl, arith}
use Rattle.std.proofs.lemmas.Bool.{lt-ltb, le-ltb}
use Rattle.braid_word.specs.Words.{Letter, quotient}
use Rattle.braid_word.specs.declared.TheConstants.{MAX_LETTERS}
use Rattle.session_run.specs.declared.TheConstants.{MAX_JOBS}
use Rattle.braid_word.proofs.WordLemmas.{length-quotient}
use Rattle.session_run.specs.Jobs.{Job, find_job, opening_of, too_long, free}

-- the name is closed and there is room, but not for so many letters
pub opening_of-too_long
    : (jobs : List Job) (name : List ℕ) (u v : List Letter)
    → is_some (find_job name jobs) ≡ false
    → length jobs < MAX_JOBS
    → MAX_LETTERS < length u + length v
    → opening_of jobs name u v ≡ too_long
opening_of-too_long jobs name u v closed room long =
    let test = lt-ltb (length jobs) MAX_JOBS room in
    let size = lt-ltb MAX_LETTERS (length (quotient u v)) (omega (arith, long, length-quotient u v)) in
    rw (closed, test, size) refl

-- nothing stands against it
pub opening_of-free
    : (jobs : List Job) (name : List ℕ) (u v : List Letter)
    → is_some (find_job name jobs) ≡ false
    → length jobs < MAX_JOBS
    → length u + length v ≤ MAX_LETTERS
    → opening_of jobs name u v ≡ free
opening_of-free jobs name u v closed room short =
    let test = lt-ltb (length jobs) MAX_JOBS room in
    let size = le-ltb MAX_LETTERS (length (quotient u v)) (omega (arith, short, length-quotient u v)) in
    rw (closed, test, size) refl
