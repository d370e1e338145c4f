-- Laws of the letters that a reader keeps, which are as many as a word may have.
--
-- A line is read letter by letter, and all letters are counted. `IsKept` says what is known between
-- two of them: it holds at the start, and each letter keeps it. From it come the fault of a letter
-- (`Fails-kept`), and behind the last letter the answer (`Gives-kept`).
--
--   after w read   w, and then the letters that were read; a fault stays
use Rattle.std.proofs.Common.{◌≡◌, ℕ, ◌+◌, ◌<◌, ◌≤◌, true, false, List, [], ◌∷◌, ◌++◌, take, length, refl, ap, sym, ◌∙◌, subst, append_assoc, length-append, ltb, arith, Result, Ok, Err}
use Rattle.std.proofs.lemmas.Bool.{lt-ltb, le-ltb}
use Rattle.std.proofs.lemmas.List.{append-nil, take-append-le, take_all, length-take}
use Rattle.wb_base.specs.Memory.{FailsAs}
use Rattle.braid_word.specs.Words.{Letter}
use Rattle.braid_word.specs.Notation.{in_front, not_too_long, fault_in, Gives}
use Rattle.braid_word.specs.declared.TheConstants.{MAX_LETTERS}
use Rattle.braid_word.specs.declared.reader.WordErr.{WordErr}
use Rattle.braid_word.specs.declared.reader.WordErr.TheVariants.{BadLetter, BadIndex, TooLong, Memory}

-- ---- A start of a word ----

-- a start of a word that is not full takes one letter more
pub take-push
    : (n : ℕ) (w start : List Letter) (x : Letter)
    → start ≡ take n w
    → length start < n
    → start ++ x ∷ [] ≡ take n (w ++ x ∷ [])
take-push n w start x is below =
    let short : length w < n = omega (arith, ap length is, length-take n w) in
    let more : length (w ++ x ∷ []) ≤ n = simp length-append (omega arith) in
    rw (is, take_all n w (omega arith), take_all n (w ++ x ∷ []) more) refl

-- a full one stays
pub take-push_full
    : (n : ℕ) (w start : List Letter) (x : Letter)
    → start ≡ take n w
    → n ≤ length start
    → start ≡ take n (w ++ x ∷ [])
take-push_full n w start x is full =
    let long : n ≤ length w = omega (arith, ap length is, length-take n w) in rw take-append-le is

-- ---- What is known between two letters ----

-- A word, and then the letters that were read; a fault stays.
abbrev pub after : List Letter → Result (List Letter) WordErr → Result (List Letter) WordErr
after w (Ok v) = Ok (w ++ v)
after w (Err e) = Err e

-- before any letter
after-nil : (read : Result (List Letter) WordErr) → after [] read ≡ read
after-nil (Ok v) = refl
after-nil (Err e) = refl

-- one letter more
after-in_front
    : (w : List Letter) (x : Letter) (read : Result (List Letter) WordErr)
    → after w (in_front (Ok x) read) ≡ after (w ++ x ∷ []) read
after-in_front w x (Ok v) = ap Ok (sym (append_assoc w (x ∷ []) v))
after-in_front w x (Err e) = refl

-- What is known of what is read when what is left is this: the letters so far, and those of them that
-- are kept.
pub record IsKept
    (read left : Result (List Letter) WordErr) (count : ℕ) (kept : List Letter) : Type 0 where
  pub word : List Letter
  pub counted : count ≡ length word
  pub start : kept ≡ take MAX_LETTERS word
  pub is : read ≡ after word left

-- before the first letter
pub IsKept-none : (read : Result (List Letter) WordErr) → IsKept read read 0 []
IsKept-none read =
    record {
      word = [];
      counted = refl;
      start = refl;
      is = sym (after-nil read);
    }

-- where nothing more is read
pub IsKept-on
    : {read left next : Result (List Letter) WordErr} {count : ℕ} {kept : List Letter}
    → IsKept read left count kept
    → left ≡ next
    → IsKept read next count kept
IsKept-on {read} {left} {next} {count} {kept} so_far on =
    subst (λ r. IsKept read r count kept) on so_far

-- behind a letter
pub IsKept-letter
    : {read left : Result (List Letter) WordErr} {count : ℕ} {kept more : List Letter} {x : Letter}
    → IsKept read (in_front (Ok x) left) count kept
    → ((w : List Letter) → kept ≡ take MAX_LETTERS w → more ≡ take MAX_LETTERS (w ++ x ∷ []))
    → IsKept read left (count + 1) more
IsKept-letter {left = left} {x = x} so_far keeps =
    record {
      word = so_far.word ++ x ∷ [];
      counted = simp length-append (omega (arith, so_far.counted));
      start = keeps so_far.word so_far.start;
      is = so_far.is ∙ after-in_front so_far.word x left;
    }

-- ---- The answer ----

-- a fault that is read may be answered
Fails-fault : (e : WordErr) (read : Result (List Letter) WordErr) → read ≡ Err e → FailsAs (fault_in e) read
Fails-fault (BadLetter place) read is = is
Fails-fault (BadIndex place) read is = is
Fails-fault (TooLong count) read is = is
Fails-fault Memory read is = tt

-- the fault of a letter is the answer
pub Fails-kept
    : {read : Result (List Letter) WordErr} {count : ℕ} {kept : List Letter} {e : WordErr}
    → IsKept read (Err e) count kept
    → FailsAs (fault_in e) (not_too_long read)
Fails-kept {read} {e = e} so_far =
    Fails-fault e (not_too_long read) (ap not_too_long so_far.is)

-- behind the last letter the answer is that of all of them
pub Gives-kept
    : {read : Result (List Letter) WordErr} {count : ℕ} {kept : List Letter}
    → (result : Result (List Letter) WordErr)
    → IsKept read (Ok []) count kept
    → ((w : List Letter)
    → kept ≡ take MAX_LETTERS w
    → count ≡ length w
    → Gives result (not_too_long (Ok w)))
    → Gives result (not_too_long read)
Gives-kept {read} result so_far gives =
    let all : read ≡ Ok so_far.word = so_far.is ∙ ap Ok (append-nil so_far.word) in
    subst (λ r. Gives result (not_too_long r)) (sym all)
    (gives so_far.word so_far.start so_far.counted)

-- a word that is too long is refused with its length
pub not_too_long-long
    : (w : List Letter) (count : ℕ)
    → count ≡ length w
    → MAX_LETTERS < count
    → not_too_long (Ok w) ≡ Err (TooLong count)
not_too_long-long w count counted long =
    let test : ltb MAX_LETTERS (length w) ≡ true = lt-ltb _ _ (omega arith) in
    rw (test, counted) refl

-- another is kept whole
pub not_too_long-kept
    : (w kept : List Letter) (count : ℕ)
    → kept ≡ take MAX_LETTERS w
    → count ≡ length w
    → count ≤ MAX_LETTERS
    → not_too_long (Ok w) ≡ Ok kept
not_too_long-kept w kept count start counted short =
    let test : ltb MAX_LETTERS (length w) ≡ false = le-ltb _ _ (omega arith) in
    let whole : kept ≡ w = start ∙ take_all MAX_LETTERS w (omega arith) in
    rw (test, whole) refl
