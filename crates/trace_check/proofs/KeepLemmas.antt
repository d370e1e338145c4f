-- Laws of what is due after one line, for the code that keeps it.
use Rattle.std.proofs.Common.{◌≡◌, ℕ, ◌-◌, ◌<◌, ◌≤◌, ◌^◌, min, true, false, ltb, inl, inr, List, length, slice_get, Option, Some, None, Ok, Err, refl, sym, ◌∙◌, ap, ap₂, ◌==◌, subst, arith}
use Rattle.std.proofs.lemmas.Bool.{lt-ltb, le-ltb, ltb-true, eq-eqb, eqb-true, cases_Bool, and_parts, and_from}
use Rattle.std.specs.Option.{unwrap_or}
use Rattle.std.proofs.lemmas.Option.{unwrap_or-slice_get}
use Rattle.std.proofs.lemmas.List.{same_lists}
use Rattle.std.specs.Bool.{Decides}
use Rattle.std.specs.Cmp.{booleans_Decides}
use Rattle.std.proofs.lemmas.Slice.Eq.{slice_eq-Decides}
use Rattle.std.proofs.lemmas.Bool.Decides.{same_from_decides}
use Rattle.braid_word.specs.Words.{Letter, letter}
use Rattle.braid_word.specs.Sign.{sign_of}
use Rattle.braid_word.specs.declared.TheConstants.{MAX_LETTERS}
use Rattle.handle_find.specs.Handles.{IsHandle, is_handle_at, reduct}
use Rattle.handle_find.proofs.HandleLemmas.{IsHandle-from_test, test-IsHandle}
use Rattle.trace_format.specs.declared.verdict.Verdict.{Verdict}
use Rattle.trace_format.specs.declared.verdict.Verdict.TheVariants.{Less, Equal, Greater}
use Rattle.trace_format.specs.declared.line.StepLine.TheVariants.{Handle}
use Rattle.trace_format.specs.Verdicts.{verdict_of}
use Rattle.trace_check.specs.Checking.{letter_eq, word_eq, verdict_eq, gives_verdict, is_handle_within, stepped_to, stepped, shown}
use Rattle.trace_check.specs.declared.checked.Why.TheVariants.{Step, Long, Witness, Sign}
use Rattle.trace_check.specs.States as due
use Rattle.trace_check.specs.States.{Replay}

-- ---- Tests ----

-- the test of two letters
pub Decides-letter_eq : (x y : Letter) → Decides (letter_eq x y) (x ≡ y)
Decides-letter_eq x y = (
  λ pass.
      let (index, sign) = and_parts (x.index == y.index) _ pass in
      let same_index = eqb-true x.index y.index index in
      let same_sign = (booleans_Decides x.negative y.negative).0 sign in
      ap₂ letter same_index same_sign,
  λ same.
      subst (λ (z : Letter). letter_eq x z ≡ true) same
      (and_from (x.index == x.index) _ (eq-eqb x.index x.index refl)
      ((booleans_Decides x.negative x.negative).1 refl)),
)

-- the test of two words
pub Decides-word_eq : (u v : List Letter) → Decides (word_eq u v) (u ≡ v)
Decides-word_eq u v = slice_eq-Decides Decides-letter_eq u v (word_eq u v) refl

-- words of one length that agree at each place are one
pub agreeing_words
    : (u v : List Letter)
    → length u ≡ length v
    → ((k : ℕ) → k < length u → slice_get v k ≡ slice_get u k)
    → u ≡ v
agreeing_words u v size same = same_lists u v size (λ k d below.
    sym (unwrap_or-slice_get u k d) ∙ ap (λ o. unwrap_or o d) (sym (same k below))
    ∙ unwrap_or-slice_get v k d)

-- the test of a verdict
verdict_eq-true : (v d : Verdict) → verdict_eq v d ≡ true → v ≡ d
verdict_eq-true Less Less pass = refl
verdict_eq-true Less Equal pass = cc
verdict_eq-true Less Greater pass = cc
verdict_eq-true Equal Less pass = cc
verdict_eq-true Equal Equal pass = refl
verdict_eq-true Equal Greater pass = cc
verdict_eq-true Greater Less pass = cc
verdict_eq-true Greater Equal pass = cc
verdict_eq-true Greater Greater pass = refl

verdict_eq-self : (v : Verdict) → verdict_eq v v ≡ true
verdict_eq-self Less = refl
verdict_eq-self Equal = refl
verdict_eq-self Greater = refl

-- the same of what may be none
pub Decides-gives_verdict
    : (found : Option Verdict) (verdict : Verdict)
    → Decides (gives_verdict found verdict) (found ≡ Some verdict)
Decides-gives_verdict None verdict = (λ pass. cc, λ same. cc)
Decides-gives_verdict (Some v) verdict = (
  λ pass. ap (λ d. Some d) (verdict_eq-true v verdict pass),
  λ same.
      let is : v ≡ verdict = cc in subst (λ d. verdict_eq v d ≡ true) is (verdict_eq-self v),
)

-- ---- Handle steps ----

-- what passes the test is a handle
pub IsHandle-is_handle_within
    : (w : List Letter) (p q : ℕ)
    → is_handle_within w p q ≡ true
    → IsHandle w p q
IsHandle-is_handle_within w p q pass =
    let (places, handle) = and_parts _ (is_handle_at w (p, q)) pass in
    let (ordered, within) = and_parts (ltb p q) (ltb q (length w)) places in
    IsHandle-from_test w p q (ltb-true p q ordered) (ltb-true q (length w) within) handle

-- a handle passes the test
pub is_handle_within-IsHandle
    : (w : List Letter) (p q : ℕ)
    → IsHandle w p q
    → is_handle_within w p q ≡ true
is_handle_within-IsHandle w p q h =
    and_from _ (is_handle_at w (p, q))
    (and_from (ltb p q) (ltb q (length w)) (lt-ltb p q h.ordered) (lt-ltb q (length w) h.within))
    (test-IsHandle w p q h)

-- what is no handle doesn't pass it
is_handle_within-false
    : (w : List Letter) (p q : ℕ)
    → (IsHandle w p q → false ≡ true)
    → is_handle_within w p q ≡ false
is_handle_within-false w p q none = elim (cases_Bool (is_handle_within w p q)) [
  | inl pass ↦ absurd (let no = none (IsHandle-is_handle_within w p q pass) in cc)
  | inr fail ↦ fail
]

-- no handle is no step
pub stepped-Step
    : (w : List Letter) (p q : ℕ)
    → (IsHandle w (p - 1) (q - 1) → false ≡ true)
    → stepped w (Handle p q) ≡ Err Step
stepped-Step w p q none = rw (is_handle_within-false w (p - 1) (q - 1) none) refl

-- a handle is one, where the reduct isn't too long
pub stepped-Handle
    : (w : List Letter) (p q : ℕ)
    → IsHandle w (p - 1) (q - 1)
    → stepped w (Handle p q) ≡ stepped_to (reduct w (p - 1) (q - 1))
stepped-Handle w p q h = rw (is_handle_within-IsHandle w (p - 1) (q - 1) h) refl

-- where its length is known
pub stepped-Long
    : (w : List Letter) (p q : ℕ) (size : ℕ)
    → IsHandle w (p - 1) (q - 1)
    → size ≡ min (length (reduct w (p - 1) (q - 1))) (2 ^ 64 - 1)
    → MAX_LETTERS < size
    → stepped w (Handle p q) ≡ Err Long
stepped-Long w p q size h is long =
    let more : MAX_LETTERS < length (reduct w (p - 1) (q - 1)) = omega arith in
    stepped-Handle w p q h ∙ rw (lt-ltb _ _ more) refl

pub stepped-Ok
    : (w : List Letter) (p q : ℕ) (size : ℕ) (v : List Letter)
    → IsHandle w (p - 1) (q - 1)
    → size ≡ min (length (reduct w (p - 1) (q - 1))) (2 ^ 64 - 1)
    → size ≤ MAX_LETTERS
    → v ≡ reduct w (p - 1) (q - 1)
    → stepped w (Handle p q) ≡ Ok v
stepped-Ok w p q size v h is short same =
    let few : length (reduct w (p - 1) (q - 1)) ≤ MAX_LETTERS = omega arith in
    stepped-Handle w p q h ∙ rw (le-ltb _ _ few, same) refl

-- ---- The witness ----

-- The words u and v are the witness and the present word.
module _
    (replay : Replay) (verdict : Verdict) (w u v : List Letter)
    (is : u ≡ w) (at : v ≡ replay.present)
  where
    -- a word that isn't the present one
    pub shown-Witness : Decides false (u ≡ v) → shown replay verdict w ≡ Err Witness
    shown-Witness other =
        let other : Decides false (w ≡ replay.present)
        = subst (λ z. Decides false (z ≡ replay.present)) is
        (subst (λ z. Decides false (u ≡ z)) at other) in
        let test = same_from_decides _ false (Decides-word_eq w replay.present) other in
        rw test refl

    -- the present word
    same_words : u ≡ v → word_eq w replay.present ≡ true
    same_words same = (Decides-word_eq w replay.present).1 (sym is ∙ same ∙ at)

    -- with another sign
    pub shown-Sign
        : (t : List Letter)
        → t ≡ w
        → u ≡ v
        → Decides false (verdict_of (sign_of t) ≡ Some verdict)
        → shown replay verdict w ≡ Err Sign
    shown-Sign t whole same other =
        let other : Decides false (verdict_of (sign_of w) ≡ Some verdict)
        = subst (λ z. Decides false (verdict_of (sign_of z) ≡ Some verdict)) whole other in
        let sign = same_from_decides _ false (Decides-gives_verdict (verdict_of (sign_of w)) verdict) other in
        rw (same_words same, sign) refl

    -- with the verdict's sign
    pub shown-Ok
        : (t : List Letter)
        → t ≡ w
        → u ≡ v
        → verdict_of (sign_of t) ≡ Some verdict
        → shown replay verdict w ≡ Ok (due.finish replay verdict)
    shown-Ok t whole same gives =
        let gives : verdict_of (sign_of w) ≡ Some verdict
        = subst (λ z. verdict_of (sign_of z) ≡ Some verdict) whole gives in
        let sign = (Decides-gives_verdict (verdict_of (sign_of w)) verdict).1 gives in
        rw (same_words same, sign) refl
