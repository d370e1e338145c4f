-- What a session has heard and given.
use Rattle.std.proofs.Common.{◌≡◌, ◌≢◌, ℕ, suc, zero, ◌+◌, ◌<◌, ◌==◌, true, List, [], ◌∷◌, ◌++◌, length, take, get_or, Option, Result, Ok, Err, IsErr, refl, ap, sym, ◌∙◌, true≢false, inl, inr, arith, append_assoc}
use Rattle.std.proofs.lemmas.Bool.{cases_Bool, eq-eqb, ne_eqb}
use Rattle.session_run.specs.Conversation.{Talk, heard, heard_all, answer_to, jobs_after}
use Rattle.std.proofs.lemmas.List.{append-nil}
use Rattle.session_run.specs.declared.talk.Stop.{Stop}
use Rattle.session_run.specs.declared.talk.Stop.TheVariants.{Fault, Memory}
use Rattle.std.specs.Io.KnownBytes.{append_known}
use Rattle.wb_base.specs.Streams.{Puts}

-- a fault behind a whole text
pub Puts-whole
    : {T E : Type 0} (old new : Option (List ℕ)) (result : Result T E) (text : List ℕ)
    → IsErr result
    → new ≡ append_known old text
    → Puts old new result text
Puts-whole old new (Ok x) text failed is = absurd (true≢false (sym failed))
Puts-whole old new (Err e) text failed is = (text, [], sym (append-nil text), is)

-- no answer is a fault
pub ok_no_fault : (x : Unit {0}) → ◌≢◌ {A = Result (Unit {0}) Stop} (Ok x) (Err Fault)
ok_no_fault x = λ e. absurd cc

-- nor is want of memory one
pub memory_no_fault : (e : Stop) → e ≡ Memory → ◌≢◌ {A = Result (Unit {0}) Stop} (Err e) (Err Fault)
memory_no_fault e is = λ fault. absurd cc

-- ---- Bytes ----

-- bytes heard in two parts
pub heard_all-append : (t : Talk) (xs ys : List ℕ) → heard_all t (xs ++ ys) ≡ heard_all (heard_all t xs) ys
heard_all-append t [] ys = refl
heard_all-append t (x ∷ xs) ys = heard_all-append (heard t x) xs ys

-- one more byte
pub heard_all-more
    : (t : Talk) (bytes : List ℕ) (i byte : ℕ)
    → i < length bytes
    → byte ≡ get_or bytes i 0
    → heard_all t (take (i + 1) bytes) ≡ heard (heard_all t (take i bytes)) byte
heard_all-more t [] i byte within is = absurd (omega arith)
heard_all-more t (x ∷ bytes) zero byte within is = rw is refl
heard_all-more t (x ∷ bytes) (suc i) byte within is =
    let at : suc i + 1 ≡ suc (i + 1) = omega arith in
    rw at (heard_all-more (heard t x) bytes i byte (omega arith) is)

-- the text grows at its end
pub record Grows (t : Talk) (text : List ℕ) : Type 0 where
  pub more : List ℕ
  pub parts : text ≡ t.text ++ more

-- what begins with the text behind a byte begins with the text before it
Grows-heard : (t : Talk) (byte : ℕ) (text : List ℕ) → Grows (heard t byte) text → Grows t text
Grows-heard t byte text later = elim (cases_Bool (byte == 10)) [
  | inl ends ↦
      let parts : text ≡ (t.text ++ answer_to t.jobs t.rest) ++ later.more = rw ends at later.parts in
      record {
        more = answer_to t.jobs t.rest ++ later.more;
        parts = parts
            ∙ append_assoc t.text (answer_to t.jobs t.rest) later.more;
      }
  | inr other ↦
      let parts : text ≡ t.text ++ later.more = rw other at later.parts in
      record { more = later.more; parts = parts }
]

-- bytes that are heard add text
pub Grows-all : (t : Talk) (bytes : List ℕ) → Grows t (heard_all t bytes).text
Grows-all t [] = record { more = []; parts = sym (append-nil t.text) }
Grows-all t (byte ∷ bytes) = Grows-heard t byte _ (Grows-all (heard t byte) bytes)

-- at an LF, what is given in all begins with the answer to its line
pub Grows-line
    : (t : Talk) (bytes : List ℕ) (i : ℕ)
    → i < length bytes
    → get_or bytes i 0 ≡ 10
    → let now = heard_all t (take i bytes) in
    (more : List ℕ) × ((heard_all t bytes).text ≡ (now.text ++ answer_to now.jobs now.rest) ++ more)
Grows-line t [] i within is = absurd (omega arith)
Grows-line t (x ∷ bytes) zero within is =
    let grows = Grows-all (heard t x) bytes in
    let test : (x == 10) ≡ true = eq-eqb x 10 is in
    let text : (heard t x).text ≡ t.text ++ answer_to t.jobs t.rest = rw test refl in
    (grows.more, grows.parts ∙ ap (λ z. z ++ grows.more) text)
Grows-line t (x ∷ bytes) (suc i) within is = Grows-line (heard t x) bytes i (omega arith) is

-- what is given in all begins with what is given before any byte
pub Grows-at
    : (t : Talk) (bytes : List ℕ) (i : ℕ)
    → Grows (heard_all t (take i bytes)) (heard_all t bytes).text
Grows-at t bytes zero = Grows-all t bytes
Grows-at t [] (suc i) = Grows-all t []
Grows-at t (x ∷ bytes) (suc i) = Grows-at (heard t x) bytes i

-- an LF ends a line, which is answered
pub heard-lf
    : (t : Talk) (byte : ℕ)
    → byte ≡ 10
    → heard t byte
    ≡ record { jobs = jobs_after t.jobs t.rest; rest = []; text = t.text ++ answer_to t.jobs t.rest }
heard-lf t byte is = rw (eq-eqb byte 10 is) refl

-- another byte stands in the open line
pub heard-other
    : (t : Talk) (byte : ℕ)
    → byte ≢ 10
    → heard t byte ≡ record t { rest = t.rest ++ byte ∷ [] }
heard-other t byte other = rw (ne_eqb byte 10 other) refl
