-- When a trace file is accepted, and what an accepted one shows.
--
-- Its bytes are the text of a trace; the steps lead from the quotient of its two words, or of the braids of
-- its two terms, to its witness, over words that aren't too long; and the witness shows the verdict.
-- Source: this project's own; the steps are Dehornoy's handle reduction and Artin's relations.
--
--   left_word h           the left word of what is compared, or the braid of the left term
--   right_word h          the right one
--   IsCommutation a p b   b is a with two letters that commute, the first at p, in the other order
--   IsBraidMove a p b     b is a with one side of a braid relation, from p on, replaced by the other
--   IsInsertion a p x b   b is a with x and its inverse put in, the first at p
--   IsStep a s b          the step s leads from the word a to the word b
--   IsSteps a ss b        the steps lead from a to b, over words that aren't too long
--   IsStepOn n s          what the step s inserts is on n strands
--   IsAccepted bytes t    the bytes are the text of the trace t, and it is so
--   IsValid t             the verdict of t holds, and its witness shows it
--   Claim, claim_of t     what a trace claims, with the number of its steps
--   counted_claim t       the same, where this number goes no further than 64 bits do
--
-- An accepted trace is valid: `IsValid-accepted` in `proofs/AcceptedLemmas.antt`.
use Rattle.std.specs.Prelude.{◌≡◌, ◌↔◌, ℕ, ◌+◌, ◌-◌, ◌^◌, ◌<◌, ◌≤◌, min, ◌⊎◌, Bool, List, [], ◌∷◌, ◌++◌, length}
use Rattle.std.specs.List.{AllByRecursion}
use Rattle.braid_word.specs.Words.{Letter, letter, opposite, quotient, IsOn}
use Rattle.braid_word.specs.Equivalence.{EquivalentOn, Equivalent}
use Rattle.braid_word.specs.declared.TheConstants.{MAX_LETTERS}
use Rattle.handle_find.specs.Handles.{IsHandle, reduct}
use Rattle.term_eval.specs.Braids.{braid}
use Rattle.trace_format.specs.declared.line.StepLine.{StepLine}
use Rattle.trace_format.specs.declared.line.StepLine.TheVariants.{Handle, Commute, Swap, Delete, Insert}
use Rattle.trace_format.specs.declared.verdict.Verdict.{Verdict}
use Rattle.trace_format.specs.declared.verdict.Verdict.TheVariants.{Equal}
use Rattle.trace_format.specs.Verdicts.{Holds, Shows}
use Rattle.trace_format.specs.TraceText.{Header, words, terms, Trace, trace_text}
use Rattle.trace_format.specs.TraceLines.{IsTrace}

-- ---- What is compared ----

-- The left word; for two terms it is the braid of the left one.
abbrev pub left_word : Header → List Letter
left_word (words u v) = u
left_word (terms t u) = braid t

-- The right one.
abbrev pub right_word : Header → List Letter
right_word (words u v) = v
right_word (terms t u) = braid u

-- The quotient of both, with which a replay begins.
abbrev pub quotient_of : Header → List Letter
quotient_of h = quotient (left_word h) (right_word h)

-- ---- Steps ----

-- The letters at p and p + 1 have indices 2 or more apart, and change places.
pub record IsCommutation (a : List Letter) (p : ℕ) (b : List Letter) : Type 0 where
  pub front : List Letter
  pub x : Letter
  pub y : Letter
  pub back : List Letter
  pub place : length front + 1 ≡ p
  pub far : (x.index + 2 ≤ y.index) ⊎ (y.index + 2 ≤ x.index)
  pub before : a ≡ front ++ (x ∷ y ∷ back)
  pub after : b ≡ front ++ (y ∷ x ∷ back)

-- The letters from p to p + 2 have one sign and indices i, j, i, where i and j differ by 1. Their indices
-- become j, i, j.
pub record IsBraidMove (a : List Letter) (p : ℕ) (b : List Letter) : Type 0 where
  pub front : List Letter
  pub i : ℕ
  pub j : ℕ
  pub negative : Bool
  pub back : List Letter
  pub place : length front + 1 ≡ p
  pub near : (j ≡ i + 1) ⊎ (i ≡ j + 1)
  pub before : a ≡ front ++ (letter i negative ∷ letter j negative ∷ letter i negative ∷ back)
  pub after : b ≡ front ++ (letter j negative ∷ letter i negative ∷ letter j negative ∷ back)

-- The letter x and its inverse come to stand at p and p + 1, before the letters from p on.
pub record IsInsertion (a : List Letter) (p : ℕ) (x : Letter) (b : List Letter) : Type 0 where
  pub front : List Letter
  pub back : List Letter
  pub place : length front + 1 ≡ p
  pub before : a ≡ front ++ back
  pub after : b ≡ front ++ (x ∷ opposite x ∷ back)

-- The step leads from one word to the other. Places count from 1. A deletion is an insertion turned round.
abbrev pub IsStep : List Letter → StepLine → List Letter → Type 0
IsStep a (Handle p q) b = (1 ≤ p) × IsHandle a (p - 1) (q - 1) × (b ≡ reduct a (p - 1) (q - 1))
IsStep a (Commute p) b = IsCommutation a p b
IsStep a (Swap p) b = IsBraidMove a p b
IsStep a (Delete p) b = (x : Letter) × IsInsertion b p x a
IsStep a (Insert p x) b = IsInsertion a p x b

-- The steps lead from one word to the other, one after the other, and no word on the way is too long.
abbrev pub IsSteps : List Letter → List StepLine → List Letter → Type 0
IsSteps a [] b = b ≡ a
IsSteps a (s ∷ ss) b = (c : List Letter) × IsStep a s c × (length c ≤ MAX_LETTERS) × IsSteps c ss b

-- The letter that a step inserts, if it inserts one, has an index below n.
abbrev pub IsStepOn : ℕ → StepLine → Type 0
IsStepOn n (Insert p x) = x.index < n
IsStepOn n step = Unit {0}

-- ---- Acceptance ----

-- The bytes are the trace's, what it has can be read, its steps lead from the quotient of its two words, or
-- of the braids of its two terms, to its witness, and that is sigma-positive for less, empty for equal,
-- sigma-negative for greater.
pub record IsAccepted (bytes : List ℕ) (t : Trace) : Type 0 where
  pub text : bytes ≡ trace_text t
  pub bounds : IsTrace t
  pub short : length (quotient_of t.header) ≤ MAX_LETTERS
  pub steps : IsSteps (quotient_of t.header) t.steps t.witness
  pub shown : Shows t.verdict t.witness

-- ---- What an accepted trace shows ----

-- For the words u and v of the trace, or the braids of its terms, its witness represents u^-1 v and shows the
-- verdict. So the verdict holds of them in the order on braids, and no other does; it is equal exactly where
-- the words are equivalent, on any number of strands that both are on, and the letters that the steps insert.
pub record IsValid (t : Trace) : Type 0 where
  pub witness : Equivalent t.witness (quotient_of t.header)
  pub shown : Shows t.verdict t.witness
  pub holds : Holds t.verdict (left_word t.header) (right_word t.header)
  pub only : (d : Verdict) → Holds d (left_word t.header) (right_word t.header) → d ≡ t.verdict
  pub equal
      : (n : ℕ)
      → IsOn n (left_word t.header)
      → IsOn n (right_word t.header)
      → AllByRecursion (IsStepOn n) t.steps
      → (t.verdict ≡ Equal) ↔ EquivalentOn n (left_word t.header) (right_word t.header)

-- ---- Claims ----

-- Two words, or the braids of two terms, a verdict on them, the word that it gives as witness, and how many
-- steps lead there.
pub record Claim : Type 0 where
  pub left : List Letter
  pub right : List Letter
  pub verdict : Verdict
  pub witness : List Letter
  pub steps : ℕ

-- What a trace claims.
abbrev pub claim_of : Trace → Claim
claim_of t = record {
  left = left_word t.header;
  right = right_word t.header;
  verdict = t.verdict;
  witness = t.witness;
  steps = length t.steps;
}

-- The same with its steps counted up to the greatest number of 64 bits.
abbrev pub counted_claim : Trace → Claim
counted_claim t = record (claim_of t) { steps = min (length t.steps) (2 ^ 64 - 1) }
