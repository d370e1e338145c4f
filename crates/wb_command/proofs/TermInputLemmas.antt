-- Laws of the answers to an input that is a term file.
--
-- A file of one term has one answer (`IsOnTerm-one`). Where a command is done, its term was read
-- (`IsOnTerm-Done`); it has status Refused only where it has on a term (`IsOnTerm-Refused`).
use Rattle.std.proofs.Common.{◌≡◌, ◌≢◌, ◌↔◌, ◌⊎◌, inl, inr, ℕ, true, List, Option, Some, None, refl, ap, ap₂, sym, ◌∙◌, arith}
use Rattle.std.specs.Option.{is_some}
use Rattle.wb_base.specs.Lines.{lines_of}
use Rattle.wb_base.specs.Status.{Answer}
use Rattle.wb_base.specs.declared.status.Status.{Status}
use Rattle.wb_base.specs.declared.status.Status.TheVariants.{Done, Refused}
use Rattle.ld_term.specs.Terms.{Term}
use Rattle.term_graph.specs.TermLists.{term_at}
use Rattle.term_graph.specs.TermFiles.{IsTermFile, IsFileRefusal}
use Rattle.term_graph.specs.declared.file_error.DefsErr.{DefsErr}
use Rattle.term_graph.specs.declared.file_error.DefsErr.TheVariants.{Memory}
use Rattle.term_graph.specs.declared.file_error.DefsErr.TheVariants as refusals
use Rattle.term_graph.proofs.FileLemmas.{IsFileRefusal-unique, IsFileRefusal-file, IsTermFile-terms, IsTermFile-made}
use Rattle.wb_command.specs.TermInputs.{file_refused, IsOnTerm, on_refusal, on_term}

-- ---- How an answer has ended ----

-- the status of what is answered
pub status-of : (a b : Answer) (s : Status) → Some a ≡ Some b → b.status ≡ s → a.status ≡ s
status-of a b s is status = ap (λ (c : Answer). c.status) (let same : a ≡ b = cc in same) ∙ status

-- what is done isn't refused
pub done-Refused : (a b : Answer) → a ≡ b → a.status ≡ Done → b.status ≡ Refused → ⊥
done-Refused a b same done refused =
    let other : Done ≡ Refused = sym done ∙ ap (λ (c : Answer). c.status) same ∙ refused in cc

-- ---- Files that are refused ----

-- a term file that is refused isn't done
pub file_refused-Done : (e : DefsErr) → (file_refused e).status ≡ Done → ⊥
file_refused-Done (refusals.Lines k) done = cc
file_refused-Done (refusals.Form k place) done = cc
file_refused-Done (refusals.TooDeep k height) done = cc
file_refused-Done (refusals.TooMany k products) done = cc
file_refused-Done (refusals.Twice k place) done = cc
file_refused-Done (refusals.Unknown k place) done = cc
file_refused-Done refusals.Height done = cc
file_refused-Done refusals.Nodes done = cc
file_refused-Done refusals.Memory done = cc

-- nor is it refused as a trace file is
pub file_refused-Refused : (e : DefsErr) → (file_refused e).status ≡ Refused → ⊥
file_refused-Refused (refusals.Lines k) refused = cc
file_refused-Refused (refusals.Form k place) refused = cc
file_refused-Refused (refusals.TooDeep k height) refused = cc
file_refused-Refused (refusals.TooMany k products) refused = cc
file_refused-Refused (refusals.Twice k place) refused = cc
file_refused-Refused (refusals.Unknown k place) refused = cc
file_refused-Refused refusals.Height refused = cc
file_refused-Refused refusals.Nodes refused = cc
file_refused-Refused refusals.Memory refused = cc

-- ---- Files of one term ----

-- a file that is refused is answered so
pub IsOnTerm-refused
    : (of_term : List Term → Term → Answer) (input : List ℕ) (error : DefsErr) (a : Answer)
    → (error ≡ Memory) ⊎ IsFileRefusal 1 (lines_of input) error
    → (error ≢ Memory) × (file_refused error ≡ a)
    → IsOnTerm of_term input a
IsOnTerm-refused of_term input error a (inl memory) (other, is) = absurd (other memory)
IsOnTerm-refused of_term input error a (inr refused) (other, is) = on_refusal error refused is

-- the term of a file is answered for it
pub IsOnTerm-read
    : (of_term : List Term → Term → Answer) (input : List ℕ) (made : List Term) (first : ℕ)
    (second : Option ℕ) (a : Answer)
    → IsTermFile 1 (lines_of input) made first second
    → (is_some second ≡ true) ↔ (◌≡◌ {A = ℕ} 1 2)
    → of_term made (term_at made first) ≡ a
    → IsOnTerm of_term input a
IsOnTerm-read of_term input made first None a file two is = on_term made first file is
IsOnTerm-read of_term input made first (Some second) a file two is =
    let other : ◌≡◌ {A = ℕ} 1 2 = two.0 refl in absurd (omega arith)

-- a term file of one term has one answer
pub IsOnTerm-one
    : (of_term : List Term → Term → Answer) (input : List ℕ) (a b : Answer)
    → IsOnTerm of_term input a
    → IsOnTerm of_term input b
    → a ≡ b
IsOnTerm-one of_term input a b (on_refusal e refused is) (on_refusal f also f_is) =
    sym is ∙ ap file_refused (IsFileRefusal-unique 1 (lines_of input) e f refused also) ∙ f_is
IsOnTerm-one of_term input a b (on_refusal e refused is) (on_term made first file f_is) =
    absurd (IsFileRefusal-file 1 (lines_of input) made first None e file refused)
IsOnTerm-one of_term input a b (on_term made first file is) (on_refusal e refused f_is) =
    absurd (IsFileRefusal-file 1 (lines_of input) made first None e file refused)
IsOnTerm-one of_term input a b (on_term made first file is) (on_term again other also f_is) =
    let graph = IsTermFile-made 1 (lines_of input) made again first other None None file also in
    let same = IsTermFile-terms 1 (lines_of input) made again first other None None file also in
    let one : term_at made first ≡ term_at again other = cc in
    sym is ∙ ap₂ of_term graph one ∙ f_is

-- A term was read, and this is the answer on it.
pub record HasTerm (of_term : List Term → Term → Answer) (input : List ℕ) (a : Answer) : Type 0 where
  pub made : List Term
  pub first : ℕ
  pub file : IsTermFile 1 (lines_of input) made first None
  pub is : of_term made (term_at made first) ≡ a

-- where a command on a file of one term is done, its term was read
pub IsOnTerm-Done
    : (of_term : List Term → Term → Answer) (input : List ℕ) (a : Answer)
    → IsOnTerm of_term input a
    → a.status ≡ Done
    → HasTerm of_term input a
IsOnTerm-Done of_term input a (on_refusal e refused is) done =
    absurd (file_refused-Done e (ap (λ (b : Answer). b.status) is ∙ done))
IsOnTerm-Done of_term input a (on_term made first file is) done =
    record { made = made; first = first; file = file; is = is }

-- it isn't refused as a trace file is where it isn't so on a term
pub IsOnTerm-Refused
    : (of_term : List Term → Term → Answer) (input : List ℕ) (a : Answer)
    → ((made : List Term) (t : Term) → of_term made t ≡ a → a.status ≡ Refused → ⊥)
    → IsOnTerm of_term input a
    → a.status ≡ Refused
    → ⊥
IsOnTerm-Refused of_term input a never (on_refusal e file is) refused =
    file_refused-Refused e (ap (λ (b : Answer). b.status) is ∙ refused)
IsOnTerm-Refused of_term input a never (on_term made first file is) refused =
    never made (term_at made first) is refused
