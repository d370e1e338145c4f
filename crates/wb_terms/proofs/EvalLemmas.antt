-- Laws of the command `eval`.
--
-- Its answer is the one that it is defined to have (`evaluated-word`, `evaluated-long`), and what that says
-- of the
-- input holds (`IsSound-eval`).
use Rattle.std.proofs.Common.{◌≡◌, ◌↔◌, ℕ, ◌<◌, ◌≤◌, List, length, ltb, Result, Ok, Err, None, inl, inr, refl, sym, ap, ◌∙◌, arith}
use Rattle.std.proofs.lemmas.Bool.{cases_lt, cond_both, le-ltb, lt-ltb, ltb-false}
use Rattle.wb_base.specs.Lines.{lines_of}
use Rattle.wb_base.specs.Status.{Answer}
use Rattle.wb_base.specs.declared.status.Status.TheVariants.{Done, Refused, Limit}
use Rattle.braid_word.specs.Words.{Letter}
use Rattle.braid_word.specs.declared.TheConstants.{MAX_INDEX}
use Rattle.ld_term.specs.Terms.{Term, height}
use Rattle.term_graph.specs.TermLists.{term_at, braid_length, capped}
use Rattle.term_graph.specs.TermFiles.{IsTermFile}
use Rattle.term_eval.specs.Braids.{braid}
use Rattle.term_eval.specs.declared.word.EvalErr.{EvalErr}
use Rattle.term_eval.specs.declared.word.EvalErr.TheVariants.{Index}
use Rattle.term_eval.proofs.BraidLemmas.{length-braid, on-written, Equivalent-braid}
use Rattle.wb_command.specs.Refusals.{length_needed}
use Rattle.wb_command.specs.Meaning.{IsSound}
use Rattle.wb_command.proofs.TermInputLemmas.{done-Refused, IsOnTerm-one, IsOnTerm-Done, IsOnTerm-Refused}
use Rattle.wb_terms.specs.Eval.{word_answer, evaluated, HasBraid, eval_meaning}

-- a braid word that was made is the answer
pub evaluated-word
    : {X : Type 0} (limit : ℕ) (t : Term) (w : List Letter) (result : Result X EvalErr) (x : X)
    → result ≡ Ok x
    → w ≡ braid t
    → length w ≤ limit
    → (result ≡ Err Index) ↔ ((braid_length t ≤ limit) × (MAX_INDEX < height t))
    → evaluated limit t ≡ word_answer w
evaluated-word limit t w result x made is short index =
    let within : braid_length t ≤ limit = omega (arith, ap length is, length-braid t) in
    elim (cases_lt MAX_INDEX (height t)) [
      | inl high ↦ absurd (let both = sym made ∙ index.1 (within, high) in cc)
      | inr low ↦ rw (le-ltb limit (braid_length t) within, le-ltb MAX_INDEX (height t) (omega arith), is)
          refl
    ]

-- one that is too long is said to be so
pub evaluated-long
    : (limit : ℕ) (t : Term) (count : ℕ)
    → (limit < braid_length t) × (count ≡ capped (braid_length t))
    → evaluated limit t ≡ length_needed limit count
evaluated-long limit t count (long, is) = rw (lt-ltb limit (braid_length t) long, is) refl

-- a braid word that is answered is the term's
HasBraid-evaluated
    : (limit : ℕ) (input : List ℕ) (made : List Term) (first : ℕ) (a : Answer)
    → IsTermFile 1 (lines_of input) made first None
    → evaluated limit (term_at made first) ≡ a
    → a.status ≡ Done
    → HasBraid limit input a.text
HasBraid-evaluated limit input made first a file is done =
    let t : Term = term_at made first in
    let Holds : Answer → Type 0 = λ b. b ≡ a → HasBraid limit input a.text in
    cond_both (ltb limit (braid_length t)) _ _ Holds
    (λ long met. let other : Limit ≡ Done = ap (λ (b : Answer). b.status) met ∙ done in absurd (cc))
    (λ short. let short = ltb-false limit (braid_length t) short in
    cond_both (ltb MAX_INDEX (height t)) _ _ Holds
    (λ high met. let other : Limit ≡ Done = ap (λ (b : Answer). b.status) met ∙ done in absurd (cc))
    (λ low met. let low = ltb-false MAX_INDEX (height t) low in
    record {
      made = made;
      first = first;
      file = file;
      short = omega (arith, length-braid t);
      on = on-written t (braid t) MAX_INDEX refl low;
      is = ap (λ (b : Answer). b.text) (sym met);
      equivalent = λ u same. Equivalent-braid same;
    }))
    is

-- it isn't refused as a trace file is
evaluated-Refused : (limit : ℕ) (t : Term) (a : Answer) → evaluated limit t ≡ a → a.status ≡ Refused → ⊥
evaluated-Refused limit t a is refused =
    cond_both (ltb limit (braid_length t)) _ _ (λ (b : Answer). b ≡ a → ⊥)
    (λ long met. let other : Limit ≡ Refused = ap (λ (b : Answer). b.status) met ∙ refused in cc)
    (λ short. cond_both (ltb MAX_INDEX (height t)) _ _ (λ (b : Answer). b ≡ a → ⊥)
    (λ high met. let other : Limit ≡ Refused = ap (λ (b : Answer). b.status) met ∙ refused in cc)
    (λ low met. done-Refused _ a met refl refused))
    is

-- `eval` is sound
pub IsSound-eval : (limit : ℕ) → IsSound (eval_meaning limit)
IsSound-eval limit = record {
  one = IsOnTerm-one (λ made t. evaluated limit t);
  promised = λ input a on done.
      let has = IsOnTerm-Done (λ made t. evaluated limit t) input a on done in
      HasBraid-evaluated limit input has.made has.first a has.file has.is done;
  refused = λ input a on refused.
      IsOnTerm-Refused (λ made t. evaluated limit t) input a
      (λ made t. evaluated-Refused limit t a) on refused;
  alone = λ nothing. absurd cc;
  plain = λ pieces before now s. tt;
}
