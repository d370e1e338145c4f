-- Laws of formats whose lines say something.
--
-- A file claims something exactly where it is the lines of what leads there (`checked_of-IsSaid`,
-- `IsSaid-checked_of`).
use Rattle.std.proofs.Common.{◌≡◌, ℕ, ◌≤◌, Bool, true, false, cond, eqb, ltb, List, [], ◌∷◌, ◌++◌, append_assoc, length, map, Option, Some, None, Ok, refl, sym, ap, ap₂, ◌∙◌, subst}
use Rattle.std.specs.List.{flat_map}
use Rattle.std.proofs.lemmas.Bool.{eqb-true, le-ltb}
use Rattle.std.proofs.lemmas.List.{append-nil}
use Rattle.wb_base.specs.Lines.{onto_line, cut, line}
use Rattle.line_file.specs.Formats.{Format, kept_unless, kept_line, checked_of}
use Rattle.line_file.specs.FirstRefusal.{AreKept}
use Rattle.line_file.specs.Grammars.{Grammar, IsGrammarOf, Leads, IsSaid}
use Rattle.line_file.proofs.CutLemmas.{cut-line}
use Rattle.line_file.proofs.RefusalLaws.{checked_of-IsClaimed, IsClaimed-checked_of}

-- ---- One line ----

-- a line that is kept is due, and not too long
kept_line-Ok
    : {D W C : Type 0} (f : Format D W C) (now next : D) (bytes : List ℕ)
    → kept_line f now bytes ≡ Ok next
    → f.kept now bytes ≡ Ok next
kept_line-Ok {C = C} f now next bytes = go (f.passed now) (ltb f.most (length bytes))
  where
    go : (o : Option C) (long : Bool) → kept_unless f o long now bytes ≡ Ok next → f.kept now bytes ≡ Ok next
    go (Some claim) long is = absurd (cc)
    go None true is = absurd (cc)
    go None false is = is

-- one that is due and not too long is kept as the format says
kept_line-short
    : {D W C : Type 0} (f : Format D W C) (now : D) (bytes : List ℕ)
    → f.passed now ≡ None
    → length bytes ≤ f.most
    → kept_line f now bytes ≡ f.kept now bytes
kept_line-short f now bytes due short =
    ap₂ (λ o long. kept_unless f o long now bytes) due (le-ltb f.most (length bytes) short)

-- ---- The bytes of lines ----

-- The lines, each with its LF, and then the rest.
abbrev joined : List (List ℕ) × List ℕ → List ℕ
joined (ls, rest) = flat_map line ls ++ rest

-- what is cut is there
cut-is : (bytes : List ℕ) → joined (cut bytes) ≡ bytes
cut-is [] = refl
cut-is (b ∷ bytes) = go (eqb b 10) refl (cut bytes) (cut-is bytes)
  where
    onto : (parts : List (List ℕ) × List ℕ) → joined (onto_line b parts) ≡ b ∷ joined parts
    onto ([], rest) = refl
    onto (l ∷ ls, rest) = refl

    go
        : (lf : Bool)
        → eqb b 10 ≡ lf
        → (parts : List (List ℕ) × List ℕ)
        → joined parts ≡ bytes
        → joined (cond lf ([] ∷ parts.0, parts.1) (onto_line b parts)) ≡ b ∷ bytes
    go true test (ls, rest) is = rw (eqb-true b 10 test) (ap (λ z. 10 ∷ z) is)
    go false test parts is = onto parts ∙ ap (λ z. b ∷ z) is

-- the lines of what leads to the end are cut into these again
cut-Leads
    : {D W C S : Type 0} (f : Format D W C) (g : Grammar D S) (now : D) (all : List S) (claim : C)
    → IsGrammarOf f g
    → Leads f g now all claim
    → cut (flat_map line (map g.text all)) ≡ (map g.text all, [])
cut-Leads f g now [] claim is leads = refl
cut-Leads f g now (s ∷ all) claim is (next, can, follows, leads) =
    ap cut (append_assoc (g.text s) (10 ∷ []) (flat_map line (map g.text all)))
    ∙ cut-line (g.text s) (flat_map line (map g.text all)) (is.no_lf s can)
    ∙ ap (λ (r : List (List ℕ) × List ℕ). (g.text s ∷ r.0, r.1)) (cut-Leads f g next all claim is leads)

-- ---- All lines ----

-- What lines say that are kept.
record AreSaid {D W C S : Type 0} (f : Format D W C) (g : Grammar D S) (now : D) (ls : List (List ℕ))
    (claim : C) : Type 0 where
  all : List S
  texts : ls ≡ map g.text all
  leads : Leads f g now all claim

-- lines that are kept say what leads to the end
AreKept-AreSaid
    : {D W C S : Type 0} (f : Format D W C) (g : Grammar D S) (now : D) (ls : List (List ℕ)) (last : D)
    (claim : C)
    → IsGrammarOf f g
    → AreKept f now ls last
    → f.passed last ≡ Some claim
    → AreSaid f g now ls claim
AreKept-AreSaid f g now [] last claim is kept passed =
    record { all = []; texts = refl; leads = ap f.passed kept ∙ passed }
AreKept-AreSaid f g now (text ∷ ls) last claim is (next, first, kept) passed =
    let says = is.says now next text (kept_line-Ok f now next text first) in
    let more = AreKept-AreSaid f g next ls last claim is kept passed in
    record {
      all = says.what ∷ more.all;
      texts = ap₂ (λ l ls. l ∷ ls) says.text more.texts;
      leads = (next, says.can, says.follows, more.leads);
    }

-- what leads to the end is kept
Leads-AreKept
    : {D W C S : Type 0} (f : Format D W C) (g : Grammar D S) (now : D) (all : List S) (claim : C)
    → IsGrammarOf f g
    → Leads f g now all claim
    → (last : D) × AreKept f now (map g.text all) last × (f.passed last ≡ Some claim)
Leads-AreKept f g now [] claim is leads = (now, refl, leads)
Leads-AreKept f g now (s ∷ all) claim is (next, can, follows, leads) =
    let (last, kept, passed) = Leads-AreKept f g next all claim is leads in
    let first = kept_line-short f now (g.text s) (is.due now next s follows) (is.short s can)
    ∙ is.keeps now next s can follows in
    (last, (next, first, kept), passed)

-- ---- A whole file ----

-- a file that claims something is the lines of what leads there
pub checked_of-IsSaid
    : {D W C S : Type 0} (f : Format D W C) (g : Grammar D S) (bytes : List ℕ) (claim : C)
    → IsGrammarOf f g
    → checked_of f bytes ≡ Ok claim
    → IsSaid f g bytes claim
checked_of-IsSaid f g bytes claim is checked =
    let claimed = checked_of-IsClaimed f bytes claim checked in
    let said = AreKept-AreSaid f g f.start (cut bytes).0 claimed.last claim is claimed.kept claimed.passed in
    record {
      all = said.all;
      text = sym (cut-is bytes) ∙ ap₂ (λ ls rest. flat_map line ls ++ rest) said.texts claimed.ended
          ∙ append-nil (flat_map line (map g.text said.all));
      leads = said.leads;
    }

-- such a file claims it
pub IsSaid-checked_of
    : {D W C S : Type 0} (f : Format D W C) (g : Grammar D S) (bytes : List ℕ) (claim : C)
    → IsGrammarOf f g
    → IsSaid f g bytes claim
    → checked_of f bytes ≡ Ok claim
IsSaid-checked_of f g bytes claim is said =
    let (last, kept, passed) = Leads-AreKept f g f.start said.all claim is said.leads in
    let parts = ap cut said.text ∙ cut-Leads f g f.start said.all claim is said.leads in
    IsClaimed-checked_of f bytes claim (record {
      last = last;
      kept =
          subst (λ ls. AreKept f f.start ls last) (sym (ap (λ (r : List (List ℕ) × List ℕ). r.0) parts))
          kept;
      ended = ap (λ (r : List (List ℕ) × List ℕ). r.1) parts;
      passed = passed;
    })
