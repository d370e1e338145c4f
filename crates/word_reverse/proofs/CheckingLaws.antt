-- Laws of the check of a file.
--
-- It claims something exactly where it is accepted, and then what the reversal claims
-- (`checked_of-IsAccepted`).
use Rattle.std.proofs.Common.{◌≡◌, ◌↔◌, ℕ, ◌-◌, List, [], ◌∷◌, Result, Ok, Err, IfOk, refl, sym, ap, ◌∙◌, subst}
use Rattle.std.specs.List.{AllByRecursion}
use Rattle.wb_base.specs.Fields.{IsPlace}
use Rattle.wb_base.proofs.PartLemmas.{Some-injective}
use Rattle.line_file.specs.Grammars as grammars
use Rattle.line_file.specs.Keeping.{Gives}
use Rattle.line_file.specs.declared.format.FileErr.{FileErr}
use Rattle.line_file.proofs.GrammarLaws.{checked_of-IsSaid, IsSaid-checked_of}
use Rattle.braid_word.specs.Words.{Letter, IsPositiveWord}
use Rattle.braid_word.specs.Notation.{IsReadable}
use Rattle.word_reverse.specs.Corners.{turned_at}
use Rattle.word_reverse.specs.Fractions.{IsSplit}
use Rattle.word_reverse.specs.ReverseText.{Reversal}
use Rattle.word_reverse.specs.ReverseLines.{Said, line_text, IsReversal}
use Rattle.word_reverse.specs.ReverseLines as said
use Rattle.word_reverse.specs.Accepted.{IsTurns, IsAccepted, IsValid, Claim, claim_of}
use Rattle.word_reverse.specs.States.{Replay, State}
use Rattle.word_reverse.specs.States as due
use Rattle.word_reverse.specs.Checking.{reverse_file, checked_of}
use Rattle.word_reverse.specs.declared.fraction.ReverseWhy.{ReverseWhy}
use Rattle.word_reverse.proofs.FractionLemmas.{front_positive, IsSplit-front}
use Rattle.word_reverse.proofs.ReverseLaws.{tail_lines, step_lines, reverse_lines, lines_text, reverse_text-lines}
use Rattle.word_reverse.proofs.StepLaws.{IsBehindFront}
use Rattle.word_reverse.proofs.KeptLaws.{begun, at_word, claimed, reverse_grammar, IsGrammarOf-reverse}
use Rattle.word_reverse.proofs.AcceptedLemmas.{IsValid-accepted}

-- The lines lead from what is due to the end of the file, and to what it claims.
abbrev Leads : State → List Said → Claim → Type 0
Leads now all claim = grammars.Leads reverse_file reverse_grammar now all claim

-- ---- From the lines to a reversal ----

-- the end leads to what is claimed
Leads-Passed
    : (c : Claim) (all : List Said) (claim : Claim)
    → Leads (due.passed c) all claim
    → (all ≡ []) × (claim ≡ c)
Leads-Passed c [] claim leads = (refl, sym (Some-injective leads))
Leads-Passed c (s ∷ all) claim (next, can, follows, leads) = absurd follows

-- so does the line of the end
Leads-Finish
    : (c : Claim) (all : List Said) (claim : Claim)
    → Leads (due.finish c) all claim
    → (all ≡ said.finish ∷ []) × (claim ≡ c)
Leads-Finish c [] claim leads = absurd (cc)
Leads-Finish c (said.finish ∷ all) claim (next, can, follows, leads) =
    let (none, same) = Leads-Passed c all claim (subst (λ d. Leads d all claim) follows leads) in
    (ap (λ rest. said.finish ∷ rest) none, same)
Leads-Finish c (s ∷ all) claim (next, can, follows, leads) = absurd follows

-- What the lines from the right word on show.
record IsShown (replay : Replay) (u : List Letter) (all : List Said) (claim : Claim) : Type 0 where
  right : List Letter
  lines_are : all ≡ said.right right ∷ said.finish ∷ []
  readable : IsReadable right
  behind : IsBehindFront replay.present u right
  claims : claim ≡ claimed replay u right

Leads-Right
    : (replay : Replay) (u : List Letter) (all : List Said) (claim : Claim)
    → Leads (due.right replay u) all claim
    → IsShown replay u all claim
Leads-Right replay u [] claim leads = absurd (cc)
Leads-Right replay u (said.right v ∷ all) claim (next, can, (behind, follows), leads) =
    let (last, claims) = Leads-Finish (claimed replay u v) all claim
    (subst (λ d. Leads d all claim) follows leads) in
    record {
      right = v;
      lines_are = ap (λ rest. said.right v ∷ rest) last;
      readable = can;
      behind = behind;
      claims = claims;
    }
Leads-Right replay u (s ∷ all) claim (next, can, follows, leads) = absurd follows

-- Lines from a replay on are those of steps that lead to a fraction.
record IsReplayed (replay : Replay) (all : List Said) (claim : Claim) : Type 0 where
  places : List ℕ
  left : List Letter
  right : List Letter
  lines_are : all ≡ step_lines places (tail_lines left right)
  bounds : AllByRecursion IsPlace places
  left_is : IsReadable left
  right_is : IsReadable right
  last : List Letter
  turns : IsTurns replay.present places last
  split : IsSplit last left right
  claims : claim ≡ claimed replay left right

Leads-Step
    : (replay : Replay) (all : List Said) (claim : Claim)
    → Leads (due.step replay) all claim
    → IsReplayed replay all claim
Leads-Step replay [] claim leads = absurd (cc)
Leads-Step replay (said.step p ∷ all) claim (next, can, (step, follows), leads) =
    let more = Leads-Step (at_word replay (turned_at replay.present (p - 1))) all claim
    (subst (λ d. Leads d all claim) follows leads) in
    record {
      places = p ∷ more.places;
      left = more.left;
      right = more.right;
      lines_are = ap (λ rest. said.step p ∷ rest) more.lines_are;
      bounds = (can, more.bounds);
      left_is = more.left_is;
      right_is = more.right_is;
      last = more.last;
      turns = (can.0, step.corner, step.short, more.turns);
      split = more.split;
      claims = more.claims;
    }
Leads-Step replay (said.left u ∷ all) claim (next, can, (front, follows), leads) =
    let shown = Leads-Right replay u all claim (subst (λ d. Leads d all claim) follows leads) in
    record {
      places = [];
      left = u;
      right = shown.right;
      lines_are = ap (λ rest. said.left u ∷ rest) shown.lines_are;
      bounds = tt;
      left_is = can;
      right_is = shown.readable;
      last = replay.present;
      turns = refl;
      split = record {
        first = subst IsPositiveWord (sym front) (front_positive replay.present);
        second = shown.behind.positive;
        is = shown.behind.is;
      };
      claims = shown.claims;
    }
Leads-Step replay (s ∷ all) claim (next, can, follows, leads) = absurd follows

-- The lines of a file that claims something are those of a reversal that is accepted.
record IsReversed (all : List Said) (claim : Claim) : Type 0 where
  reversal : Reversal
  lines_are : all ≡ reverse_lines reversal
  bounds : IsReversal reversal
  last : List Letter
  turns : IsTurns reversal.word reversal.places last
  split : IsSplit last reversal.left reversal.right
  claims : claim ≡ claim_of reversal

-- the lines from the word on
Leads-Word
    : (all : List Said) (claim : Claim)
    → Leads due.word all claim
    → IsReversed (said.start ∷ all) claim
Leads-Word [] claim leads = absurd (cc)
Leads-Word (said.word w ∷ all) claim (next, can, follows, leads) =
    let more = Leads-Step (begun w) all claim (subst (λ d. Leads d all claim) follows leads) in
    record {
      reversal = record { word = w; places = more.places; left = more.left; right = more.right };
      lines_are = ap (λ rest. said.start ∷ said.word w ∷ rest) more.lines_are;
      bounds = record { word = can; places = more.bounds; left = more.left_is; right = more.right_is };
      last = more.last;
      turns = more.turns;
      split = more.split;
      claims = more.claims;
    }
Leads-Word (s ∷ all) claim (next, can, follows, leads) = absurd follows

-- from the first line on
Leads-Start : (all : List Said) (claim : Claim) → Leads due.start all claim → IsReversed all claim
Leads-Start [] claim leads = absurd (cc)
Leads-Start (said.start ∷ all) claim (next, can, follows, leads) =
    Leads-Word all claim (subst (λ d. Leads d all claim) follows leads)
Leads-Start (s ∷ all) claim (next, can, follows, leads) = absurd follows

-- ---- From a reversal to its lines ----

-- the lines from the left word on
IsSplit-Leads
    : (replay : Replay) (u v : List Letter)
    → IsReadable u
    → IsReadable v
    → IsSplit replay.present u v
    → Leads (due.step replay) (tail_lines u v) (claimed replay u v)
IsSplit-Leads replay u v left right split = (
  due.right replay u,
  left,
  (IsSplit-front replay.present u v split, refl),
  (
    due.finish (claimed replay u v),
    right,
    (record { positive = split.second; is = split.is }, refl),
    (due.passed (claimed replay u v), tt, refl, refl),
  ),
)

-- from a step on
IsTurns-Leads
    : (replay : Replay) (places : List ℕ) (last u v : List Letter)
    → AllByRecursion IsPlace places
    → IsReadable u
    → IsReadable v
    → IsTurns replay.present places last
    → IsSplit last u v
    → Leads (due.step replay) (step_lines places (tail_lines u v)) (claimed replay u v)
IsTurns-Leads replay [] last u v bounds left right turns split =
    IsSplit-Leads replay u v left right (subst (λ w. IsSplit w u v) turns split)
IsTurns-Leads replay (p ∷ places) last u v bounds left right (low, corner, short, turns) split =
    let next = turned_at replay.present (p - 1) in (
      due.step (at_word replay next),
      bounds.0,
      (record { corner = corner; short = short }, refl),
      IsTurns-Leads (at_word replay next) places last u v bounds.1 left right turns split,
    )

-- from the first line on
IsAccepted-Leads
    : (bytes : List ℕ) (r : Reversal)
    → IsAccepted bytes r
    → Leads due.start (reverse_lines r) (claim_of r)
IsAccepted-Leads bytes r is = (
  due.word,
  tt,
  refl,
  (
    due.step (begun r.word),
    is.bounds.word,
    refl,
    IsTurns-Leads (begun r.word) r.places is.last r.left r.right is.bounds.places is.bounds.left
        is.bounds.right is.turns is.split,
  ),
)

-- ---- A whole file ----

-- a file that claims something is accepted
pub checked_of-accepted
    : (bytes : List ℕ) (claim : Claim)
    → checked_of bytes ≡ Ok claim
    → (r : Reversal) × IsAccepted bytes r × (claim ≡ claim_of r)
checked_of-accepted bytes claim is =
    let said = checked_of-IsSaid reverse_file reverse_grammar bytes claim IsGrammarOf-reverse is in
    let reversed = Leads-Start said.all claim said.leads in
    let accepted : IsAccepted bytes reversed.reversal = record {
      text = said.text ∙ ap lines_text reversed.lines_are ∙ sym (reverse_text-lines reversed.reversal);
      bounds = reversed.bounds;
      last = reversed.last;
      turns = reversed.turns;
      split = reversed.split;
    } in
    (reversed.reversal, accepted, reversed.claims)

-- a file that is accepted claims what its reversal claims
pub accepted-checked_of
    : (bytes : List ℕ) (r : Reversal)
    → IsAccepted bytes r
    → checked_of bytes ≡ Ok (claim_of r)
accepted-checked_of bytes r is =
    IsSaid-checked_of reverse_file reverse_grammar bytes (claim_of r) IsGrammarOf-reverse (record {
      all = reverse_lines r;
      text = is.text ∙ reverse_text-lines r;
      leads = IsAccepted-Leads bytes r is;
    })

-- a file claims something exactly where it is accepted
pub checked_of-IsAccepted
    : (bytes : List ℕ) (claim : Claim)
    → (checked_of bytes ≡ Ok claim) ↔ ((r : Reversal) × IsAccepted bytes r × (claim ≡ claim_of r))
checked_of-IsAccepted bytes claim = (checked_of-accepted bytes claim, back)
  where
    back : (r : Reversal) × IsAccepted bytes r × (claim ≡ claim_of r) → checked_of bytes ≡ Ok claim
    back (r, is, claims) = accepted-checked_of bytes r is ∙ ap (λ c. Ok c) (sym claims)

-- ---- What a checker answers ----

-- what it claims is what an accepted reversal claims, which is valid
pub IfOk-accepted
    : (bytes : List ℕ) (result : Result Claim (FileErr ReverseWhy))
    → Gives result (checked_of bytes)
    → IfOk result (λ claim. (r : Reversal) × IsAccepted bytes r × IsValid r × (claim ≡ claim_of r))
IfOk-accepted bytes (Ok claim) gives =
    let (r, accepted, claims) = checked_of-accepted bytes claim gives in
    (r, accepted, IsValid-accepted bytes r accepted, claims)
IfOk-accepted bytes (Err e) gives = tt

-- what is accepted isn't refused
pub Gives-accepted
    : (bytes : List ℕ) (result : Result Claim (FileErr ReverseWhy))
    → Gives result (checked_of bytes)
    → (r : Reversal)
    → IsAccepted bytes r
    → Gives result (Ok (claim_of r))
Gives-accepted bytes result gives r accepted =
    subst (λ file. Gives result file) (accepted-checked_of bytes r accepted) gives
