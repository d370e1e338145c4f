-- The fields of a text, from the first on.
use Rattle.std.proofs.Common.{◌≡◌, ℕ, suc, zero, ◌+◌, ◌-◌, ◌==◌, ◌<◌, ◌≤◌, Bool, true, false, not, List, [], ◌∷◌, length, take, drop, filter, position, Some, None, refl, ap, ◌∙◌, inl, inr, arith}
use Rattle.std.proofs.lemmas.Bool.{cases_Bool, ne_eqb}
use Rattle.std.proofs.lemmas.List.{take_rest}
use Rattle.std.proofs.lemmas.List.Splits.{slice_split_first, length-slice_split}
use Rattle.std.specs.List.{slice_split, position_or_len}
use Rattle.session_run.specs.CommandLines.{fields_of, opened_by, command_by, command_of}
use Rattle.wb_base.proofs.PartLemmas.{position-Some, position-None}

-- the tests of a byte
abbrev pub is_space : ℕ → Bool
is_space byte = byte == 32

abbrev pub is_other : ℕ → Bool
is_other byte = not (byte == 32)

-- ---- Fields ----

-- spaces alone have no field
pub fields_of-blank : (text : List ℕ) → length text ≤ position_or_len is_other text → fields_of text ≡ []
fields_of-blank [] past = refl
fields_of-blank (byte ∷ text) past = elim (cases_Bool (byte == 32)) [
  | inl space ↦ let rest : length text ≤ position_or_len is_other text = omega (arith, rw space at past) in
      rw space (fields_of-blank text rest)
  | inr other ↦ absurd (omega (arith, rw other at past))
]

-- what follows the spaces in front
pub record Starts (text : List ℕ) (k : ℕ) : Type 0 where
  pub first : ℕ
  pub rest : List ℕ
  pub dropped : drop k text ≡ first ∷ rest
  pub other : (first == 32) ≡ false
  pub fields : fields_of text ≡ fields_of (first ∷ rest)

-- one more space in front
Starts-space
    : (byte : ℕ) (text : List ℕ) (k : ℕ)
    → (byte == 32) ≡ true
    → Starts text k
    → Starts (byte ∷ text) (suc k)
Starts-space byte text k space s =
    record {
      first = s.first;
      rest = s.rest;
      dropped = s.dropped;
      other = s.other;
      fields = rw space s.fields;
    }

-- no space in front
Starts-here
    : (byte : ℕ) (text : List ℕ) (k : ℕ)
    → (byte == 32) ≡ false
    → k ≡ 0
    → Starts (byte ∷ text) k
Starts-here byte text k other is =
    record { first = byte; rest = text; dropped = rw is refl; other = other; fields = refl }

pub Starts-other
    : (text : List ℕ) (k : ℕ)
    → k ≡ position_or_len is_other text
    → k < length text
    → Starts text k
Starts-other [] k is within = absurd (omega arith)
Starts-other (byte ∷ text) zero is within = elim (cases_Bool (byte == 32)) [
  | inl space ↦ absurd (omega (arith, rw space at is))
  | inr other ↦ Starts-here byte text zero other refl
]
Starts-other (byte ∷ text) (suc k) is within = elim (cases_Bool (byte == 32)) [
  | inl space ↦
      Starts-space byte text k space (Starts-other text k (omega (arith, rw space at is)) (omega arith))
  | inr other ↦ absurd (omega (arith, rw other at is))
]

-- no space: one part
split_none
    : (text : List ℕ)
    → length text ≤ position_or_len is_space text
    → slice_split is_space text ≡ text ∷ []
split_none [] past = refl
split_none (byte ∷ text) past = elim (cases_Bool (byte == 32)) [
  | inl space ↦ absurd (omega (arith, rw space at past))
  | inr other ↦ let rest : length text ≤ position_or_len is_space text = omega (arith, rw other at past) in
      rw (other, split_none text rest) refl
]

-- a text without a space is one field
pub fields_of-one
    : (first : ℕ) (rest : List ℕ)
    → length (first ∷ rest) ≤ position_or_len is_space (first ∷ rest)
    → fields_of (first ∷ rest) ≡ (first ∷ rest) ∷ []
fields_of-one first rest past =
    let some : (suc (length rest) == 0) ≡ false =
    ne_eqb (suc (length rest)) 0 (λ e. absurd (omega (arith, e))) in
    rw (split_none (first ∷ rest) past, some) refl

-- the first field ends before the first space
pub fields_of-more
    : (first : ℕ) (rest : List ℕ) (end : ℕ)
    → (first == 32) ≡ false
    → end ≡ position_or_len is_space (first ∷ rest)
    → end < length (first ∷ rest)
    → fields_of (first ∷ rest) ≡ take end (first ∷ rest) ∷ fields_of (drop (end + 1) (first ∷ rest))
fields_of-more first rest end other is within =
    let split : slice_split is_space (first ∷ rest)
    ≡ take end (first ∷ rest) ∷ slice_split is_space (drop (end + 1) (first ∷ rest))
    = rw is (slice_split_first is_space (first ∷ rest) 0 (omega (arith, is))) in
    let begins : position_or_len is_space (first ∷ rest) ≡ suc (position_or_len is_space rest) =
    rw other (omega arith) in
    ap (filter (λ (part : List ℕ). not (length part == 0))) split ∙ kept end (omega (arith, is, begins))
  where
    kept : (end : ℕ) → end ≡ suc (position_or_len is_space rest)
        → filter (λ (part : List ℕ). not (length part == 0))
        (take end (first ∷ rest) ∷ slice_split is_space (drop (end + 1) (first ∷ rest)))
        ≡ take end (first ∷ rest) ∷ fields_of (drop (end + 1) (first ∷ rest))
    kept zero is = absurd (omega arith)
    kept (suc end) is =
        let some : (suc (length (take end rest)) == 0) ≡ false =
        ne_eqb (suc (length (take end rest))) 0 (λ e. absurd (omega (arith, e))) in
        rw some refl

-- ---- What the reader finds ----

pub field_none : (text : List ℕ) → position is_other text ≡ None → fields_of text ≡ []
field_none text none = fields_of-blank text (position-None is_other text none)

pub field_last
    : (text : List ℕ) (k : ℕ)
    → position is_other text ≡ Some k
    → position is_space (take (length text - k) (drop k text)) ≡ None
    → fields_of text ≡ take (length text - k) (drop k text) ∷ []
field_last text k start none =
    let (is, within) = position-Some is_other text k start in
    let s = Starts-other text k is within in
    let whole : take (length text - k) (drop k text) ≡ s.first ∷ s.rest = take_rest text k ∙ s.dropped in
    let past : length (s.first ∷ s.rest) ≤ position_or_len is_space (s.first ∷ s.rest)
    = position-None is_space (s.first ∷ s.rest) (rw whole at none) in
    rw whole (s.fields ∙ fields_of-one s.first s.rest past)

pub field_first
    : (text : List ℕ) (k end : ℕ)
    → position is_other text ≡ Some k
    → position is_space (take (length text - k) (drop k text)) ≡ Some end
    → let rest = take (length text - k) (drop k text) in
    fields_of text ≡ take end rest ∷ fields_of (take (length rest - (end + 1)) (drop (end + 1) rest))
field_first text k end start found =
    let (is, within) = position-Some is_other text k start in
    let s = Starts-other text k is within in
    let whole : take (length text - k) (drop k text) ≡ s.first ∷ s.rest = take_rest text k ∙ s.dropped in
    let (at, below) = position-Some is_space (s.first ∷ s.rest) end (rw whole at found) in
    rw (whole, take_rest (s.first ∷ s.rest) (end + 1))
    (s.fields ∙ fields_of-more s.first s.rest end s.other at below)

-- more fields than three behind `open`
pub opened_by-more
    : (fields behind_name behind_handles behind_limit : List (List ℕ)) (name handles limit : List ℕ)
    → fields ≡ name ∷ behind_name
    → behind_name ≡ handles ∷ behind_handles
    → behind_handles ≡ limit ∷ behind_limit
    → (behind_limit ≡ [] → ⊥)
    → opened_by fields ≡ None
opened_by-more fields behind_name behind_handles [] name handles limit a b c some = absurd (some refl)
opened_by-more fields behind_name behind_handles (other ∷ rest) name handles limit a b c some =
    rw (a, b, c) refl

-- ---- Parts between bars ----

-- no byte of this kind: one part
pub part_last
    : (mark : ℕ) (text : List ℕ)
    → position (λ byte. byte == mark) text ≡ None
    → slice_split (λ byte. byte == mark) text ≡ text ∷ []
part_last mark text none = go text (position-None (λ byte. byte == mark) text none)
  where
    go
        : (text : List ℕ)
        → length text ≤ position_or_len (λ byte. byte == mark) text
        → slice_split (λ byte. byte == mark) text ≡ text ∷ []
    go [] past = refl
    go (byte ∷ text) past = elim (cases_Bool (byte == mark)) [
      | inl found ↦ absurd (omega (arith, rw found at past))
      | inr other ↦ let rest : length text ≤ position_or_len (λ b. b == mark) text =
          omega (arith, rw other at past) in
          rw (other, go text rest) refl
    ]

-- the first part
pub part_first
    : (mark : ℕ) (text : List ℕ) (at : ℕ)
    → position (λ byte. byte == mark) text ≡ Some at
    → slice_split (λ byte. byte == mark) text
    ≡ take at text ∷ slice_split (λ byte. byte == mark)
    (take (length text - (at + 1)) (drop (at + 1) text))
part_first mark text at found =
    let (is, within) = position-Some (λ byte. byte == mark) text at found in
    rw (take_rest text (at + 1))
    (rw is (slice_split_first (λ byte. byte == mark) text 0 (omega (arith, is, within))))

-- a line with more than two bars is no command
pub command_of-more
    : (line behind_first behind_second behind_third head left right : List ℕ)
    → slice_split (λ byte. byte == 124) line ≡ head ∷ slice_split (λ byte. byte == 124) behind_first
    → slice_split (λ byte. byte == 124) behind_first ≡ left ∷ slice_split (λ byte. byte == 124) behind_second
    → slice_split (λ byte. byte == 124) behind_second ≡ right ∷ slice_split (λ byte. byte == 124) behind_third
    → command_of line ≡ None
unfolding command_of
command_of-more line behind_first behind_second behind_third head left right a b c =
    rw (a, b, c)
    (go (slice_split (λ byte. byte == 124) behind_third)
    (omega (arith, length-slice_split (λ byte. byte == 124) behind_third)))
  where
    go : (parts : List (List ℕ)) → 0 < length parts → command_by (head ∷ (left ∷ (right ∷ parts))) ≡ None
    go [] some = absurd (omega arith)
    go (other ∷ parts) some = refl
