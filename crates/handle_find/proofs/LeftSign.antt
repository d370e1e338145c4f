-- The sign of a word without a handle, letter by letter.
--
-- A letter of lower index than all before alone determines the sign (`Known-lower`), and no other letter
-- changes it (`Known-other`): a letter of least index and the other sign would end a handle.
use Rattle.std.proofs.Common.{◌≡◌, ℕ, ◌+◌, ◌<◌, ◌≤◌, ◌==◌, true, false, cond, ◌⊎◌, inl, inr, List, [], ◌∷◌, ◌++◌, length, take, drop, refl, sym, subst, ap, ◌∙◌, arith}
use Rattle.std.proofs.lemmas.Bool.{eq-eqb, cond-true, cond-false, cases_Bool, cases_order}
use Rattle.std.proofs.lemmas.List.{take-append-drop, take_more}
use Rattle.braid_word.specs.Words.{Letter, letter}
use Rattle.braid_word.specs.Sign.{sign_of}
use Rattle.braid_word.specs.declared.sign.Sign.{Sign}
use Rattle.braid_word.specs.declared.sign.Sign.TheVariants.{Empty, Positive, Negative}
use Rattle.braid_word.proofs.SignAppendLemmas.{HasLeast, sign_of-append_lower, sign_of-append_higher, sign_of-append_alike, sign_of-append_mixed}
use Rattle.handle_find.specs.Handles.{at, HasNoHandle}
use Rattle.handle_find.proofs.NoHandleLemmas.{HasNoHandle-Mixed}
use Rattle.handle_find.proofs.FrontLemmas.{HasNoHandle-front}

-- the sign of a word that has no letter, or has this least index
pub record Known (s : Sign) (least : ℕ) (w : List Letter) : Type 0 where
  pub value : s ≡ sign_of w
  pub index : ((s ≡ Empty) × ((w ≡ []) × (least ≡ 65535))) ⊎ HasLeast s least

-- the sign of one letter
sign_of-letter
    : (x : Letter)
    → sign_of (x ∷ []) ≡ cond x.negative (Negative x.index) (Positive x.index)
sign_of-letter x =
    let own : (x.index == x.index) ≡ true = eq-eqb _ _ refl in
    elim (cases_Bool x.negative) [
      | inl negative ↦ simp (own, negative)
      | inr positive ↦ simp (own, positive)
    ]

-- before the first letter
pub Known-none : Known Empty 65535 []
Known-none = record { value = refl; index = inl (refl, (refl, refl)) }

-- a letter of lower index
pub Known-lower
    : (s t : Sign) (least : ℕ) (w : List Letter) (x : Letter)
    → Known s least w
    → x.index < least
    → t ≡ sign_of (x ∷ [])
    → (t ≡ Positive x.index) ⊎ (t ≡ Negative x.index)
    → Known t x.index (w ++ x ∷ [])
Known-lower s t least w x known lower own index =
    let has : HasLeast t x.index = elim index [ inl p ↦ inl p | inr n ↦ inr (inl n) ] in
    record {
      value = elim known.index [
        | inl none ↦ rw none.1.0 own
        | inr some ↦ own ∙ sign_of-append_lower s least x some lower w known.value
      ];
      index = inr has;
    }

-- a letter of the least index has the sign of those before
same_sign
    : (s : Sign) (least : ℕ) (w : List Letter) (x : Letter)
    → s ≡ sign_of w
    → HasLeast s least
    → x.index ≡ least
    → HasNoHandle (w ++ x ∷ [])
    → s ≡ sign_of (w ++ x ∷ [])
same_sign s least w x is has own none =
    let mixed : (sign_of (x ∷ []) ≡ s → ⊥) → ⊥
    = λ other. HasNoHandle-Mixed least (w ++ x ∷ []) none
    (sym (sign_of-append_mixed s least x has own other w is)) in
    let alike : sign_of (x ∷ []) ≡ s → s ≡ sign_of (w ++ x ∷ [])
    = λ same. sign_of-append_alike s least x has own same w is in
    let alone = sign_of-letter x in
    elim has [
      | inl positive ↦ elim (cases_Bool x.negative) [
        | inl n ↦
            let e : sign_of (x ∷ []) ≡ Negative x.index = alone ∙ cond-true _ _ _ n in
            absurd (mixed (λ same. let wrong : Negative x.index ≡ Positive least = sym e ∙ same
            ∙ positive in cc))
        | inr n ↦
            let e : sign_of (x ∷ []) ≡ Positive x.index = alone ∙ cond-false _ _ _ n in
            alike (e ∙ ap (λ i. Positive i) own ∙ sym positive)
      ]
      | inr (inl negative) ↦ elim (cases_Bool x.negative) [
        | inl n ↦
            let e : sign_of (x ∷ []) ≡ Negative x.index = alone ∙ cond-true _ _ _ n in
            alike (e ∙ ap (λ i. Negative i) own ∙ sym negative)
        | inr n ↦
            let e : sign_of (x ∷ []) ≡ Positive x.index = alone ∙ cond-false _ _ _ n in
            absurd (mixed (λ same. let wrong : Positive x.index ≡ Negative least = sym e ∙ same
            ∙ negative in cc))
      ]
      | inr (inr both) ↦
          absurd (HasNoHandle-Mixed least w (HasNoHandle-front w (x ∷ []) none) (sym is ∙ both))
    ]

-- any other letter
pub Known-other
    : (s : Sign) (least : ℕ) (w : List Letter) (x : Letter)
    → Known s least w
    → least ≤ x.index
    → x.index < 65535
    → HasNoHandle (w ++ x ∷ [])
    → Known s least (w ++ x ∷ [])
Known-other s least w x known above small none = elim known.index [
  | inl empty ↦ absurd (omega (arith, empty.1.1))
  | inr has ↦ elim (cases_order x.index least) [
    | inl own ↦ record { value = same_sign s least w x known.value has own none; index = inr has }
    | inr (inl lower) ↦ absurd (omega arith)
    | inr (inr higher) ↦
        record {
          value = sign_of-append_higher s least x has higher w known.value;
          index = inr has;
        }
  ]
]

-- ---- By the place of the letter ----

-- one letter more of a word
pub taken-more
    : (w : List Letter) (k : ℕ) (x : Letter)
    → k < length w
    → x ≡ at w k
    → take (k + 1) w ≡ take k w ++ x ∷ []
taken-more w k x within is = rw is (take_more w k (letter 0 false) within)

-- each front of a word without a handle has none
pub HasNoHandle-take : (w : List Letter) (k : ℕ) → HasNoHandle w → HasNoHandle (take k w)
HasNoHandle-take w k none =
    HasNoHandle-front (take k w) (drop k w) (subst HasNoHandle (sym (take-append-drop k w)) none)
