-- The body that makes the normal form of a word.
use Rattle.std.proofs.Common.{ℕ, ◌≡◌, ◌↔◌, inl, inr, to_z, of_z, w32, ◌+◌, ◌-◌, ◌<◌, ◌≤◌, ◌∙◌, Bool, ℤ, pos, negsuc, List, ◌++◌, refl, sym, ap, subst, arith}
use Rattle.std.proofs.lemmas.Bool.{cases_lt}
use Rattle.std.proofs.lemmas.Int.{to_z-of_z, fits_signed_from_abs}
use Rattle.braid_word.specs.Words.{Letter}
use Rattle.braid_word.specs.Equivalence.{EquivalentOn, stay}
use Rattle.braid_word.proofs.EquivalenceLemmas.{on_first, EquivalentOn-trans}
use Rattle.garside_form.specs.NormalForms.{Form, form, delta_power, IsFormOf}
use Rattle.garside_form.specs.FactorLists.{IsReady, IsSpelledBy, half_turns, is_odd, turned_factors}
use Rattle.garside_form.proofs.NaturalLevelLemmas.{IsOn-product}
use Rattle.garside_form.proofs.UniqueLemmas.{IsFormOf-equivalent}
use Rattle.garside_form.proofs.FactorLemmas.{product_exists}
use Rattle.garside_form.proofs.FlipLemmas.{IsReady-turned}
use Rattle.garside_form.proofs.ReadyLemmas.{IsNormal-ready}
use Rattle.garside_form.proofs.TurnLemmas.{IsTurn, IsTurn-half_turns, factors_pass, half_turns_power}

-- ---- The normal form ----

-- what the list and the half turns behind it make
pub normal_made
    : (n d m : ℕ) (z : ℤ) (w : List Letter) (odd : Bool) (ps qs : List (List ℕ))
    → IsSpelledBy n w ps d m
    → IsReady n ps
    → odd ≡ is_odd (d + m)
    → qs ≡ turned_factors odd ps
    → (m ≤ d → z ≡ pos (d - m))
    → (d < m → z ≡ negsuc (m - d - 1))
    → IsFormOf (form n z qs) w
normal_made n d m z w odd ps qs spelled ready parity is up down =
    let turned : IsReady n (turned_factors odd ps) = IsReady-turned n odd ps ready in
    let (u, one) = product_exists n ps ready.orders in
    let (v, two) = product_exists n (turned_factors odd ps) turned.orders in
    let turn : IsTurn n odd (half_turns n d m) =
    subst (λ o. IsTurn n o (half_turns n d m)) (sym parity) (IsTurn-half_turns n d m) in
    rw is (record {
      normal = IsNormal-ready n (turned_factors odd ps) turned;
      word = delta_power n z ++ v;
      spelled = record { rest = v; product = two; is = refl };
      equivalent = EquivalentOn-trans (spelled u one) (EquivalentOn-trans
          (factors_pass n odd (half_turns n d m) ps turn ready.orders one two)
          (half_turns_power n d m z v (IsOn-product two) up down));
    })

-- forms with equal parts are equal
form_same
    : (f g : Form)
    → f.strands ≡ g.strands
    → f.delta ≡ g.delta
    → f.factors ≡ g.factors
    → f ≡ g
form_same f g one two three =
    ap (λ n. form n f.delta f.factors) one
    ∙ (ap (λ d. form g.strands d f.factors) two ∙ ap (λ l. form g.strands g.delta l) three)

-- a word has one normal form on two strands or more
pub form_only
    : (f g : Form) (w : List Letter)
    → 2 ≤ f.strands
    → IsFormOf f w
    → g.strands ≡ f.strands
    → IsFormOf g w
    → g ≡ f
form_only f g w two one same other =
    let (powers, factors) =
    (IsFormOf-equivalent f g w w two (sym same) one other).1 (stay (on_first one.equivalent)) in
    form_same g f same (sym powers) (sym factors)

-- two words have one normal form exactly where they are equivalent
pub form_equivalent
    : (f g : Form) (u v : List Letter)
    → 2 ≤ f.strands
    → f.strands ≡ g.strands
    → IsFormOf f u
    → IsFormOf g v
    → (f ≡ g) ↔ EquivalentOn f.strands u v
form_equivalent f g u v two same one other =
    let (sound, complete) = IsFormOf-equivalent f g u v two same one other in (
      λ alike. sound (ap (λ (z : Form). z.delta) alike, ap (λ (z : Form). z.factors) alike),
      λ equal. form_same f g same (complete equal).0 (complete equal).1,
    )

-- a difference of numbers of this size is read back from its bits
pub difference_read
    : (m d : ℕ) (z : ℤ)
    → m ≤ 100000
    → d ≤ 100000
    → (m ≤ d → z ≡ pos (d - m))
    → (d < m → z ≡ negsuc (m - d - 1))
    → to_z w32 (of_z w32 z) ≡ z
difference_read m d z small few up down = elim (cases_lt d m) [
  | inl less ↦
      rw (down less)
      (to_z-of_z w32 (negsuc (m - d - 1)) (fits_signed_from_abs w32 (negsuc (m - d - 1)) (omega arith)))
  | inr other ↦
      rw (up (omega arith))
      (to_z-of_z w32 (pos (d - m)) (fits_signed_from_abs w32 (pos (d - m)) (omega arith)))
]
