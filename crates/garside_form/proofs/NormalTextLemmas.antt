-- The text of a normal form, taken apart as it is written.
use Rattle.std.proofs.Common.{◌≡◌, ℕ, suc, ◌+◌, ◌<◌, Bool, List, [], ◌∷◌, ◌++◌, Some, codes, length, get_or, flat_map, refl, sym, ap, ◌∙◌, arith}
use Rattle.std.specs.List.{slice_get}
use Rattle.std.proofs.lemmas.Option.{slice_get_read}
use Rattle.std.proofs.lemmas.Grind.{get_or_default_zero}
use Rattle.wb_base.specs.Lines.{line}
use Rattle.wb_base.specs.Numbers.{signed_text}
use Rattle.perm_braid.specs.Arrangements.{entry}
use Rattle.perm_braid.proofs.PlaceLemmas.{entry_get}
use Rattle.garside_form.specs.NormalForms.{Form}
use Rattle.wb_base.specs.Numbers.{spaced_number}
use Rattle.garside_form.specs.NormalText.{power_text, factor_line, normal_text}

-- an entry at a place, counted from 0
pub entry_found : (p : List ℕ) (k x : ℕ) → k < length p → x ≡ entry p (k + 1) → slice_get p k ≡ Some x
entry_found p k x within is =
    let e : k + 1 ≡ suc k = omega arith in
    let here : x ≡ get_or p k x =
    is ∙ (ap (entry p) e ∙ (entry_get p k ∙ sym (get_or_default_zero p k x within))) in
    slice_get_read p (length p) k x refl within here

-- the line of a factor
pub factor_line-parts : (p : List ℕ) → factor_line p ≡ (codes "factor" ++ flat_map spaced_number p) ++ 10 ∷ []
unfolding factor_line
factor_line-parts p = refl

-- the text of a normal form
pub normal_text-parts
    : (f : Form)
    → normal_text f ≡ line (codes "delta " ++ power_text f.delta) ++ flat_map factor_line f.factors
unfolding normal_text
normal_text-parts f = refl

-- the text of a normal form by them
pub normal_text-signed
    : (f : Form) (b : Bool) (n : ℕ)
    → power_text f.delta ≡ signed_text b n
    → normal_text f ≡ line (codes "delta " ++ signed_text b n) ++ flat_map factor_line f.factors
normal_text-signed f b n is =
    normal_text-parts f ∙ ap (λ t. line (codes "delta " ++ t) ++ flat_map factor_line f.factors) is
