-- The machine value of a block and of a deed: a pointer, and a marker that takes no bytes.
use Rattle.std.proofs.Common.{◌≡◌, List, [], ◌∷◌, ◌++◌, refl, ◌∙◌}
use seplogic.Ra.Ura.{Ura}
use mir.Val.{Val, vstruct, vcons, vnil, of_list}
use base.Logic.{ent, emp}
use base.Fml.{Fml}
use types.Logic.{Logic, sem}
use denote.RattleType.{RattleType}
use denote.RawPtr.{Ptr, RawPtr, ptr_val}
use denote.Shadow.{shadow, makes_shadow}
use denote.Struct.Struct.{Struct}

-- a struct by its fields alone: what it owns does not read its name
abbrev pub unnamed : List RattleType → RattleType
unnamed Rs = Struct (record { name = []; args = []; types = []; fields = Rs })

-- a struct of the pointer p and a marker
abbrev pub pointing : Ptr → Val
pointing p = vstruct (vcons (ptr_val p) (vcons (vstruct vnil) vnil))

-- what its fields own
abbrev pub fields_at : Ptr → List Val → Fml
fields_at p = (unnamed (RawPtr ∷ unnamed [] ∷ [])).own_val (p, (tt, tt))

-- fields that are owned tell their machine value
pub pointing_told : (p : Ptr) (vs : List Val) → shadow (fields_at p vs) → vs ≡ pointing p ∷ []
pointing_told p vs told =
    told.1.0 ∙ (λ i. vstruct (of_list (told.1.1.0 i ++ (told.1.1.1.0.1.0 i ++ []))) ∷ [])

-- and they are made of nothing
pub pointing_made
    : {M : Type 1} {𝓤 : Ura M} (𝓛 : Logic 𝓤) (p : Ptr)
    → ent 𝓤 (emp 𝓤) (sem 𝓛 (fields_at p (pointing p ∷ [])))
pointing_made 𝓛 p =
    makes_shadow 𝓛 (fields_at p (pointing p ∷ [])) (λ _. (tt, (tt, ((λ _. (tt, tt)), tt))))
    ((ptr_val p ∷ [], (vstruct vnil ∷ [], tt)), (refl, (refl, ((tt, (refl, tt)), tt))))
