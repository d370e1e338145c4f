-- Laws of the text of a trace file.
use Rattle.std.proofs.Common.{◌≡◌, ℕ, List, [], ◌∷◌, ◌++◌, codes, decimal, append_assoc, map, ap, sym, ◌∙◌, refl}
use Rattle.std.specs.List.{flat_map}
use Rattle.std.proofs.lemmas.List.Folds.{flat_map-map}
use Rattle.trace_format.specs.TraceText.{step_line, handle_step, handle_line}

-- ---- Steps ----

-- the lines of steps on handles, by their places
pub flat_map-handle_line
    : (places : List (ℕ × ℕ))
    → flat_map step_line (map handle_step places) ≡ flat_map handle_line places
flat_map-handle_line = flat_map-map step_line handle_step

-- a text, to which the five pieces of a step's line were added
pub step-pushed
    : (old keyword start space both new : List ℕ) (p q : ℕ)
    → keyword ≡ old ++ codes "h "
    → start ≡ keyword ++ decimal p
    → space ≡ start ++ codes " "
    → both ≡ space ++ decimal q
    → new ≡ both ++ codes "\n"
    → new ≡ old ++ handle_line (p, q)
step-pushed old keyword start space both new p q first second third fourth fifth =
    let pushed : new ≡ ((((old ++ codes "h ") ++ decimal p) ++ codes " ") ++ decimal q) ++ codes "\n" =
    rw (fifth, fourth, third, second, first) refl in
    pushed
    ∙ append_assoc (((old ++ codes "h ") ++ decimal p) ++ codes " ") (decimal q) (10 ∷ [])
    ∙ append_assoc ((old ++ codes "h ") ++ decimal p) (32 ∷ []) (decimal q ++ (10 ∷ []))
    ∙ append_assoc (old ++ codes "h ") (decimal p) (32 ∷ (decimal q ++ (10 ∷ [])))
    ∙ append_assoc old (codes "h ") (decimal p ++ (32 ∷ (decimal q ++ (10 ∷ []))))
    ∙ ap (λ text. old ++ (codes "h " ++ text)) (sym (append_assoc (decimal p) (32 ∷ decimal q) (10 ∷ [])))
