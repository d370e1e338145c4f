-- The text of a product, cut where the calls that put it are cut.
use Rattle.std.proofs.Common.{◌≡◌, ℕ, List, [], ◌∷◌, ◌++◌, ap, ◌∙◌, sym, append_assoc}

module _ (text l r : List ℕ) (whole : text ≡ 40 ∷ (l ++ (42 ∷ (r ++ (41 ∷ []))))) where
  -- up to the left part
  pub cut-left : text ≡ ((40 ∷ []) ++ l) ++ (42 ∷ (r ++ (41 ∷ [])))
  cut-left = whole

  -- up to the star
  pub cut-star : text ≡ (((40 ∷ []) ++ l) ++ (42 ∷ [])) ++ (r ++ (41 ∷ []))
  cut-star = whole ∙ sym (ap (λ z. 40 ∷ z) (append_assoc l (42 ∷ []) (r ++ (41 ∷ []))))

  -- up to the right part
  pub cut-right : text ≡ ((((40 ∷ []) ++ l) ++ (42 ∷ [])) ++ r) ++ (41 ∷ [])
  cut-right = cut-star ∙ sym (append_assoc (((40 ∷ []) ++ l) ++ (42 ∷ [])) r (41 ∷ []))
