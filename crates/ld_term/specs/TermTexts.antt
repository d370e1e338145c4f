-- The text of a term.
--
-- Source: this project's own.
--
--   term_text t   the bytes of t with brackets round each product
use Rattle.std.specs.Prelude.{ℕ, List, [], ◌∷◌, ◌++◌}
use Rattle.ld_term.specs.Written.{Written, leaf, named, times}

-- The bytes, with brackets round each product and no space: of `x*(a*x)` they are `(x*(a*x))`.
abbrev pub term_text : Written → List ℕ
term_text leaf = 120 ∷ []
term_text (named name place) = name
term_text (times a b) = 40 ∷ (term_text a ++ (42 ∷ (term_text b ++ (41 ∷ []))))
