-- Laws of texts in two parts.
use Rattle.std.proofs.Common.{◌≡◌, ℕ, List, [], ◌∷◌, ◌++◌, append_assoc, codes, decimal, sym, ap, ◌∙◌}
use Rattle.wb_base.specs.Lines.{line}
use Rattle.wb_command.specs.Faults.{numbered_fault}
use Rattle.wb_command.specs.Refusals.{refused_line}

-- the second part is a line
pub line-append : (a b : List ℕ) → line (a ++ b) ≡ a ++ line b
line-append a b = append_assoc a b (10 ∷ [])

-- so it is after a fault's line number
pub numbered_fault-parts
    : (k : ℕ) (name : List ℕ) (number : ℕ)
    → numbered_fault k name number ≡ (codes "input " ++ decimal k) ++ line (name ++ decimal number)
numbered_fault-parts k name number =
    ap line (append_assoc (codes "input " ++ decimal k) name (decimal number))
    ∙ line-append (codes "input " ++ decimal k) (name ++ decimal number)

-- and the line of a refused file
pub refused_line-parts
    : (k : ℕ) (why : List ℕ)
    → refused_line k why ≡ ((codes "refused " ++ decimal k) ++ 32 ∷ []) ++ line why
refused_line-parts k why =
    line-append (codes "refused " ++ decimal k) (32 ∷ why)
    ∙ sym (append_assoc (codes "refused " ++ decimal k) (32 ∷ []) (line why))
