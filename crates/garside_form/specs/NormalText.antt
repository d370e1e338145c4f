-- How normal forms are written: a line for the power of the half turn, and one for each factor.
--
-- Source: this project's own.
--
--   power_text d       a power in decimal, behind a minus sign where it is negative
--   factor_line p      the line of a factor, with its LF
--   normal_text f      the lines of a normal form
use Rattle.std.specs.Prelude.{ℕ, suc, ℤ, pos, negsuc, List, ◌∷◌, ◌++◌, codes, decimal}
use Rattle.std.specs.List.{flat_map}
use Rattle.wb_base.specs.Numbers.{spaced_number}
use Rattle.wb_base.specs.Lines.{line}
use Rattle.garside_form.specs.NormalForms.{Form}

-- A power of the half turn: `2` or `-2`.
abbrev pub power_text : ℤ → List ℕ
power_text (pos d) = decimal d
power_text (negsuc d) = 45 ∷ decimal (suc d)

-- A factor as a line: `factor 2 3 1`, and LF.
unfoldable pub factor_line : List ℕ → List ℕ
factor_line p = line (codes "factor" ++ flat_map spaced_number p)

-- A normal form as lines: `delta -1`, and then its factors.
unfoldable pub normal_text : Form → List ℕ
normal_text f = line (codes "delta " ++ power_text f.delta) ++ flat_map factor_line f.factors
