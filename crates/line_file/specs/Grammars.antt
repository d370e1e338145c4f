-- Formats whose lines say something.
--
-- A line is kept exactly where it is the text of what can be said there. So a file that claims something is
-- the lines of what is said, one after the other, from what is due first on to the end.
-- No public clause cites this module: by it a format shows of a line what then holds of a file.
-- Source: this project's own.
--
--   Grammar                   the text of what a line says, what can be said, and what it leads to
--   IsGrammarOf f g           the format f keeps what g says, and no other line
--   Leads f g now all claim   what is said leads from what is due to the end, where this is claimed
--   IsSaid f g bytes claim    the bytes are the lines of what leads from the start to the end
use Rattle.std.specs.Prelude.{◌≡◌, ℕ, ◌≤◌, List, [], ◌∷◌, length, map, Some, None, Ok}
use Rattle.std.specs.List.{flat_map}
use Rattle.wb_base.specs.Lines.{line, HasNoLf}
use Rattle.line_file.specs.Formats.{Format}

-- S is what a line may say. `follows` has what is due, what is said, and what is due next.
pub record Grammar (D S : Type 0) : Type 1 where
  pub text : S → List ℕ
  pub can : S → Type 0
  pub follows : D → S → D → Type 0

-- A line says something that can be said and follows.
pub record Says {D S : Type 0} (g : Grammar D S) (now : D) (bytes : List ℕ) (next : D) : Type 0 where
  pub what : S
  pub text : bytes ≡ g.text what
  pub can : g.can what
  pub follows : g.follows now what next

pub record IsGrammarOf {D W C S : Type 0} (f : Format D W C) (g : Grammar D S) : Type 0 where
  pub says : (now next : D) (bytes : List ℕ) → f.kept now bytes ≡ Ok next → Says g now bytes next
  pub keeps : (now next : D) (s : S) → g.can s → g.follows now s next → f.kept now (g.text s) ≡ Ok next
  pub due : (now next : D) (s : S) → g.follows now s next → f.passed now ≡ None
  pub short : (s : S) → g.can s → length (g.text s) ≤ f.most
  pub no_lf : (s : S) → g.can s → HasNoLf (g.text s)

abbrev pub Leads : {D W C S : Type 0} → Format D W C → Grammar D S → D → List S → C → Type 0
Leads f g now [] claim = f.passed now ≡ Some claim
Leads {D} f g now (s ∷ all) claim = (next : D) × g.can s × g.follows now s next × Leads f g next all claim

pub record IsSaid {D W C S : Type 0} (f : Format D W C) (g : Grammar D S) (bytes : List ℕ)
    (claim : C) : Type 0 where
  pub all : List S
  pub text : bytes ≡ flat_map line (map g.text all)
  pub leads : Leads f g f.start all claim
