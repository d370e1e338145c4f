-- How a term is read, token by token. No public clause cites it.
--
-- A level is a pair of brackets that isn't closed, or the line itself; of a level its left part is known
-- where its star was read. Levels are listed from the innermost to the line.
use Rattle.std.specs.Prelude.{◌≡◌, Bool, true, false, List, [], ◌∷◌, ◌++◌, Option, Some, None}
use Rattle.ld_term.specs.Written.{Written, leaf, named, times}
use Rattle.ld_term.specs.Tokens.{Token, open_bracket, close_bracket, star, equals, variable, name, bad}
use Rattle.ld_term.specs.Grammar.{atom_tokens}

-- An atom is to come, or was just read; with the innermost level's left part, and the outer levels'.
pub data State : Type 0 where
  expecting : (left : Option Written) → (outer : List (Option Written)) → State
  holding : (t : Written) → (left : Option Written) → (outer : List (Option Written)) → State

-- A star behind an atom. The line itself has none in the strict spelling.
abbrev pub step_star : Bool → Written → List (Option Written) → Option State
step_star true t [] = None
step_star false t [] = Some (expecting (Some t) [])
step_star strict t (k ∷ ks) = Some (expecting (Some t) (k ∷ ks))

-- A bracket that closes a level with both its parts.
abbrev pub step_close : Written → Written → List (Option Written) → Option State
step_close a b [] = None
step_close a b (k ∷ ks) = Some (holding (times a b) k ks)

-- The next token, where it may stand here.
abbrev pub step : Bool → Token → State → Option State
step strict open_bracket (expecting k ks) = Some (expecting None (k ∷ ks))
step strict variable (expecting k ks) = Some (holding leaf k ks)
step strict (name bytes place) (expecting k ks) = Some (holding (named bytes place) k ks)
step strict close_bracket (expecting k ks) = None
step strict star (expecting k ks) = None
step strict equals (expecting k ks) = None
step strict bad (expecting k ks) = None
step strict star (holding t None ks) = step_star strict t ks
step strict star (holding t (Some a) ks) = None
step strict close_bracket (holding t (Some a) ks) = step_close a t ks
step strict close_bracket (holding t None ks) = None
step strict open_bracket (holding t k ks) = None
step strict variable (holding t k ks) = None
step strict (name bytes place) (holding t k ks) = None
step strict equals (holding t k ks) = None
step strict bad (holding t k ks) = None

-- The tokens one after the other.
abbrev pub step_from : Bool → Token → Option State → Option State
step_from strict token None = None
step_from strict token (Some s) = step strict token s

abbrev pub run : Bool → List Token → Option State → Option State
run strict [] s = s
run strict (token ∷ tokens) s = run strict tokens (step_from strict token s)

-- Nothing was read.
abbrev pub start : State
start = expecting None []

-- The term, where the line may end here.
abbrev pub finish : State → Option Written
finish (expecting k ks) = None
finish (holding t None []) = Some t
finish (holding t (Some a) []) = Some (times a t)
finish (holding t k (j ∷ ks)) = None

-- ---- What was read ----

-- The tokens of a level's left part.
abbrev pub left_tokens : Option Written → List Token
left_tokens None = []
left_tokens (Some a) = atom_tokens a ++ (star ∷ [])

-- The tokens before the innermost atom.
abbrev pub before_tokens : Option Written → List (Option Written) → List Token
before_tokens k [] = left_tokens k
before_tokens k (j ∷ ks) = before_tokens j ks ++ (open_bracket ∷ left_tokens k)

-- The tokens that were read.
abbrev pub front : State → List Token
front (expecting k ks) = before_tokens k ks
front (holding t k ks) = before_tokens k ks ++ atom_tokens t

-- In the strict spelling the line itself has no star.
abbrev pub IsLegalLevel : Bool → Option Written → List (Option Written) → Type 0
IsLegalLevel strict None [] = Unit {0}
IsLegalLevel strict (Some a) [] = strict ≡ false
IsLegalLevel strict k (j ∷ ks) = IsLegalLevel strict j ks

abbrev pub IsLegal : Bool → State → Type 0
IsLegal strict (expecting k ks) = IsLegalLevel strict k ks
IsLegal strict (holding t k ks) = IsLegalLevel strict k ks
