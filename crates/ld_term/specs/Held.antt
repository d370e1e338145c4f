-- What the reader keeps of an automaton's state: heights in place of terms. No public clause cites it.
use Rattle.std.specs.Prelude.{◌≡◌, ℕ, ◌+◌, ◌-◌, ◌^◌, ◌<◌, ◌≤◌, min, length, take, drop, ◌==◌, ◌&&◌, not, Bool, true, false, List, [], ◌∷◌, ◌++◌, Option, Some, None}
use Rattle.wb_base.specs.Names.{is_name}
use Rattle.ld_term.specs.Written.{Written, written_height}
use Rattle.ld_term.specs.Tokens.{Token, open_bracket, close_bracket, star, equals, variable, name, bad, Placed, tokens_of, tokens_from}
use Rattle.ld_term.specs.Automaton.{State, expecting, holding, step, run, start}
use Rattle.ld_term.specs.declared.token.Kind.{Kind}
use Rattle.ld_term.specs.declared.token.Kind.TheVariants as kinds

-- The token that a piece of this kind is.
abbrev pub token_from : Kind → List ℕ → ℕ → Token
token_from kinds.Open bytes place = open_bracket
token_from kinds.Close bytes place = close_bracket
token_from kinds.Star bytes place = star
token_from kinds.Equals bytes place = equals
token_from kinds.Variable bytes place = variable
token_from kinds.Name bytes place = name bytes place
token_from kinds.Bad bytes place = bad

-- A piece of this kind is a name where it has to be one.
abbrev pub IsNamed : Kind → List ℕ → Type 0
IsNamed kinds.Open bytes = Unit {0}
IsNamed kinds.Close bytes = Unit {0}
IsNamed kinds.Star bytes = Unit {0}
IsNamed kinds.Equals bytes = Unit {0}
IsNamed kinds.Variable bytes = Unit {0}
IsNamed kinds.Name bytes = is_name bytes ≡ true
IsNamed kinds.Bad bytes = Unit {0}

-- A height, or the greatest u64 where it is more.
abbrev pub kept_height : Written → ℕ
kept_height t = min (written_height t) (2 ^ 64 - 1)

-- The height of a left part.
abbrev pub left_height : Option Written → Option ℕ
left_height None = None
left_height (Some a) = Some (kept_height a)

-- Those of the outer levels, the line first.
abbrev pub outer_heights : List (Option Written) → List (Option ℕ)
outer_heights [] = []
outer_heights (k ∷ ks) = outer_heights ks ++ (left_height k ∷ [])

-- The heights are those of the state.
abbrev pub IsHeld : Option ℕ → Option ℕ → List (Option ℕ) → State → Type 0
IsHeld held left outer (expecting k ks) = (held ≡ None) × (left ≡ left_height k) × (outer ≡ outer_heights ks)
IsHeld held left outer (holding t k ks) =
    (held ≡ Some (kept_height t)) × (left ≡ left_height k) × (outer ≡ outer_heights ks)

-- The state after a token, where it moves on, and that it may not stand there, where it doesn't.
abbrev pub Moves : Bool → Token → State → Bool → Option ℕ → Option ℕ → List (Option ℕ) → Type 0
Moves strict token s true held left outer =
    (r : State) × (step strict token s ≡ Some r) × IsHeld held left outer r
Moves strict token s false held left outer = step strict token s ≡ None

-- The next token starts at this place, or the line ends there.
pub record IsStart (strict : Bool) (line : List ℕ) (from start : ℕ) : Type 0 where
  pub within : start ≤ length line
  pub later : from ≤ start
  pub tokens : tokens_from strict from line ≡ tokens_from strict start line
  pub ends
      : (byte : ℕ) (bytes : List ℕ)
      → drop start line ≡ byte ∷ bytes
      → (not strict && (byte == 32)) ≡ false

-- A piece from its start to its end is the first token behind this place, and the others follow it.
pub record IsPiece (strict : Bool) (line : List ℕ) (from : ℕ) (kind : Kind) (start end : ℕ) : Type 0 where
  pub later : from < end
  pub within : end ≤ length line
  pub begins : start < end
  pub named : IsNamed kind (take (end - start) (drop start line))
  pub tokens : tokens_from strict from line
      ≡ record {
        token = token_from kind (take (end - start) (drop start line)) (start + 1);
        place = start + 1;
      } ∷ tokens_from strict end line

-- ---- The first pass ----

-- How many stars a token is.
abbrev pub one_star : Token → ℕ
one_star open_bracket = 0
one_star close_bracket = 0
one_star star = 1
one_star equals = 0
one_star variable = 0
one_star (name bytes place) = 0
one_star bad = 0

-- How many stars there are.
abbrev pub star_count : List Token → ℕ
star_count [] = 0
star_count (token ∷ tokens) = one_star token + star_count tokens

-- What was read of a line from one place to another: the tokens, and the state that they lead to.
pub record IsRead (strict : Bool) (line : List ℕ) (from at : ℕ) (held left : Option ℕ)
    (outer : List (Option ℕ)) (products : ℕ) : Type 0 where
  pub before : List Placed
  pub state : State
  pub within : at ≤ length line
  pub tokens : tokens_from strict from line ≡ before ++ tokens_from strict at line
  pub reached : run strict (tokens_of before) (Some start) ≡ Some state
  pub holds : IsHeld held left outer state
  pub counted : products ≡ star_count (tokens_of before)
  pub few : from + products ≤ at
