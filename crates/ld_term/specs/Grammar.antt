-- The grammar of terms and of definitions, and where a line leaves it.
--
-- An atom is x, a name, or two atoms in brackets with a star between them. A term is an atom, or two atoms
-- with a star between them: so its outermost brackets may be left out, and no others. A definition is a
-- name, an equals sign and a term. In the strict spelling a term is an atom.
-- Source: this project's own.
--
--   atom_tokens t                           the tokens of t with brackets round each product
--   IsTermText strict tokens t              the tokens are a text of t
--   IsTerm strict tokens                    they are a text of some term
--   IsDefinitionText tokens bytes place t   they define this name as t
--   IsDefinitionOf tokens t                 they define some name as t
--   Begins Has front                        some tokens that `Has` holds of begin with these
--   IsFault Has placed end place            at this place a line leaves what `Has` holds of
use Rattle.std.specs.Prelude.{◌≡◌, ℕ, ◌+◌, Bool, false, List, [], ◌∷◌, ◌++◌}
use Rattle.ld_term.specs.Written.{Written, leaf, named, times}
use Rattle.ld_term.specs.Tokens.{Token, open_bracket, close_bracket, star, equals, variable, name, Placed, tokens_of}

-- ---- Texts ----

-- The tokens of a term, with brackets round each product.
abbrev pub atom_tokens : Written → List Token
atom_tokens leaf = variable ∷ []
atom_tokens (named bytes place) = name bytes place ∷ []
atom_tokens (times a b) = open_bracket ∷ (atom_tokens a ++ (star ∷ (atom_tokens b ++ (close_bracket ∷ []))))

-- The tokens are a text of the term; in the strict spelling the outermost brackets are there.
pub data IsTermText (strict : Bool) (tokens : List Token) : Written → Type 0 where
  atom : {t : Written} → tokens ≡ atom_tokens t → IsTermText strict tokens t
  bare
      : {a b : Written}
      → strict ≡ false
      → tokens ≡ atom_tokens a ++ (star ∷ atom_tokens b)
      → IsTermText strict tokens (times a b)

-- The tokens are a text of some term.
abbrev pub IsTerm : Bool → List Token → Type 0
IsTerm strict tokens = (t : Written) × IsTermText strict tokens t

-- The tokens define a name, which stands at this place, as the term.
pub record IsDefinitionText (tokens : List Token) (bytes : List ℕ) (place : ℕ) (t : Written) : Type 0 where
  pub term : List Token
  pub whole : tokens ≡ name bytes place ∷ (equals ∷ term)
  pub text : IsTermText false term t

-- The tokens define some name as the term.
abbrev pub IsDefinitionOf : List Token → Written → Type 0
IsDefinitionOf tokens t = (bytes : List ℕ) × (place : ℕ) × IsDefinitionText tokens bytes place t

-- ---- Faults ----

-- Some tokens that `Has` holds of begin with these.
abbrev pub Begins : (List Token → Type 0) → List Token → Type 0
Begins Has front = (rest : List Token) × Has (front ++ rest)

-- Where a line leaves what `Has` holds of: at the first token such that nothing begins with the tokens up to
-- it, or behind the end of the line.
pub data IsFault (Has : List Token → Type 0) (placed : List Placed) (end place : ℕ) : Type 0 where
  at_token : (before after : List Placed) (p : Placed) → placed ≡ before ++ (p ∷ after)
      → Begins Has (tokens_of before) → (Begins Has (tokens_of before ++ (p.token ∷ [])) → ⊥)
      → place ≡ p.place → IsFault Has placed end place
  at_end : Begins Has (tokens_of placed) → (Has (tokens_of placed) → ⊥) → place ≡ end + 1
      → IsFault Has placed end place
