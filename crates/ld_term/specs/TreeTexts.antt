-- The terms that trees are, and the tokens that stand behind a place.
--
-- Source: this project's own.
--
--   written tree                       the term that a tree is
--   StartsAtom strict line from depth  behind this place there is an atom that is no higher than this
--   IsBehind strict line at rest       the tokens behind this place are these
--   IsAtom strict line at tree t rest  the tree is t, and the tokens behind this place are these
use Rattle.std.specs.Prelude.{◌≡◌, ℕ, ◌≤◌, Bool, List, ◌++◌, length}
use Rattle.ld_term.specs.Written.{Written, leaf, named, times, written_height}
use Rattle.ld_term.specs.Tokens.{Token, tokens_of, tokens_from}
use Rattle.ld_term.specs.Grammar.{atom_tokens}
use Rattle.ld_term.specs.declared.tree.Tree.{Tree}
use Rattle.ld_term.specs.declared.tree.Tree.TheVariants.{X, Named, Product'}

-- The term that a tree is.
abbrev pub written : Tree → Written
written X = leaf
written (Named name place) = named name place
written (Product' p left q right) = times (written left) (written right)

-- Behind this place there is an atom that is no higher than this, and then anything. No public clause cites
-- it.
pub record StartsAtom (strict : Bool) (line : List ℕ) (from depth : ℕ) : Type 0 where
  pub within : from ≤ length line
  pub term : Written
  pub rest : List Token
  pub tokens : tokens_of (tokens_from strict from line) ≡ atom_tokens term ++ rest
  pub low : written_height term ≤ depth

-- The tokens behind a place are these. No public clause cites it.
pub record IsBehind (strict : Bool) (line : List ℕ) (at : ℕ) (rest : List Token) : Type 0 where
  pub within : at ≤ length line
  pub tokens : tokens_of (tokens_from strict at line) ≡ rest

-- The tree is this term, and the tokens behind the place are these. No public clause cites it.
pub record IsAtom (strict : Bool) (line : List ℕ) (at : ℕ) (tree : Tree) (t : Written)
    (rest : List Token) : Type 0 where
  pub tree_is : written tree ≡ t
  pub ends : IsBehind strict line at rest
