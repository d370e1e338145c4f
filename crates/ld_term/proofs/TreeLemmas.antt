-- The second pass over a line: the tokens of an atom give its tree.
use Rattle.std.proofs.Common.{◌≡◌, ℕ, ◌+◌, ◌-◌, ◌≤◌, Bool, List, [], ◌∷◌, ◌++◌, length, take, drop, refl, sym, ap, ◌∙◌, subst, append_assoc, append-nil, arith}
use Rattle.ld_term.specs.Written.{Written, leaf, named, times, written_height}
use Rattle.ld_term.specs.Tokens.{Token, open_bracket, close_bracket, star, equals, variable, name, bad, tokens_of, tokens_from}
use Rattle.ld_term.specs.Grammar.{atom_tokens, IsTermText, atom, bare}
use Rattle.ld_term.specs.Held.{token_from, IsPiece}
use Rattle.ld_term.specs.TreeTexts.{written, StartsAtom, IsBehind, IsAtom}
use Rattle.ld_term.specs.Refusals.{IsSmall}
use Rattle.ld_term.specs.declared.TheConstants.{MAX_HEIGHT}
use Rattle.ld_term.specs.declared.token.Kind.{Kind}
use Rattle.ld_term.specs.declared.token.Kind.TheVariants as kinds
use Rattle.ld_term.specs.declared.tree.Tree.{Tree}
use Rattle.wb_base.proofs.PartLemmas.{rest_is}

-- a piece's token, and the tokens behind it
pub piece-tokens
    : (strict : Bool) (line : List ℕ) (from : ℕ) (kind : Kind) (first end : ℕ)
    → IsPiece strict line from kind first end
    → tokens_of (tokens_from strict from line)
    ≡ token_from kind (take (end - first) (drop first line)) (first + 1) ∷ tokens_of
    (tokens_from strict end line)
piece-tokens strict line from kind first end piece = ap tokens_of piece.tokens

-- an atom has a token
pub atom-some : (t : Written) (rest : List Token) → [] ≡ atom_tokens t ++ rest → ⊥
atom-some leaf rest e = cc
atom-some (named bytes place) rest e = cc
atom-some (times a b) rest e = cc

-- an atom that begins with the variable is it
pub atom-variable
    : (t : Written) (more rest : List Token)
    → variable ∷ more ≡ atom_tokens t ++ rest
    → (leaf ≡ t) × (more ≡ rest)
atom-variable leaf more rest e = (refl, rest_is e)
atom-variable (named bytes place) more rest e = cc
atom-variable (times a b) more rest e = cc

-- an atom that begins with a name is it
pub atom-name
    : (bytes : List ℕ) (place : ℕ) (t : Written) (more rest : List Token)
    → name bytes place ∷ more ≡ atom_tokens t ++ rest
    → (named bytes place ≡ t) × (more ≡ rest)
atom-name bytes place leaf more rest e = cc
atom-name bytes place (named other at) more rest e = (cc, rest_is e)
atom-name bytes place (times a b) more rest e = cc

-- The term is a product, and these are the tokens behind its first bracket.
pub record IsTimes (t : Written) (more rest : List Token) : Type 0 where
  pub left : Written
  pub right : Written
  pub is : t ≡ times left right
  pub tokens : more ≡ atom_tokens left ++ (star ∷ (atom_tokens right ++ (close_bracket ∷ rest)))

-- an atom that begins with a bracket is a product
pub atom-times
    : (t : Written) (more rest : List Token)
    → open_bracket ∷ more ≡ atom_tokens t ++ rest
    → IsTimes t more rest
atom-times leaf more rest e = cc
atom-times (named bytes place) more rest e = cc
atom-times (times a b) more rest e =
    record { left = a; right = b; is = refl; tokens = rest_is e ∙ simp append_assoc }

-- no atom begins with another token
pub atom-close : (t : Written) (more rest : List Token) → close_bracket ∷ more ≡ atom_tokens t ++ rest → ⊥
atom-close leaf more rest e = cc
atom-close (named bytes place) more rest e = cc
atom-close (times a b) more rest e = cc

pub atom-star : (t : Written) (more rest : List Token) → star ∷ more ≡ atom_tokens t ++ rest → ⊥
atom-star leaf more rest e = cc
atom-star (named bytes place) more rest e = cc
atom-star (times a b) more rest e = cc

pub atom-equals : (t : Written) (more rest : List Token) → equals ∷ more ≡ atom_tokens t ++ rest → ⊥
atom-equals leaf more rest e = cc
atom-equals (named bytes place) more rest e = cc
atom-equals (times a b) more rest e = cc

pub atom-bad : (t : Written) (more rest : List Token) → bad ∷ more ≡ atom_tokens t ++ rest → ⊥
atom-bad leaf more rest e = cc
atom-bad (named bytes place) more rest e = cc
atom-bad (times a b) more rest e = cc

-- no atom begins with a token of another kind
pub atom-other
    : (kind : Kind) (bytes : List ℕ) (place : ℕ) (t : Written) (more rest : List Token)
    → (kind ≡ kinds.Open → ⊥)
    → (kind ≡ kinds.Variable → ⊥)
    → (kind ≡ kinds.Name → ⊥)
    → token_from kind bytes place ∷ more ≡ atom_tokens t ++ rest
    → ⊥
atom-other kinds.Open bytes place t more rest no_open no_variable no_name e = no_open refl
atom-other kinds.Close bytes place t more rest no_open no_variable no_name e = atom-close t more rest e
atom-other kinds.Star bytes place t more rest no_open no_variable no_name e = atom-star t more rest e
atom-other kinds.Equals bytes place t more rest no_open no_variable no_name e = atom-equals t more rest e
atom-other kinds.Variable bytes place t more rest no_open no_variable no_name e = no_variable refl
atom-other kinds.Name bytes place t more rest no_open no_variable no_name e = no_name refl
atom-other kinds.Bad bytes place t more rest no_open no_variable no_name e = atom-bad t more rest e

-- ---- Steps of the pass ----

-- a piece is the first token of an atom
pub piece-atom
    : (strict : Bool) (line : List ℕ) (from : ℕ) (kind : Kind) (first end : ℕ) (t : Written)
    (rest : List Token)
    → IsPiece strict line from kind first end
    → tokens_of (tokens_from strict from line) ≡ atom_tokens t ++ rest
    → token_from kind (take (end - first) (drop first line)) (first + 1) ∷ tokens_of
    (tokens_from strict end line)
    ≡ atom_tokens t ++ rest
piece-atom strict line from kind first end t rest piece e =
    sym (piece-tokens strict line from kind first end piece) ∙ e

-- behind an opening bracket
pub opened
    : (strict : Bool) (line : List ℕ) (from : ℕ) (kind : Kind) (first end : ℕ) (t : Written)
    (rest : List Token)
    → IsPiece strict line from kind first end
    → kind ≡ kinds.Open
    → tokens_of (tokens_from strict from line) ≡ atom_tokens t ++ rest
    → IsTimes t (tokens_of (tokens_from strict end line)) rest
opened strict line from kind first end t rest piece is e =
    let bytes = take (end - first) (drop first line) in
    atom-times t (tokens_of (tokens_from strict end line)) rest
    (subst (λ k. token_from k bytes (first + 1) ∷ tokens_of (tokens_from strict end line)
    ≡ atom_tokens t ++ rest) is
    (piece-atom strict line from kind first end t rest piece e))

-- the variable is read
pub variable-atom
    : (strict : Bool) (line : List ℕ) (from : ℕ) (kind : Kind) (first end : ℕ) (t : Written)
    (rest : List Token) (tree : Tree)
    → IsPiece strict line from kind first end
    → kind ≡ kinds.Variable
    → written tree ≡ leaf
    → tokens_of (tokens_from strict from line) ≡ atom_tokens t ++ rest
    → IsAtom strict line end tree t rest
variable-atom strict line from kind first end t rest tree piece is whole e =
    let bytes = take (end - first) (drop first line) in
    let (term, more) = atom-variable t (tokens_of (tokens_from strict end line)) rest
    (subst (λ k. token_from k bytes (first + 1) ∷ tokens_of (tokens_from strict end line)
    ≡ atom_tokens t ++ rest) is
    (piece-atom strict line from kind first end t rest piece e)) in
    record { tree_is = whole ∙ term; ends = record { within = piece.within; tokens = more } }

-- a name is read
pub name-atom
    : (strict : Bool) (line : List ℕ) (from : ℕ) (kind : Kind) (first end : ℕ) (t : Written)
    (rest : List Token) (tree : Tree)
    → IsPiece strict line from kind first end
    → kind ≡ kinds.Name
    → written tree ≡ named (take (end - first) (drop first line)) (first + 1)
    → tokens_of (tokens_from strict from line) ≡ atom_tokens t ++ rest
    → IsAtom strict line end tree t rest
name-atom strict line from kind first end t rest tree piece is whole e =
    let bytes = take (end - first) (drop first line) in
    let (term, more) = atom-name bytes (first + 1) t (tokens_of (tokens_from strict end line)) rest
    (subst (λ k. token_from k bytes (first + 1) ∷ tokens_of (tokens_from strict end line)
    ≡ atom_tokens t ++ rest) is
    (piece-atom strict line from kind first end t rest piece e)) in
    record { tree_is = whole ∙ term; ends = record { within = piece.within; tokens = more } }

-- What reading an atom at one place says.
abbrev pub ReadsAtom : Bool → List ℕ → ℕ → ℕ → Tree → Type 0
ReadsAtom strict line from at tree =
    (t : Written) (rest : List Token) → tokens_of (tokens_from strict from line) ≡ atom_tokens t ++ rest
    → IsAtom strict line at tree t rest

-- What skipping a token at one place says.
abbrev pub Skips : Bool → List ℕ → ℕ → ℕ → Type 0
Skips strict line from at =
    (token : Token) (rest : List Token) → IsBehind strict line from (token ∷ rest)
    → IsBehind strict line at rest

-- behind the left part
pub behind-left
    : (strict : Bool) (line : List ℕ) (from at : ℕ) (left : Tree) (t : Written) (rest : List Token)
    → (parts : IsTimes t (tokens_of (tokens_from strict from line)) rest)
    → ReadsAtom strict line from at left
    → IsBehind strict line at (star ∷ (atom_tokens parts.right ++ (close_bracket ∷ rest)))
behind-left strict line from at left t rest parts reads = (reads parts.left _ parts.tokens).ends

-- behind the star
pub behind-star
    : (strict : Bool) (line : List ℕ) (from at next : ℕ) (left : Tree) (t : Written) (rest : List Token)
    → (parts : IsTimes t (tokens_of (tokens_from strict from line)) rest)
    → ReadsAtom strict line from at left
    → Skips strict line at next
    → IsBehind strict line next (atom_tokens parts.right ++ (close_bracket ∷ rest))
behind-star strict line from at next left t rest parts reads skips =
    skips star _ (behind-left strict line from at left t rest parts reads)

-- behind the right part
pub behind-right
    : (strict : Bool) (line : List ℕ) (from at next last : ℕ) (left right : Tree) (t : Written)
    (rest : List Token)
    → (parts : IsTimes t (tokens_of (tokens_from strict from line)) rest)
    → ReadsAtom strict line from at left
    → Skips strict line at next
    → ReadsAtom strict line next last right
    → IsBehind strict line last (close_bracket ∷ rest)
behind-right strict line from at next last left right t rest parts reads skips ends =
    (ends parts.right _ (behind-star strict line from at next left t rest parts reads skips).tokens).ends

-- a product is read
pub times-atom
    : (strict : Bool) (line : List ℕ) (from at next last end : ℕ) (left right tree : Tree) (t : Written)
    (rest : List Token)
    → (parts : IsTimes t (tokens_of (tokens_from strict from line)) rest)
    → ReadsAtom strict line from at left
    → Skips strict line at next
    → ReadsAtom strict line next last right
    → Skips strict line last end
    → written tree ≡ times (written left) (written right)
    → IsAtom strict line end tree t rest
times-atom strict line from at next last end left right tree t rest parts reads skips ends closes whole =
    let one = (reads parts.left _ parts.tokens).tree_is in
    let two = (ends parts.right _ (behind-star strict line from at next left t rest parts reads
    skips).tokens).tree_is in
    record {
      tree_is = whole ∙ rw (one, two) (sym parts.is);
      ends = closes close_bracket rest
          (behind-right strict line from at next last left right t rest parts reads skips ends);
    }

-- the parts of a product are lower
pub parts-low
    : (t a b : Written) (depth : ℕ)
    → t ≡ times a b
    → written_height t ≤ depth
    → (written_height a + 1 ≤ depth) × (written_height b + 1 ≤ depth)
parts-low t a b depth is low =
    let same : written_height t ≡ written_height (times a b) =
    ap written_height is in (omega arith, omega arith)

-- ---- Terms ----

-- behind no token there is nothing
none_behind
    : {tokens : List Token} {token : Token} {more : List Token}
    → tokens ≡ []
    → tokens ≡ token ∷ more
    → ⊥
none_behind none is = cc

-- a text begins with an atom
pub text-starts
    : (strict : Bool) (line : List ℕ) (from : ℕ) (t : Written)
    → from ≤ length line
    → IsTermText strict (tokens_of (tokens_from strict from line)) t
    → IsSmall t
    → StartsAtom strict line from MAX_HEIGHT
text-starts strict line from t within (atom is) small =
    record {
      within = within;
      term = t;
      rest = [];
      tokens = is ∙ sym (append-nil (atom_tokens t));
      low = small.low;
    }
text-starts strict line from (times a b) within (bare loose is) small =
    let low = small.low in
    record { within = within; term = a; rest = star ∷ atom_tokens b; tokens = is; low = omega arith }

-- where nothing follows the atom, it is the term
pub text-atom
    : (strict : Bool) (line : List ℕ) (from at : ℕ) (left : Tree) (t : Written)
    → IsTermText strict (tokens_of (tokens_from strict from line)) t
    → ReadsAtom strict line from at left
    → tokens_from strict at line ≡ []
    → t ≡ written left
text-atom strict line from at left t (atom is) reads none =
    sym (reads t [] (is ∙ sym (append-nil (atom_tokens t)))).tree_is
text-atom strict line from at left (times a b) (bare loose is) reads none =
    absurd (none_behind (ap tokens_of none) (reads a (star ∷ atom_tokens b) is).ends.tokens)

-- The text has no outer brackets: its first part is read, and then come a star and its second part.
pub record IsBare (strict : Bool) (line : List ℕ) (at : ℕ) (left : Tree) (t : Written) : Type 0 where
  pub second : Written
  pub term_is : t ≡ times (written left) second
  pub tokens : tokens_of (tokens_from strict at line) ≡ star ∷ atom_tokens second

-- where something follows the atom, the text has no outer brackets
pub text-bare
    : (strict : Bool) (line : List ℕ) (from at : ℕ) (left : Tree) (t : Written) (kind : Kind) (first end : ℕ)
    → IsTermText strict (tokens_of (tokens_from strict from line)) t
    → ReadsAtom strict line from at left
    → IsPiece strict line at kind first end
    → IsBare strict line at left t
text-bare strict line from at left t kind first end (atom is) reads piece =
    absurd (none_behind (reads t [] (is ∙ sym (append-nil (atom_tokens t)))).ends.tokens
    (piece-tokens strict line at kind first end piece))
text-bare strict line from at left (times a b) kind first end (bare loose is) reads piece =
    let read = reads a (star ∷ atom_tokens b) is in
    record { second = b; term_is = rw read.tree_is refl; tokens = read.ends.tokens }

-- behind the star there is the second part
second-tokens
    : (strict : Bool) (line : List ℕ) (at : ℕ) (left : Tree) (t : Written) (kind : Kind) (first end : ℕ)
    → (parts : IsBare strict line at left t)
    → IsPiece strict line at kind first end
    → tokens_of (tokens_from strict end line) ≡ atom_tokens parts.second ++ []
second-tokens strict line at left t kind first end parts piece =
    rest_is (sym (piece-tokens strict line at kind first end piece) ∙ parts.tokens)
    ∙ sym (append-nil (atom_tokens parts.second))

-- it is an atom that is no higher than the term
pub second-starts
    : (strict : Bool) (line : List ℕ) (at : ℕ) (left : Tree) (t : Written) (kind : Kind) (first end : ℕ)
    → IsBare strict line at left t
    → IsPiece strict line at kind first end
    → IsSmall t
    → StartsAtom strict line end MAX_HEIGHT
second-starts strict line at left t kind first end parts piece small =
    let low = (parts-low t (written left) parts.second MAX_HEIGHT parts.term_is small.low).1 in
    record {
      within = piece.within;
      term = parts.second;
      rest = [];
      tokens = second-tokens strict line at left t kind first end parts piece;
      low = omega (arith, low);
    }

-- both parts are the term
pub second-tree
    : (strict : Bool) (line : List ℕ) (at last : ℕ) (left right : Tree) (t : Written) (kind : Kind)
    (first end : ℕ)
    → IsBare strict line at left t
    → IsPiece strict line at kind first end
    → ReadsAtom strict line end last right
    → t ≡ times (written left) (written right)
second-tree strict line at last left right t kind first end parts piece reads =
    let read = reads parts.second [] (second-tokens strict line at left t kind first end parts piece) in
    parts.term_is ∙ sym (ap (λ u. times (written left) u) read.tree_is)

-- the first atom ends within the line
pub text-within
    : (strict : Bool) (line : List ℕ) (from at : ℕ) (left : Tree) (t : Written)
    → IsTermText strict (tokens_of (tokens_from strict from line)) t
    → ReadsAtom strict line from at left
    → at ≤ length line
text-within strict line from at left t (atom is) reads =
    (reads t [] (is ∙ sym (append-nil (atom_tokens t)))).ends.within
text-within strict line from at left (times a b) (bare loose is) reads =
    (reads a (star ∷ atom_tokens b) is).ends.within
