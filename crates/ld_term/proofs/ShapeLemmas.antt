-- The first pass over a line.
use Rattle.std.proofs.Common.{◌≡◌, ℕ, ◌+◌, ◌-◌, ◌^◌, ◌<◌, ◌≤◌, Bool, true, false, List, [], ◌∷◌, ◌++◌, Option, Some, None, length, take, drop, refl, sym, ap, ◌∙◌, append_assoc, append-nil, length-append, not, ◌&&◌, ◌==◌, cond, suc, arith}
use Rattle.wb_base.specs.Names.{is_name_byte}
use Rattle.std.proofs.lemmas.List.{map-append, length-map, length-drop}
use Rattle.ld_term.specs.Written.{Written, leaf, named, times, written_height, written_products}
use Rattle.ld_term.specs.Tokens.{Token, close_bracket, star, Placed, tokens_of, tokens_from, lex}
use Rattle.ld_term.specs.Grammar.{atom_tokens, IsTermText, atom, bare, IsTerm, IsFault, at_token, at_end}
use Rattle.ld_term.specs.Automaton.{State, step, start, finish}
use Rattle.ld_term.specs.Held.{token_from, kept_height, left_height, IsHeld, Moves, IsPiece, one_star, star_count, IsRead}
use Rattle.ld_term.specs.Refusals.{IsSmall, IsTooDeep, IsTooLarge}
use Rattle.ld_term.specs.declared.TheConstants.{MAX_HEIGHT, MAX_PRODUCTS}
use Rattle.ld_term.specs.declared.token.Kind.{Kind}
use Rattle.ld_term.proofs.ReadingLemmas.{run-append, begins-run, begins-not, text-run, no_text-run}

-- ---- Counts ----

-- stars of two lists
star_count-append : (u v : List Token) → star_count (u ++ v) ≡ star_count u + star_count v
star_count-append [] v = omega arith
star_count-append (token ∷ u) v = omega (arith, star_count-append u v)

-- an atom has as many stars as products
star_count-atom : (t : Written) → star_count (atom_tokens t) ≡ written_products t
star_count-atom leaf = refl
star_count-atom (named bytes place) = refl
star_count-atom (times a b) =
    omega (
      arith,
      star_count-append (atom_tokens a) (star ∷ (atom_tokens b ++ (close_bracket ∷ []))),
      star_count-append (atom_tokens b) (close_bracket ∷ []),
      star_count-atom a,
      star_count-atom b,
    )

-- and so has a text of a term
pub star_count-text
    : (strict : Bool) (tokens : List Token) (t : Written)
    → IsTermText strict tokens t
    → star_count tokens ≡ written_products t
star_count-text strict tokens t (atom is) = rw is (star_count-atom t)
star_count-text strict tokens (times a b) (bare loose is) =
    rw is (omega (
      arith,
      star_count-append (atom_tokens a) (star ∷ atom_tokens b),
      star_count-atom a,
      star_count-atom b,
    ))

-- a term is lower than its tokens are many
height-atom : (t : Written) → written_height t + 1 ≤ length (atom_tokens t)
height-atom leaf = omega arith
height-atom (named bytes place) = omega arith
height-atom (times a b) =
    omega (
      arith,
      length-append (atom_tokens a) (star ∷ (atom_tokens b ++ (close_bracket ∷ []))),
      length-append (atom_tokens b) (close_bracket ∷ []),
      height-atom a,
      height-atom b,
    )

-- and than those of its text
pub height-text
    : (strict : Bool) (tokens : List Token) (t : Written)
    → IsTermText strict tokens t
    → written_height t + 1 ≤ length tokens
height-text strict tokens t (atom is) = rw is (height-atom t)
height-text strict tokens (times a b) (bare loose is) =
    rw is (omega (arith, length-append (atom_tokens a) (star ∷ atom_tokens b), height-atom a, height-atom b))

-- ---- Steps of the pass ----

-- nothing was read
pub read-start
    : (strict : Bool) (line : List ℕ) (from : ℕ) (held left : Option ℕ) (outer : List (Option ℕ))
    → from ≤ length line
    → IsHeld held left outer start
    → IsRead strict line from from held left outer 0
read-start strict line from held left outer within holds = record {
  before = [];
  state = start;
  within = within;
  tokens = refl;
  reached = refl;
  holds = holds;
  counted = refl;
  few = omega arith;
}

-- a piece of a line, behind what was read
behind
    : (strict : Bool) (line : List ℕ) (from at first end : ℕ) (kind : Kind) (before : List Placed)
    → tokens_from strict from line ≡ before ++ tokens_from strict at line
    → IsPiece strict line at kind first end
    → tokens_from strict from line
    ≡ before ++ (record {
      token = token_from kind (take (end - first) (drop first line)) (first + 1);
      place = first + 1;
    } ∷ tokens_from strict end line)
behind strict line from at first end kind before tokens piece =
    tokens ∙ ap (λ rest. before ++ rest) piece.tokens

-- a token may stand here
pub read-more
    : (strict : Bool) (line : List ℕ) (from at first end : ℕ) (kind : Kind) (held left : Option ℕ)
    (outer : List (Option ℕ)) (products : ℕ)
    → (new_held new_left : Option ℕ) (new_outer : List (Option ℕ)) (stars : ℕ)
    → IsRead strict line from at held left outer products
    → IsPiece strict line at kind first end
    → ((bytes : List ℕ) (place : ℕ) (s : State) → IsHeld held left outer s
    → Moves strict (token_from kind bytes place) s true new_held new_left new_outer)
    → ((bytes : List ℕ) (place : ℕ) → stars ≡ one_star (token_from kind bytes place))
    → stars ≤ 1
    → IsRead strict line from end new_held new_left new_outer (products + stars)
read-more strict line from at first end kind held left outer products new_held new_left new_outer stars read
    piece moves counts one =
    let bytes = take (end - first) (drop first line) in
    let token = token_from kind bytes (first + 1) in
    let p : Placed = record { token = token; place = first + 1 } in
    let (next, stepped, holds) = moves bytes (first + 1) read.state read.holds in
    let names : tokens_of (read.before ++ (p ∷ [])) ≡ tokens_of read.before ++ (token ∷ []) =
    map-append _ read.before (p ∷ []) in
    let later = piece.later in
    let few = read.few in
    let counted = read.counted in
    record {
      before = read.before ++ (p ∷ []);
      state = next;
      within = piece.within;
      tokens = behind strict line from at first end kind read.before read.tokens piece
          ∙ sym (append_assoc read.before (p ∷ []) (tokens_from strict end line));
      reached = rw (names, run-append strict (tokens_of read.before) (token ∷ []) (Some start), read.reached)
          stepped;
      holds = holds;
      counted = rw names (omega (
        arith,
        star_count-append (tokens_of read.before) (token ∷ []),
        counts bytes (first + 1),
      ));
      few = omega arith;
    }

-- a token may not stand here
pub read-stop
    : (strict : Bool) (line : List ℕ) (from at first end : ℕ) (kind : Kind) (held left : Option ℕ)
    (outer : List (Option ℕ)) (products : ℕ)
    → IsRead strict line from at held left outer products
    → IsPiece strict line at kind first end
    → ((bytes : List ℕ) (place : ℕ) (s : State) → IsHeld held left outer s
    → step strict (token_from kind bytes place) s ≡ None)
    → IsFault (IsTerm strict) (tokens_from strict from line) (length line) (first + 1)
read-stop strict line from at first end kind held left outer products read piece stops =
    let bytes = take (end - first) (drop first line) in
    let token = token_from kind bytes (first + 1) in
    at_token read.before (tokens_from strict end line) (record { token = token; place = first + 1 })
    (behind strict line from at first end kind read.before read.tokens piece)
    (begins-run strict (tokens_of read.before) read.state read.reached)
    (begins-not strict (tokens_of read.before) token read.state read.reached
    (stops bytes (first + 1) read.state read.holds))
    refl

-- all was read
whole
    : (strict : Bool) (line : List ℕ) (from at : ℕ) (before : List Placed)
    → tokens_from strict from line ≡ before ++ tokens_from strict at line
    → tokens_from strict at line ≡ []
    → tokens_of (tokens_from strict from line) ≡ tokens_of before
whole strict line from at before tokens none =
    ap tokens_of (tokens ∙ ap (λ rest. before ++ rest) none ∙ append-nil before)

-- the line ends too early
pub read-early
    : (strict : Bool) (line : List ℕ) (from at : ℕ) (held left : Option ℕ) (outer : List (Option ℕ))
    (products : ℕ)
    → IsRead strict line from at held left outer products
    → tokens_from strict at line ≡ []
    → ((s : State) → IsHeld held left outer s → None ≡ left_height (finish s))
    → IsFault (IsTerm strict) (tokens_from strict from line) (length line) (length line + 1)
read-early strict line from at held left outer products read none height =
    let same = whole strict line from at read.before read.tokens none in
    let ends : finish read.state ≡ None = left_none (finish read.state) (height read.state read.holds) in
    at_end (rw same (begins-run strict (tokens_of read.before) read.state read.reached))
    (rw same (no_text-run strict (tokens_of read.before) read.state read.reached ends)) refl
  where
    left_none : (o : Option Written) → None ≡ left_height o → o ≡ None
    left_none None is = refl
    left_none (Some t) is = cc

-- The line is a text of a term, with its height and its products.
pub record IsShape (strict : Bool) (line : List ℕ) (from height products : ℕ) : Type 0 where
  pub term : Written
  pub text : IsTermText strict (tokens_of (tokens_from strict from line)) term
  pub height_is : height ≡ kept_height term
  pub products_are : products ≡ written_products term

-- the line is a term
pub read-whole
    : (strict : Bool) (line : List ℕ) (from at : ℕ) (held left : Option ℕ) (outer : List (Option ℕ))
    (products height : ℕ)
    → IsRead strict line from at held left outer products
    → tokens_from strict at line ≡ []
    → ((s : State) → IsHeld held left outer s → Some height ≡ left_height (finish s))
    → IsShape strict line from height products
read-whole strict line from at held left outer products height read none is =
    by_finish (finish read.state) refl (is read.state read.holds)
  where
    by_finish
        : (o : Option Written)
        → finish read.state ≡ o
        → Some height ≡ left_height o
        → IsShape strict line from height products
    by_finish None ends same = cc
    by_finish (Some t) ends same =
        let all = whole strict line from at read.before read.tokens none in
        let text : IsTermText strict (tokens_of read.before) t =
        text-run strict (tokens_of read.before) read.state t read.reached ends in
        record {
          term = t;
          text = rw all text;
          height_is = cc;
          products_are = read.counted
              ∙ star_count-text strict (tokens_of read.before) t text;
        }

-- ---- Bounds ----

-- there are no more tokens than bytes
length-lex
    : (strict in_run : Bool) (place : ℕ) (bytes : List ℕ)
    → length (lex strict in_run place bytes) ≤ length bytes
unfolding lex
length-lex strict in_run place [] = omega arith
length-lex strict in_run place (byte ∷ bytes) =
    by_tests in_run (is_name_byte byte) (not strict && (byte == 32)) _ _
    (length-lex strict true (place + 1) bytes) (length-lex strict false (place + 1) bytes)
  where
    by_tests : (a b c : Bool) (p q : Placed)
        → length (lex strict true (place + 1) bytes) ≤ length bytes
        → length (lex strict false (place + 1) bytes) ≤ length bytes
        → length (cond b (cond a (lex strict true (place + 1) bytes) (p ∷ lex strict true (place + 1) bytes))
        (cond c (lex strict false (place + 1) bytes) (q ∷ lex strict false (place + 1) bytes)))
        ≤ suc (length bytes)
    by_tests true true c p q one two = omega arith
    by_tests false true c p q one two = omega arith
    by_tests a false true p q one two = omega arith
    by_tests a false false p q one two = omega arith

-- a line's term is lower than the line is long
pub height-line
    : (strict : Bool) (line : List ℕ) (from : ℕ) (t : Written)
    → IsTermText strict (tokens_of (tokens_from strict from line)) t
    → written_height t < length line
height-line strict line from t text =
    let high = height-text strict (tokens_of (tokens_from strict from line)) t text in
    omega (
      arith,
      length-map (tokens_from strict from line) (λ (p : Placed). p.token),
      length-lex strict false (from + 1) (drop from line),
      length-drop from line,
    )

-- a kept height is the height
pub shape-height
    : (strict : Bool) (line : List ℕ) (from height products : ℕ)
    → length line < 2 ^ 64
    → (shape : IsShape strict line from height products)
    → height ≡ written_height shape.term
shape-height strict line from height products small shape =
    let is = shape.height_is in
    omega (arith, height-line strict line from shape.term shape.text)

-- a line's term is too high
pub shape-deep
    : (strict : Bool) (line : List ℕ) (from height products : ℕ)
    → length line < 2 ^ 64
    → IsShape strict line from height products
    → MAX_HEIGHT < height
    → (t : Written) × IsTermText strict (tokens_of (tokens_from strict from line)) t × IsTooDeep t height
shape-deep strict line from height products small shape above =
    let is = shape-height strict line from height products small shape in
    (shape.term, shape.text, record { above = omega arith; is = is })

-- a line's term has too many products
pub shape-large
    : (strict : Bool) (line : List ℕ) (from height products : ℕ)
    → length line < 2 ^ 64
    → IsShape strict line from height products
    → height ≤ MAX_HEIGHT
    → MAX_PRODUCTS < products
    → (t : Written) × IsTermText strict (tokens_of (tokens_from strict from line)) t × IsTooLarge t products
shape-large strict line from height products small shape low above =
    let is = shape-height strict line from height products small shape in
    let are = shape.products_are in
    (shape.term, shape.text, record { low = omega arith; above = omega arith; is = are })

-- a line's term is within the bounds
pub shape-small
    : (strict : Bool) (line : List ℕ) (from height products : ℕ)
    → length line < 2 ^ 64
    → IsShape strict line from height products
    → height ≤ MAX_HEIGHT
    → products ≤ MAX_PRODUCTS
    → (t : Written) × IsTermText strict (tokens_of (tokens_from strict from line)) t × IsSmall t
shape-small strict line from height products small shape low few =
    let is = shape-height strict line from height products small shape in
    let are = shape.products_are in
    (shape.term, shape.text, record { low = omega arith; few = omega arith })
