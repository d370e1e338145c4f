-- What the grammar says: a text has one term, a fault has none, and a strict text has no names.
use Rattle.std.proofs.Common.{◌≡◌, ℕ, ◌+◌, ◌==◌, Bool, true, false, cond, List, [], ◌∷◌, ◌++◌, take_while, drop, codes, sym, ap, ◌∙◌, subst, append_assoc, Result, IfOk}
use Rattle.std.specs.Str.{bytes_eq}
use Rattle.std.proofs.lemmas.List.{map-append}
use Rattle.std.proofs.lemmas.Bool.{true≢false}
use Rattle.std.proofs.lemmas.Result.{IfOk-weaker}
use Rattle.ld_term.specs.TreeTexts.{written}
use Rattle.ld_term.specs.declared.tree.Tree.{Tree}
use Rattle.wb_base.specs.Names.{is_name_byte}
use Rattle.ld_term.specs.Written.{Written, leaf, named, times, HasNoName}
use Rattle.ld_term.specs.Tokens.{Token, open_bracket, close_bracket, star, equals, variable, name, bad, Placed, tokens_of, byte_token, run_token, lex, tokens_from}
use Rattle.ld_term.specs.Grammar.{atom_tokens, IsTermText, atom, bare, IsFault, at_token, at_end}

-- ---- Faults ----

-- what has a fault doesn't hold
pub fault-none
    : (Has : List Token → Type 0) (placed : List Placed) (end place : ℕ)
    → IsFault Has placed end place
    → Has (tokens_of placed)
    → ⊥
fault-none Has placed end place (at_token before after p is begins stops where_is) has =
    let whole : tokens_of placed ≡ (tokens_of before ++ (p.token ∷ [])) ++ tokens_of after =
    ap tokens_of is ∙ map-append _ before (p ∷ after)
    ∙ sym (append_assoc (tokens_of before) (p.token ∷ []) (tokens_of after)) in
    stops (tokens_of after, subst Has whole has)
fault-none Has placed end place (at_end begins none where_is) has = none has

-- ---- Strict texts ----

-- The token isn't a name.
abbrev pub IsNameless : Token → Type 0
IsNameless open_bracket = Unit {0}
IsNameless close_bracket = Unit {0}
IsNameless star = Unit {0}
IsNameless equals = Unit {0}
IsNameless variable = Unit {0}
IsNameless (name bytes place) = ⊥
IsNameless bad = Unit {0}

-- No token is a name.
abbrev pub AreNameless : List Token → Type 0
AreNameless [] = Unit {0}
AreNameless (token ∷ tokens) = IsNameless token × AreNameless tokens

-- the two parts of a list
nameless-left : (u v : List Token) → AreNameless (u ++ v) → AreNameless u
nameless-left [] v p = tt
nameless-left (token ∷ u) v p = (p.0, nameless-left u v p.1)

nameless-right : (u v : List Token) → AreNameless (u ++ v) → AreNameless v
nameless-right [] v p = p
nameless-right (token ∷ u) v p = nameless-right u v p.1

-- an atom without a name among its tokens has no name
nameless-atom : (t : Written) → AreNameless (atom_tokens t) → HasNoName t
nameless-atom leaf p = tt
nameless-atom (named bytes place) p = p.0
nameless-atom (times a b) p =
    let behind = nameless-right (atom_tokens a) (star ∷ (atom_tokens b ++ (close_bracket ∷ []))) p.1 in (
      nameless-atom a (nameless-left (atom_tokens a) _ p.1),
      nameless-atom b (nameless-left (atom_tokens b) _ behind.1),
    )

-- a byte isn't a name
nameless-byte : (byte : ℕ) → IsNameless (byte_token byte)
nameless-byte byte = by_tests (byte == 40) (byte == 41) (byte == 42) (byte == 61)
  where
    by_tests
        : (a b c d : Bool)
        → IsNameless (cond a open_bracket (cond b close_bracket (cond c star (cond d equals bad))))
    by_tests true b c d = tt
    by_tests false true c d = tt
    by_tests false false true d = tt
    by_tests false false false true = tt
    by_tests false false false false = tt

-- nor is a run in the strict reading
nameless-run : (run : List ℕ) (place : ℕ) → IsNameless (run_token true run place)
nameless-run run place = by_test (bytes_eq run (codes "x"))
  where
    by_test : (b : Bool) → IsNameless (cond b variable bad)
    by_test true = tt
    by_test false = tt

-- no token of a strict reading is a name
nameless-lex
    : (in_run : Bool) (place : ℕ) (bytes : List ℕ)
    → AreNameless (tokens_of (lex true in_run place bytes))
unfolding lex
nameless-lex in_run place [] = tt
nameless-lex in_run place (byte ∷ bytes) =
    by_tests (is_name_byte byte) in_run _ _ (nameless-run (take_while is_name_byte (byte ∷ bytes)) place)
    (nameless-byte byte)
    (nameless-lex true (place + 1) bytes) (nameless-lex false (place + 1) bytes)
  where
    by_tests : (a b : Bool) (p q : Placed)
        → IsNameless p.token → IsNameless q.token
        → AreNameless (tokens_of (lex true true (place + 1) bytes))
        → AreNameless (tokens_of (lex true false (place + 1) bytes))
        → AreNameless
        (tokens_of (cond a (cond b (lex true true (place + 1) bytes)
        (p ∷ lex true true (place + 1) bytes)) (q ∷ lex true false (place + 1) bytes)))
    by_tests true true p q one two in_run out = in_run
    by_tests true false p q one two in_run out = (one, in_run)
    by_tests false b p q one two in_run out = (two, out)

-- a strict text has no name
pub nameless-text
    : (line : List ℕ) (from : ℕ) (t : Written)
    → IsTermText true (tokens_of (tokens_from true from line)) t
    → HasNoName t
nameless-text line from t (atom is) =
    nameless-atom t (subst AreNameless is (nameless-lex false (from + 1) (drop from line)))
nameless-text line from (times a b) (bare loose is) = absurd (true≢false loose)

-- nor has a tree that is read of one
pub nameless-result
    : {E : Type 0} (line : List ℕ) (r : Result Tree E)
    → IfOk r (λ tree. IsTermText true (tokens_of (tokens_from true 0 line)) (written tree))
    → IfOk r (λ tree. HasNoName (written tree))
nameless-result line r text =
    IfOk-weaker r (λ tree. IsTermText true (tokens_of (tokens_from true 0 line)) (written tree))
    (λ tree. HasNoName (written tree)) (λ tree. nameless-text line 0 (written tree)) text
