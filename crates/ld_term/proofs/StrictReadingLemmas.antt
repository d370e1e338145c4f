-- The strict text of a term is read back, and nothing else is.
--
-- The pass over the bytes holds the term behind its text, whatever stands behind (`held_after-strict_text`):
-- so the text is read as the term, and what is read as a term is its text (`strict_term_of-strict_text`,
-- `strict_term_of-is`). The tokens of a strict reading that aren't bad, an equals sign or a name determine
-- the bytes (`bytes-lex`): so whatever the grammar takes as a strict text is the strict text of a term
-- (`strict-bytes`), and why a line isn't read is said of the term (`strict-refused`).
use Rattle.std.proofs.Common.{◌≡◌, ℕ, ◌+◌, ◌<◌, ◌==◌, Bool, true, false, cond, List, [], ◌∷◌, ◌++◌, length, Option, Some, None, Result, IfOk, IfErr, take_while, codes, refl, sym, ap, ◌∙◌, subst, append-nil}
use Rattle.std.specs.Str.{bytes_eq}
use Rattle.std.specs.List.{flat_map}
use Rattle.std.proofs.lemmas.Bool.{true≢false, eqb-true}
use Rattle.std.proofs.lemmas.Grind.{flat_map-append}
use Rattle.std.proofs.lemmas.List.Sums.{take_while-cons}
use Rattle.std.proofs.lemmas.Option.{none-some}
use Rattle.std.proofs.lemmas.Result.{IfOk-weaker, IfErr-weaker}
use Rattle.std.proofs.lemmas.Slice.Eq.{bytes_eq-Decides}
use Rattle.wb_base.proofs.PartLemmas.{first_is, rest_is, nil_cons}
use Rattle.wb_base.specs.Names.{is_name_byte}
use Rattle.ld_term.specs.Terms.{Term, variable, multiply, leaf_count}
use Rattle.ld_term.specs.Written.{Written, leaf, named, times, HasNoName, written_height, written_products}
use Rattle.ld_term.specs.Tokens.{Token, open_bracket, close_bracket, star, equals, variable as variable_token, name, bad, Placed, byte_token, run_token, tokens_of, lex, tokens_from}
use Rattle.ld_term.specs.TermTexts.{term_text}
use Rattle.ld_term.specs.Grammar.{atom_tokens, IsTermText, atom, bare, IsTerm, IsFault}
use Rattle.ld_term.specs.TreeTexts.{written}
use Rattle.ld_term.specs.Refusals.{IsRefused}
use Rattle.ld_term.specs.StrictTexts.{as_written, as_term, strict_text, held_after, spelled, strict_term_of, IsStrictRefusal}
use Rattle.ld_term.specs.declared.TheConstants.{MAX_HEIGHT, MAX_PRODUCTS}
use Rattle.ld_term.specs.declared.term_err.TermErr.{TermErr}
use Rattle.ld_term.specs.declared.term_err.TermErr.TheVariants.{Form, TooDeep, TooMany, Memory}
use Rattle.ld_term.specs.declared.tree.Tree.{Tree}
use Rattle.ld_term.proofs.LawLemmas.{fault-none, nameless-text}
use Rattle.ld_term.proofs.StrictLemmas.{EndsRun, lex-ends, bracketed, IsTermText-strict_text, as_written-as_term, written_height-as_written, written_products-as_written}

-- ---- The terms that are held ----

-- behind the strict text of a term the term is held
pub held_after-strict_text
    : (held : List Term) (t : Term) (bytes : List ℕ)
    → held_after held (strict_text t ++ bytes) ≡ held_after (t ∷ held) bytes
held_after-strict_text held variable bytes = refl
held_after-strict_text held (multiply t u) bytes =
    ap (held_after held) (bracketed 40 42 41 (strict_text t) (strict_text u) bytes)
    ∙ held_after-strict_text held t (42 ∷ (strict_text u ++ (41 ∷ bytes)))
    ∙ held_after-strict_text (t ∷ held) u (41 ∷ bytes)

-- the strict text of a term is read as the term
pub strict_term_of-strict_text : (t : Term) → strict_term_of (strict_text t) ≡ Some t
unfolding strict_term_of
strict_term_of-strict_text t =
    let held : held_after [] (strict_text t) ≡ t ∷ [] =
    ap (held_after []) (sym (append-nil (strict_text t))) ∙ held_after-strict_text [] t [] in
    ap (spelled (strict_text t)) held ∙ rw ((bytes_eq-Decides (strict_text t) (strict_text t)).1 refl) refl

-- what is spelled so is the strict text
spelled-is
    : (bytes : List ℕ) (held : List Term) (t : Term)
    → spelled bytes held ≡ Some t
    → bytes ≡ strict_text t
spelled-is bytes [] t is = absurd (none-some t is)
spelled-is bytes (u ∷ held) t is = by_test (bytes_eq (strict_text u) bytes) refl is
  where
    by_test
        : (b : Bool)
        → bytes_eq (strict_text u) bytes ≡ b
        → cond b (Some u) None ≡ Some t
        → bytes ≡ strict_text t
    by_test false other is = absurd (none-some t is)
    by_test true same is = sym ((bytes_eq-Decides (strict_text u) bytes).0 same) ∙ ap strict_text (some_is is)
      where
        some_is : Some u ≡ Some t → u ≡ t
        some_is e = cc

-- what is read as a term is its strict text
pub strict_term_of-is : (bytes : List ℕ) (t : Term) → strict_term_of bytes ≡ Some t → bytes ≡ strict_text t
unfolding strict_term_of
strict_term_of-is bytes t is = spelled-is bytes (held_after [] bytes) t is

-- ---- Tokens and their bytes ----

-- The token may stand in a strict text.
abbrev IsStrict : Token → Type 0
IsStrict open_bracket = Unit {0}
IsStrict close_bracket = Unit {0}
IsStrict star = Unit {0}
IsStrict equals = ⊥
IsStrict variable_token = Unit {0}
IsStrict (name bytes place) = ⊥
IsStrict bad = ⊥

-- Each token may.
abbrev AreStrict : List Token → Type 0
AreStrict [] = Unit {0}
AreStrict (token ∷ tokens) = IsStrict token × AreStrict tokens

-- The bytes of such a token.
abbrev token_bytes : Token → List ℕ
token_bytes open_bracket = 40 ∷ []
token_bytes close_bracket = 41 ∷ []
token_bytes star = 42 ∷ []
token_bytes equals = []
token_bytes variable_token = 120 ∷ []
token_bytes (name bytes place) = []
token_bytes bad = []

-- one list after the other
strict-append : (u v : List Token) → AreStrict u → AreStrict v → AreStrict (u ++ v)
strict-append [] v p q = q
strict-append (token ∷ u) v p q = (p.0, strict-append u v p.1 q)

-- the tokens of a term without names may stand in a strict text
strict-atom : (w : Written) → HasNoName w → AreStrict (atom_tokens w)
strict-atom leaf p = (tt, tt)
strict-atom (named bytes place) p = absurd p
strict-atom (times a b) p =
    let right = strict-append (atom_tokens b) (close_bracket ∷ []) (strict-atom b p.1) (tt, tt) in (
      tt,
      strict-append (atom_tokens a) (star ∷ (atom_tokens b ++ (close_bracket ∷ []))) (strict-atom a p.0)
          (tt, right),
    )

-- and their bytes are its text
bytes-atom : (w : Written) → HasNoName w → flat_map token_bytes (atom_tokens w) ≡ term_text w
bytes-atom leaf p = refl
bytes-atom (named bytes place) p = absurd p
bytes-atom (times a b) p =
    rw (
      flat_map-append token_bytes (atom_tokens a) (star ∷ (atom_tokens b ++ (close_bracket ∷ []))),
      flat_map-append token_bytes (atom_tokens b) (close_bracket ∷ []),
      bytes-atom a p.0,
      bytes-atom b p.1,
    ) refl

-- a byte that stands in no run is the bytes of its token
bytes-byte : (byte : ℕ) → IsStrict (byte_token byte) → byte ∷ [] ≡ token_bytes (byte_token byte)
bytes-byte byte p = by_tests (byte == 40) (byte == 41) (byte == 42) (byte == 61) refl refl refl p
  where
    by_tests : (a b c d : Bool) → (byte == 40) ≡ a → (byte == 41) ≡ b → (byte == 42) ≡ c
        → IsStrict (cond a open_bracket (cond b close_bracket (cond c star (cond d equals bad))))
        → byte ∷ [] ≡ token_bytes (cond a open_bracket
        (cond b close_bracket (cond c star (cond d equals bad))))
    by_tests true b c d is_a is_b is_c p = ap (λ z. z ∷ []) (eqb-true byte 40 is_a)
    by_tests false true c d is_a is_b is_c p = ap (λ z. z ∷ []) (eqb-true byte 41 is_b)
    by_tests false false true d is_a is_b is_c p = ap (λ z. z ∷ []) (eqb-true byte 42 is_c)
    by_tests false false false true is_a is_b is_c p = absurd p
    by_tests false false false false is_a is_b is_c p = absurd p

-- a byte of a run is in it
run-first
    : (byte : ℕ) (bytes : List ℕ)
    → is_name_byte byte ≡ true
    → take_while is_name_byte (byte ∷ bytes) ≡ byte ∷ take_while is_name_byte bytes
run-first byte bytes in_run = take_while-cons is_name_byte byte bytes ∙ rw in_run refl

-- a run of no bytes has ended
run-ended : (bytes : List ℕ) → take_while is_name_byte bytes ≡ [] → EndsRun bytes
run-ended [] none = tt
run-ended (byte ∷ bytes) none = by_test (is_name_byte byte) refl
  where
    by_test : (b : Bool) → is_name_byte byte ≡ b → b ≡ false
    by_test false ended = refl
    by_test true goes = absurd (nil_cons (sym none ∙ run-first byte bytes goes))

-- A run is an x by itself.
record IsX (byte : ℕ) (bytes : List ℕ) (token : Token) : Type 0 where
  is : byte ≡ 120
  ends : EndsRun bytes
  token_is : token ≡ variable_token

-- a run that may stand in a strict text is an x
run-x
    : (place byte : ℕ) (bytes : List ℕ)
    → is_name_byte byte ≡ true
    → IsStrict (run_token true (take_while is_name_byte (byte ∷ bytes)) place)
    → IsX byte bytes (run_token true (take_while is_name_byte (byte ∷ bytes)) place)
run-x place byte bytes in_run p =
    by_test (bytes_eq (take_while is_name_byte (byte ∷ bytes)) (codes "x")) refl p
  where
    by_test : (b : Bool) → bytes_eq (take_while is_name_byte (byte ∷ bytes)) (codes "x") ≡ b
        → IsStrict (cond b variable_token bad) → IsX byte bytes (cond b variable_token bad)
    by_test false other p = absurd p
    by_test true same p =
        let whole : byte ∷ take_while is_name_byte bytes ≡ 120 ∷ [] =
        sym (run-first byte bytes in_run)
        ∙ (bytes_eq-Decides (take_while is_name_byte (byte ∷ bytes)) (codes "x")).0 same in
        record { is = first_is whole; ends = run-ended bytes (rest_is whole); token_is = refl }

-- the bytes of such tokens of a strict reading are what was read
bytes-lex
    : (place : ℕ) (bytes : List ℕ)
    → AreStrict (tokens_of (lex true false place bytes))
    → bytes ≡ flat_map token_bytes (tokens_of (lex true false place bytes))
unfolding lex
bytes-lex place [] p = refl
bytes-lex place (byte ∷ bytes) p = by_test (bytes-lex (place + 1) bytes) (is_name_byte byte) refl p
  where
    first : Placed
    first = record { token = run_token true (take_while is_name_byte (byte ∷ bytes)) place; place = place }

    other : Placed
    other = record { token = byte_token byte; place = place }

    by_test
        : (AreStrict (tokens_of (lex true false (place + 1) bytes))
        → bytes ≡ flat_map token_bytes (tokens_of (lex true false (place + 1) bytes)))
        → (b : Bool) → is_name_byte byte ≡ b
        → AreStrict (tokens_of (cond b (first ∷ lex true true (place + 1) bytes)
        (other ∷ lex true false (place + 1) bytes)))
        → byte ∷ bytes
        ≡ flat_map token_bytes
        (tokens_of (cond b (first ∷ lex true true (place + 1) bytes)
        (other ∷ lex true false (place + 1) bytes)))
    by_test more false out p = λ i. bytes-byte byte p.0 i ++ more p.1 i
    by_test more true in_run p =
        let x = run-x place byte bytes in_run p.0 in
        let out = lex-ends (place + 1) bytes x.ends in
        rw (x.token_is, out) (λ i. x.is i ∷ more (subst (λ z. AreStrict (tokens_of z)) out p.1) i)

-- ---- Texts ----

-- bytes that the grammar takes as a strict text are the strict text of a term
pub strict-bytes
    : (bytes : List ℕ) (w : Written)
    → IsTermText true (tokens_of (tokens_from true 0 bytes)) w
    → (t : Term) × (w ≡ as_written t) × (bytes ≡ strict_text t)
strict-bytes bytes (times a b) (bare loose is) = absurd (true≢false loose)
strict-bytes bytes w (atom is) =
    let nameless = nameless-text bytes 0 w (atom is) in
    let term = as_written-as_term w nameless in
    let read = bytes-lex 1 bytes (subst AreStrict (sym is) (strict-atom w nameless)) in (
      as_term w,
      sym term,
      read ∙ ap (flat_map token_bytes) is ∙ bytes-atom w nameless ∙ ap term_text (sym term),
    )

-- ---- What is read ----

-- what the grammar takes as a strict text is read as a term
pub strict-term
    : (bytes : List ℕ) (w : Written)
    → IsTermText true (tokens_of (tokens_from true 0 bytes)) w
    → (t : Term) × (strict_term_of bytes ≡ Some t) × (w ≡ as_written t)
strict-term bytes w text =
    let (t, term, whole) = strict-bytes bytes w text in
    (t, ap strict_term_of whole ∙ strict_term_of-strict_text t, term)

-- where a line has a fault no term is read
strict-none
    : (bytes : List ℕ) (end place : ℕ)
    → IsFault (IsTerm true) (tokens_from true 0 bytes) end place
    → strict_term_of bytes ≡ None
strict-none bytes end place fault = by_read (strict_term_of bytes) refl
  where
    by_read : (read : Option Term) → strict_term_of bytes ≡ read → read ≡ None
    by_read None is = refl
    by_read (Some t) is =
        let whole = sym (strict_term_of-is bytes t is) in
        let text = subst (λ z. IsTermText true (tokens_of (tokens_from true 0 z)) (as_written t)) whole
        (IsTermText-strict_text t) in
        absurd (fault-none (IsTerm true) (tokens_from true 0 bytes) end place fault (as_written t, text))

-- why the grammar doesn't take a strict text is why its term isn't read
strict-refused
    : (bytes : List ℕ) (end : ℕ) (e : TermErr)
    → IsRefused (IsTermText true) (tokens_from true 0 bytes) end e
    → IsStrictRefusal (strict_term_of bytes) e
strict-refused bytes end (Form place) fault = strict-none bytes end place fault
strict-refused bytes end (TooDeep high) (w, text, deep) =
    let (t, read, term) = strict-term bytes w text in (
      t,
      read,
      deep.is ∙ ap written_height term
          ∙ written_height-as_written t,
      subst (λ n. MAX_HEIGHT < n) (sym deep.is) deep.above,
    )
strict-refused bytes end (TooMany count) (w, text, large) =
    let (t, read, term) = strict-term bytes w text in
    let count_is : count + 1 ≡ leaf_count t =
    ap (λ n. n + 1) (large.is ∙ ap written_products term) ∙ written_products-as_written t in
    (t, read, count_is, subst (λ n. MAX_PRODUCTS < n) (sym large.is) large.above)
strict-refused bytes end Memory free = tt

-- a tree that is read is that of the term
pub strict-read
    : {E : Type 0} (bytes : List ℕ) (r : Result Tree E)
    → IfOk r (λ tree. IsTermText true (tokens_of (tokens_from true 0 bytes)) (written tree))
    → IfOk r (λ tree. (t : Term) × (strict_term_of bytes ≡ Some t) × (written tree ≡ as_written t))
strict-read bytes r text =
    IfOk-weaker r (λ tree. IsTermText true (tokens_of (tokens_from true 0 bytes)) (written tree))
    (λ tree. (t : Term) × (strict_term_of bytes ≡ Some t) × (written tree ≡ as_written t))
    (λ tree. strict-term bytes (written tree)) text

-- and a tree that isn't read has its cause in the term
pub strict-cause
    : {T : Type 0} (bytes : List ℕ) (r : Result T TermErr)
    → IfErr r (IsRefused (IsTermText true) (tokens_from true 0 bytes) (length bytes))
    → IfErr r (IsStrictRefusal (strict_term_of bytes))
strict-cause bytes r refused =
    IfErr-weaker r (IsRefused (IsTermText true) (tokens_from true 0 bytes) (length bytes))
    (IsStrictRefusal (strict_term_of bytes)) (strict-refused bytes (length bytes)) refused
