-- Reading the tokens of a line one after the other.
use Rattle.std.proofs.Common.{◌≡◌, ℕ, ◌+◌, ◌-◌, ◌<◌, ◌≤◌, ◌==◌, ◌&&◌, Bool, true, false, not, List, [], ◌∷◌, length, get_or, take, drop, suc, refl, sym, ap, ◌∙◌, subst, arith}
use Rattle.std.specs.List.{prefix_len}
use Rattle.std.proofs.lemmas.Bool.{eqb-true}
use Rattle.std.proofs.lemmas.List.{drop-drop, drop_more, length-drop}
use Rattle.std.proofs.lemmas.List.Sums.{prefix_len-le-length}
use Rattle.std.proofs.Math.Seq.{drop-length}
use Rattle.wb_base.proofs.PartLemmas.{nil_cons, first_is}
use Rattle.ld_term.specs.Held.{token_from, IsNamed, IsStart, IsPiece}
use Rattle.ld_term.specs.declared.token.Kind.{Kind}
use Rattle.wb_base.specs.Names.{is_name_byte}
use Rattle.ld_term.specs.Tokens.{byte_token, run_token, lex, tokens_from}

-- ---- One byte ----

-- a space is skipped
lex-space
    : (place byte : ℕ) (bytes : List ℕ)
    → (byte == 32) ≡ true
    → lex false false place (byte ∷ bytes) ≡ lex false false (place + 1) bytes
unfolding lex
lex-space place byte bytes space = rw (eqb-true byte 32 space) refl

-- any other byte that stands in no run is a token
lex-byte
    : (strict : Bool) (place byte : ℕ) (bytes : List ℕ)
    → is_name_byte byte ≡ false
    → (not strict && (byte == 32)) ≡ false
    → lex strict false place (byte ∷ bytes)
    ≡ record { token = byte_token byte; place = place } ∷ lex strict false (place + 1) bytes
unfolding lex
lex-byte strict place byte bytes other token = rw (other, token) refl

-- a run begins
lex-first
    : (strict : Bool) (place byte : ℕ) (bytes : List ℕ)
    → is_name_byte byte ≡ true
    → lex strict false place (byte ∷ bytes)
    ≡ record {
      token = run_token strict (take (prefix_len is_name_byte (byte ∷ bytes)) (byte ∷ bytes)) place;
      place = place;
    } ∷ lex strict true (place + 1) bytes
unfolding lex
lex-first strict place byte bytes in_run = simp in_run

-- a run goes on
lex-next
    : (strict : Bool) (place byte : ℕ) (bytes : List ℕ)
    → is_name_byte byte ≡ true
    → lex strict true place (byte ∷ bytes) ≡ lex strict true (place + 1) bytes
unfolding lex
lex-next strict place byte bytes in_run = rw in_run refl

-- a run ends
lex-out
    : (strict : Bool) (place byte : ℕ) (bytes : List ℕ)
    → is_name_byte byte ≡ false
    → lex strict true place (byte ∷ bytes) ≡ lex strict false place (byte ∷ bytes)
unfolding lex
lex-out strict place byte bytes other = rw other refl

-- nothing is left
lex-nil : (strict in_run : Bool) (place : ℕ) → lex strict in_run place [] ≡ []
unfolding lex
lex-nil strict in_run place = refl

-- ---- Runs of bytes ----

-- one byte more in front
prefix-more
    : (p : ℕ → Bool) (byte : ℕ) (bytes : List ℕ)
    → p byte ≡ true
    → prefix_len p (byte ∷ bytes) ≡ suc (prefix_len p bytes)
prefix-more p byte bytes passes = rw passes (omega arith)

-- none
prefix-none : (p : ℕ → Bool) (byte : ℕ) (bytes : List ℕ) → p byte ≡ false → prefix_len p (byte ∷ bytes) ≡ 0
prefix-none p byte bytes fails = rw fails refl

-- spaces are skipped
pub lex-spaces
    : (place : ℕ) (bytes : List ℕ)
    → lex false false place bytes
    ≡ lex false false (place + prefix_len (λ byte. byte == 32) bytes)
    (drop (prefix_len (λ byte. byte == 32) bytes) bytes)
lex-spaces place [] = rw (lex-nil false false place, lex-nil false false (place + 0)) refl
lex-spaces place (byte ∷ bytes) = by_byte (λ k. lex-spaces k bytes) (byte == 32) refl
  where
    by_byte
        : ((k : ℕ) → lex false false k bytes
        ≡ lex false false (k + prefix_len (λ byte. byte == 32) bytes)
        (drop (prefix_len (λ byte. byte == 32) bytes) bytes))
        → (b : Bool) → (byte == 32) ≡ b
        → lex false false place (byte ∷ bytes)
        ≡ lex false false (place + prefix_len (λ byte. byte == 32) (byte ∷ bytes))
        (drop (prefix_len (λ byte. byte == 32) (byte ∷ bytes)) (byte ∷ bytes))
    by_byte more true space =
        let at : (place + 1) + prefix_len (λ byte. byte == 32) bytes
        ≡ place + suc (prefix_len (λ byte. byte == 32) bytes) = omega arith in
        rw (prefix-more (λ byte. byte == 32) byte bytes space)
        (lex-space place byte bytes space ∙ more (place + 1)
        ∙ ap (λ k. lex false false k (drop (prefix_len (λ byte. byte == 32) bytes) bytes)) at)
    by_byte more false other =
        let at : place ≡ place + 0 = omega arith in
        rw (prefix-none (λ byte. byte == 32) byte bytes other) (ap (λ k. lex false false k (byte ∷ bytes)) at)

-- the bytes of a run are skipped
pub lex-run
    : (strict : Bool) (place : ℕ) (bytes : List ℕ)
    → lex strict true place bytes
    ≡ lex strict false (place + prefix_len is_name_byte bytes) (drop (prefix_len is_name_byte bytes) bytes)
lex-run strict place [] = rw (lex-nil strict true place, lex-nil strict false (place + 0)) refl
lex-run strict place (byte ∷ bytes) = by_byte (λ k. lex-run strict k bytes) (is_name_byte byte) refl
  where
    by_byte
        : ((k : ℕ) → lex strict true k bytes
        ≡ lex strict false (k + prefix_len is_name_byte bytes)
        (drop (prefix_len is_name_byte bytes) bytes))
        → (b : Bool) → is_name_byte byte ≡ b
        → lex strict true place (byte ∷ bytes)
        ≡ lex strict false (place + prefix_len is_name_byte (byte ∷ bytes))
        (drop (prefix_len is_name_byte (byte ∷ bytes)) (byte ∷ bytes))
    by_byte more true in_run =
        let at : (place + 1) + prefix_len is_name_byte bytes ≡ place + suc (prefix_len is_name_byte bytes) =
        omega arith in
        rw (prefix-more is_name_byte byte bytes in_run)
        (lex-next strict place byte bytes in_run ∙ more (place + 1)
        ∙ ap (λ k. lex strict false k (drop (prefix_len is_name_byte bytes) bytes)) at)
    by_byte more false other =
        let at : place ≡ place + 0 = omega arith in
        rw (prefix-none is_name_byte byte bytes other)
        (lex-out strict place byte bytes other ∙ ap (λ k. lex strict false k (byte ∷ bytes)) at)

-- a whole run is a token
lex-whole_run
    : (strict : Bool) (place : ℕ) (line : List ℕ) (byte : ℕ) (bytes : List ℕ)
    → line ≡ byte ∷ bytes
    → is_name_byte byte ≡ true
    → lex strict false place line
    ≡ record { token = run_token strict (take (prefix_len is_name_byte line) line) place; place = place }
    ∷ lex strict false (place + prefix_len is_name_byte line) (drop (prefix_len is_name_byte line) line)
lex-whole_run strict place line byte bytes is in_run =
    rw is (lex-first strict place byte bytes in_run
    ∙ ap (λ rest. record {
      token = run_token strict
          (take (prefix_len is_name_byte (byte ∷ bytes)) (byte ∷ bytes)) place;
      place = place;
    } ∷ rest)
    (sym (lex-next strict place byte bytes in_run) ∙ lex-run strict place (byte ∷ bytes)))

-- ---- Pieces ----

-- spaces before a place are skipped
pub tokens-spaces
    : (line : List ℕ) (from : ℕ)
    → tokens_from false from line
    ≡ tokens_from false (from + prefix_len (λ byte. byte == 32) (drop from line)) line
tokens-spaces line from =
    let n = prefix_len (λ byte. byte == 32) (drop from line) in
    let at : from + 1 + n ≡ from + n + 1 = omega arith in
    lex-spaces (from + 1) (drop from line) ∙ rw (at, drop-drop n from line) refl

-- no token is left behind the end
pub tokens-end
    : (strict : Bool) (line : List ℕ) (from : ℕ)
    → drop from line ≡ []
    → tokens_from strict from line ≡ []
tokens-end strict line from none = rw none (lex-nil strict false (from + 1))

-- a byte that stands in no run is a token
pub tokens-byte
    : (strict : Bool) (line : List ℕ) (from byte : ℕ) (bytes : List ℕ)
    → drop from line ≡ byte ∷ bytes
    → is_name_byte byte ≡ false
    → (not strict && (byte == 32)) ≡ false
    → tokens_from strict from line
    ≡ record { token = byte_token byte; place = from + 1 } ∷ tokens_from strict (from + 1) line
tokens-byte strict line from byte bytes is other token =
    let rest : drop (from + 1) line ≡ bytes = sym (drop-drop 1 from line) ∙ ap (drop 1) is in
    rw (is, rest) (lex-byte strict (from + 1) byte bytes other token)

-- a run is a token
pub tokens-run
    : (strict : Bool) (line : List ℕ) (from byte : ℕ) (bytes : List ℕ)
    → drop from line ≡ byte ∷ bytes
    → is_name_byte byte ≡ true
    → tokens_from strict from line
    ≡ record {
      token = run_token strict (take (prefix_len is_name_byte (drop from line)) (drop from line))
          (from + 1);
      place = from + 1;
    }
    ∷ tokens_from strict (from + prefix_len is_name_byte (drop from line)) line
tokens-run strict line from byte bytes is in_run =
    let n = prefix_len is_name_byte (drop from line) in
    let at : from + 1 + n ≡ from + n + 1 = omega arith in
    lex-whole_run strict (from + 1) (drop from line) byte bytes is in_run
    ∙ rw (at, drop-drop n from line) refl

-- ---- Starts and ends ----

-- a front is within the list
pub prefix-within
    : (p : ℕ → Bool) (line : List ℕ) (from : ℕ)
    → from ≤ length line
    → from + prefix_len p (drop from line) ≤ length line
prefix-within p line from within =
    omega (arith, prefix_len-le-length p (drop from line), length-drop from line)

-- behind the spaces in front there is no space
no_space
    : (bytes : List ℕ) (byte : ℕ) (rest : List ℕ)
    → drop (prefix_len (λ byte. byte == 32) bytes) bytes ≡ byte ∷ rest
    → (byte == 32) ≡ false
no_space [] byte rest is = absurd (nil_cons is)
no_space (first ∷ bytes) byte rest is = by_byte (no_space bytes byte rest) (first == 32) refl
  where
    by_byte : (drop (prefix_len (λ byte. byte == 32) bytes) bytes ≡ byte ∷ rest → (byte == 32) ≡ false)
        → (b : Bool) → (first == 32) ≡ b → (byte == 32) ≡ false
    by_byte more true space = more (rw (prefix-more (λ byte. byte == 32) first bytes space) at is)
    by_byte more false other =
        let same : first ≡ byte = first_is (rw (prefix-none (λ byte. byte == 32) first bytes other) at is) in
        subst (λ z. (z == 32) ≡ false) same other

-- the next token starts where the spaces end
pub start-spaces
    : (line : List ℕ) (from n : ℕ)
    → from ≤ length line
    → n ≡ prefix_len (λ byte. byte == 32) (drop from line)
    → IsStart false line from (from + n)
start-spaces line from n within is = rw is record {
  within = prefix-within (λ byte. byte == 32) line from within;
  later = omega arith;
  tokens = tokens-spaces line from;
  ends = λ byte bytes behind. no_space (drop from line) byte bytes
      (drop-drop (prefix_len (λ byte. byte == 32) (drop from line)) from line ∙ behind);
}

-- nothing is left at the end
pub piece-none
    : (strict : Bool) (line : List ℕ) (from start : ℕ)
    → IsStart strict line from start
    → start ≡ length line
    → tokens_from strict from line ≡ []
piece-none strict line from start starts is =
    starts.tokens ∙ tokens-end strict line start (rw is (drop-length line))

-- a byte that stands in no run is a piece
pub piece-byte
    : (strict : Bool) (line : List ℕ) (from start byte : ℕ) (kind : Kind)
    → IsStart strict line from start
    → start < length line
    → byte ≡ get_or line start 0
    → is_name_byte byte ≡ false
    → ((bytes : List ℕ) (place : ℕ) → token_from kind bytes place ≡ byte_token byte)
    → ((bytes : List ℕ) → IsNamed kind bytes)
    → IsPiece strict line from kind start (start + 1)
piece-byte strict line from start byte kind starts within is other token named =
    let behind : drop start line ≡ byte ∷ drop (start + 1) line = rw is (drop_more line start 0 within) in
    let later = starts.later in
    record {
      later = omega arith;
      within = omega arith;
      begins = omega arith;
      named = named (take (start + 1 - start) (drop start line));
      tokens = starts.tokens ∙ rw (token (take (start + 1 - start) (drop start line)) (start + 1))
          (tokens-byte strict line start byte (drop (start + 1) line) behind other
          (starts.ends byte (drop (start + 1) line) behind));
    }

-- a run is a piece
pub piece-run
    : (strict : Bool) (line : List ℕ) (from start end byte : ℕ) (kind : Kind)
    → IsStart strict line from start
    → start < length line
    → byte ≡ get_or line start 0
    → is_name_byte byte ≡ true
    → end ≡ start + prefix_len is_name_byte (drop start line)
    → ((place : ℕ)
    → token_from kind (take (end - start) (drop start line)) place
    ≡ run_token strict (take (end - start) (drop start line)) place)
    → IsNamed kind (take (end - start) (drop start line))
    → IsPiece strict line from kind start end
piece-run strict line from start end byte kind starts within is in_run ends token named =
    let behind : drop start line ≡ byte ∷ drop (start + 1) line = rw is (drop_more line start 0 within) in
    let some : prefix_len is_name_byte (drop start line)
    ≡ suc (prefix_len is_name_byte (drop (start + 1) line)) =
    rw behind (prefix-more is_name_byte byte (drop (start + 1) line) in_run) in
    let size : end - start ≡ prefix_len is_name_byte (drop start line) = omega arith in
    let later = starts.later in
    record {
      later = omega arith;
      within = omega (arith, prefix-within is_name_byte line start (omega arith));
      begins = omega arith;
      named = named;
      tokens = starts.tokens ∙ rw (token (start + 1), size, ends)
          (tokens-run strict line start byte (drop (start + 1) line) behind in_run);
    }
