-- Laws of the fields of a line: its keyword is read off its front, and a place is read where it is written.
use Rattle.std.proofs.Common.{◌≡◌, ℕ, suc, ◌+◌, ◌<◌, Bool, true, false, not, cond, eqb, List, [], ◌∷◌, ◌++◌, length, take, drop, decimal, Option, Some, None, refl, ap, ap₂, ◌∙◌, arith}
use Rattle.std.specs.List.{list_all, position_or_len}
use Rattle.std.proofs.lemmas.Bool.{and_parts, and_from, eqb-true, lt-ltb, ltb-true}
use Rattle.std.proofs.lemmas.List.{take-append-drop}
use Rattle.std.proofs.lemmas.List.Folds.{length-prefix_len}
use Rattle.std.proofs.lemmas.Option.{cond_some}
use Rattle.std.proofs.Math.Seq.{take-append_seam, drop-append_seam}
use Rattle.wb_base.specs.Numbers.{digits_in_front, number_at}
use Rattle.wb_base.specs.Fields.{keyword_of, behind_keyword, IsBehind, placed_by, place_at, IsPlace}
use Rattle.wb_base.proofs.NumberLemmas.{number_at-decimal, number_at-is}
use Rattle.wb_base.proofs.PartLemmas.{Some-cond}

-- ---- Keywords ----

-- Whether a byte is a space.
abbrev pub is_space : ℕ → Bool
is_space byte = eqb byte 32

-- Whether some bytes have none.
abbrev pub no_space : List ℕ → Bool
no_space bytes = list_all (λ b. not (is_space b)) bytes

-- the keyword and what stands behind it are the line
pub append-behind_keyword : (line : List ℕ) → keyword_of line ++ behind_keyword line ≡ line
append-behind_keyword line =
    ap (λ n. keyword_of line ++ drop n line) (length-prefix_len (λ b. not (is_space b)) line)
    ∙ take-append-drop (position_or_len is_space line) line

-- behind the first space a space stands
IsBehind-drop : (line : List ℕ) → IsBehind (drop (position_or_len is_space line) line)
IsBehind-drop [] = tt
IsBehind-drop (b ∷ line) = go (is_space b) refl (IsBehind-drop line)
  where
    go
        : (space : Bool)
        → is_space b ≡ space
        → IsBehind (drop (position_or_len is_space line) line)
        → IsBehind (drop (cond (not space) (1 + position_or_len is_space line) 0) (b ∷ line))
    go true test behind = eqb-true b 32 test
    go false test behind =
        let next : 1 + position_or_len is_space line ≡ suc (position_or_len is_space line)
        = omega arith in
        rw next behind

-- nothing, or a space and more, stands behind the keyword
pub IsBehind-behind_keyword : (line : List ℕ) → IsBehind (behind_keyword line)
IsBehind-behind_keyword line =
    rw (length-prefix_len (λ b. not (is_space b)) line) (IsBehind-drop line)

-- a keyword ends where a space stands behind it
position_or_len-append
    : (word rest : List ℕ)
    → no_space word ≡ true
    → IsBehind rest
    → position_or_len is_space (word ++ rest) ≡ length word
position_or_len-append [] [] none behind = refl
position_or_len-append [] (b ∷ rest) none behind = rw behind refl
position_or_len-append (b ∷ word) rest none behind =
    let (first, others) = and_parts (not (is_space b)) (no_space word) none in
    let more = position_or_len-append word rest others behind in
    rw first (omega (arith, more))

-- the keyword of a line that begins with it
pub keyword_of-append
    : (word rest : List ℕ)
    → no_space word ≡ true
    → IsBehind rest
    → keyword_of (word ++ rest) ≡ word
keyword_of-append word rest none behind =
    ap (λ n. take n (word ++ rest)) (position_or_len-append word rest none behind)
    ∙ take-append_seam word rest

-- and what stands behind it
pub behind_keyword-append
    : (word rest : List ℕ)
    → no_space word ≡ true
    → IsBehind rest
    → behind_keyword (word ++ rest) ≡ rest
behind_keyword-append word rest none behind =
    ap (λ (keyword : List ℕ). drop (length keyword) (word ++ rest))
    (keyword_of-append word rest none behind)
    ∙ drop-append_seam word rest

-- ---- Places ----

-- What some bytes are where a place stands in front, and these are left.
record IsPlaced (bytes : List ℕ) (p : ℕ) (rest : List ℕ) : Type 0 where
  text : bytes ≡ decimal p ++ rest
  place : IsPlace p

-- a number in front that is a place stands there
placed_by-is
    : (bytes : List ℕ) (number : Option (ℕ × ℕ)) (p : ℕ) (rest : List ℕ)
    → number_at bytes ≡ number
    → placed_by bytes number ≡ Some (p, rest)
    → IsPlaced bytes p rest
placed_by-is bytes None p rest read placed = absurd (cc)
placed_by-is bytes (Some (n, digits)) p rest read placed =
    let (within, is) = cond_some _ _ _ placed in
    let (some, below) = and_parts _ _ within in
    let value : n ≡ p = ap (λ (q : ℕ × List ℕ). q.0) is in
    let left : drop digits bytes ≡ rest = ap (λ (q : ℕ × List ℕ). q.1) is in
    let low : 0 < n = ltb-true 0 n some in
    let high : n < 4294967296 = ltb-true n 4294967296 below in
    record {
      text = (number_at-is bytes n digits read).is
          ∙ ap₂ (λ k (left : List ℕ). decimal k ++ left) value left;
      place = (omega arith, omega arith);
    }

-- a place that is read stands behind a space
pub place_at-is
    : (behind : List ℕ) (p : ℕ) (rest : List ℕ)
    → place_at behind ≡ Some (p, rest)
    → (behind ≡ 32 ∷ (decimal p ++ rest)) × IsPlace p
place_at-is [] p rest read = absurd (cc)
place_at-is (byte ∷ bytes) p rest read =
    let (space, placed) = Some-cond _ _ _ read in
    let is = placed_by-is bytes (number_at bytes) p rest refl placed in
    (ap₂ (λ (b : ℕ) text. b ∷ text) (eqb-true byte 32 space) is.text, is.place)

-- a place is read where no digit follows it
pub place_at-decimal
    : (p : ℕ) (rest : List ℕ)
    → IsPlace p
    → digits_in_front rest ≡ []
    → place_at (32 ∷ (decimal p ++ rest)) ≡ Some (p, rest)
place_at-decimal p rest place none =
    let text = decimal p ++ rest in
    let within = and_from _ _ (lt-ltb 0 p place.0) (lt-ltb p 4294967296 place.1) in
    ap (placed_by text) (number_at-decimal p rest (omega arith) none)
    ∙ rw within (ap (λ left. Some (p, left)) (drop-append_seam (decimal p) rest))
