-- A scan is begun: its word is put in front of right, and an inverse letter by letter.
use Rattle.std.proofs.Common.{◌≡◌, ℕ, ◌+◌, ◌-◌, ◌<◌, ◌≤◌, List, [], ◌∷◌, ◌++◌, length, length-append, take, get_or, ap, sym, ◌∙◌, arith, refl}
use Rattle.std.proofs.lemmas.List.{take_more}
use Rattle.braid_word.specs.Words.{Letter, opposite, inverse}
use Rattle.braid_word.proofs.WordLemmas.{inverse-append, length-inverse}
use Rattle.gap_word.specs.Gap.{Gap, gap, room}
use Rattle.handle_find.specs.LetterRuns.{IsScan}

-- the inverse of a word that goes on by one letter
inverse-more
    : (word : List Letter) (k : ℕ) (x : Letter)
    → k < length word
    → x ≡ get_or word k x
    → inverse (take (k + 1) word) ≡ opposite x ∷ inverse (take k word)
inverse-more word k x within is =
    ap inverse (take_more word k x within)
    ∙ inverse-append (take k word) (get_or word k x ∷ [])
    ∙ ap (λ y. opposite y ∷ inverse (take k word)) (sym is)

-- one more letter is put
pub put_inverse-next
    : (old new : Gap Letter) (left word right : List Letter) (spare k : ℕ) (x y : Letter)
    → k < length word
    → x ≡ get_or word k x
    → y ≡ opposite x
    → new ≡ gap old.left (y ∷ old.right) (old.spare - 1)
    → old ≡ gap left (inverse (take k word) ++ right) (spare - k)
    → new ≡ gap left (inverse (take (k + 1) word) ++ right) (spare - (k + 1))
put_inverse-next old new left word right spare k x y within is turned put before =
    let less : spare - k - 1 ≡ spare - (k + 1) = omega arith in
    rw (put, before, turned, inverse-more word k x within is, less) refl

-- a scan before its first letter
pub IsScan-begin
    : (letters : Gap Letter) (runs : Gap ℕ) (u v : List Letter) (most : ℕ)
    → length u + length v ≤ most
    → letters ≡ gap [] (inverse u ++ (v ++ [])) (most - length v - length u)
    → runs ≡ gap [] [] most
    → IsScan letters runs
IsScan-begin letters runs u v most fits begun empty = rw (begun, empty) (record {
  has_runs = record { alike = refl; run = λ k below. absurd (omega (arith, below)) };
  alone = refl;
  same_room =
      let whole = length-append (inverse u) (v ++ []) in
      let back = length-append v [] in
      omega (arith, fits, whole, back, length-inverse u);
  none = λ p q handle. absurd (omega (arith, handle.within));
})
