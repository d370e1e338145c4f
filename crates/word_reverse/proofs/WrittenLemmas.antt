-- What is written of a run that is done is accepted.
--
-- The places of a run lead from its first word to the one that it has reached, over words that aren't too
-- long (`IsLed-rev_after`). A run that is done has reached a word without a corner, which is a fraction as
-- it stands. So what is written of it is accepted, if its first word can be read (`IsAccepted-written`).
use Rattle.std.proofs.Common.{◌≡◌, ℕ, ◌+◌, ◌-◌, ◌≤◌, List, [], ◌∷◌, ◌++◌, length, length-append, refl, ap, sym, subst, arith}
use Rattle.std.specs.List.{AllByRecursion}
use Rattle.braid_word.specs.Words.{Letter, inverse, IsOn}
use Rattle.braid_word.specs.Notation.{IsReadable}
use Rattle.braid_word.specs.declared.TheConstants.{MAX_INDEX, MAX_LETTERS}
use Rattle.braid_word.proofs.WordLemmas.{on_left, on_right, on_inverse, length-inverse}
use Rattle.braid_word.proofs.EquivalenceLemmas.{on_last}
use Rattle.word_reverse.specs.Corners.{IsCorner, turned_at}
use Rattle.word_reverse.specs.Fractions.{positive_front, behind_front}
use Rattle.word_reverse.specs.RevRuns.{rev_after}
use Rattle.word_reverse.specs.ReverseText.{reverse_text}
use Rattle.wb_base.specs.Fields.{IsPlace}
use Rattle.word_reverse.specs.Written.{reversal_of}
use Rattle.word_reverse.specs.Accepted.{IsTurns, IsAccepted}
use Rattle.word_reverse.specs.declared.progress.RevProgress.TheVariants.{Done}
use Rattle.word_reverse.proofs.CornerLemmas.{IsCorner-within}
use Rattle.word_reverse.proofs.FractionLemmas.{front_and_behind, IsSplit-none}
use Rattle.word_reverse.proofs.KeptByRevRuns.{run-keeps}
use Rattle.word_reverse.proofs.RevRunLemmas.{rev_after-Done}
use Rattle.word_reverse.proofs.RevRunEquivalence.{EquivalentOn-rev_after}

-- ---- The steps of a run ----

-- one more corner is turned
IsTurns-push
    : (a : List Letter) (places : List ℕ) (b : List Letter) (p : ℕ)
    → IsTurns a places b
    → 1 ≤ p
    → IsCorner b (p - 1)
    → length (turned_at b (p - 1)) ≤ MAX_LETTERS
    → IsTurns a (places ++ p ∷ []) (turned_at b (p - 1))
IsTurns-push a [] b p turns low corner short =
    subst (λ z. IsTurns a (p ∷ []) (turned_at z (p - 1))) (sym turns) (
      low,
      subst (λ z. IsCorner z (p - 1)) turns corner,
      subst (λ z. length (turned_at z (p - 1)) ≤ MAX_LETTERS) turns short,
      refl,
    )
IsTurns-push a (q ∷ places) b p (first, there, fits, turns) low corner short =
    (first, there, fits, IsTurns-push (turned_at a (q - 1)) places b p turns low corner short)

-- one more place is one
places_push
    : (places : List ℕ) (p : ℕ)
    → AllByRecursion IsPlace places
    → IsPlace p
    → AllByRecursion IsPlace (places ++ p ∷ [])
places_push [] p all place = (place, tt)
places_push (q ∷ places) p all place = (all.0, places_push places p all.1 place)

-- The places lead from one word to another, and no word on the way is too long.
record IsLed (a : List Letter) (places : List ℕ) (b : List Letter) : Type 0 where
  turns : IsTurns a places b
  places_are : AllByRecursion IsPlace places
  short : length b ≤ MAX_LETTERS

-- to a word with one more corner turned
IsLed-push
    : (limit : ℕ) (a : List Letter) (places : List ℕ) (b : List Letter) (p : ℕ)
    → limit ≤ MAX_LETTERS
    → IsCorner b p
    → length (turned_at b p) ≤ limit
    → IsLed a places b
    → IsLed a (places ++ (p + 1) ∷ []) (turned_at b p)
IsLed-push limit a places b p small corner short led =
    let same : p + 1 - 1 ≡ p = omega arith in
    let within = IsCorner-within b p corner in
    let fits : length (turned_at b p) ≤ MAX_LETTERS = omega (arith, short, small) in
    let turns = IsTurns-push a places b (p + 1) led.turns (omega arith)
    (subst (IsCorner b) (sym same) corner)
    (subst (λ k. length (turned_at b k) ≤ MAX_LETTERS) (sym same) fits) in
    record {
      turns = subst (λ k. IsTurns a (places ++ (p + 1) ∷ []) (turned_at b k)) same turns;
      places_are = places_push places (p + 1) led.places_are (omega arith, omega (arith, within, led.short));
      short = fits;
    }

-- the places of a run lead from its first word to the one that it has reached
IsLed-rev_after
    : (w : List Letter) (steps limit t : ℕ)
    → length w ≤ MAX_LETTERS
    → limit ≤ MAX_LETTERS
    → let run = rev_after w steps limit t in
    IsLed w run.places run.present
IsLed-rev_after w steps limit t short small =
    run-keeps steps limit (IsLed w)
    (λ places v p corner fits led. IsLed-push limit w places v p small corner fits led)
    w t (record { turns = refl; places_are = tt; short = short })

-- ---- What is written ----

-- a part of a word that can be read, and its inverse, can be read
IsReadable-part
    : (u v w : List Letter)
    → u ++ v ≡ w
    → IsOn (MAX_INDEX + 1) w
    → length w ≤ MAX_LETTERS
    → IsReadable u × IsReadable (inverse v)
IsReadable-part u v w is on short =
    let all = subst (IsOn (MAX_INDEX + 1)) (sym is) on in
    let len = ap length is in
    let parts = length-append u v in
    let turned = length-inverse v in (
      record { short = omega (arith, len, parts, short); on = on_left (MAX_INDEX + 1) u v all },
      record {
        short = omega (arith, len, parts, short, turned);
        on = on_inverse (MAX_INDEX + 1) v (on_right (MAX_INDEX + 1) u v all);
      },
    )

-- what is written of a run that is done is accepted
pub IsAccepted-written
    : (w : List Letter) (steps limit t : ℕ)
    → IsReadable w
    → limit ≤ MAX_LETTERS
    → let run = rev_after w steps limit t in
    run.progress ≡ Done → IsAccepted (reverse_text (reversal_of w run)) (reversal_of w run)
IsAccepted-written w steps limit t readable small done =
    let last : List Letter = (rev_after w steps limit t).present in
    let led = IsLed-rev_after w steps limit t readable.short small in
    let on = on_last (EquivalentOn-rev_after (MAX_INDEX + 1) w steps limit t readable.on) in
    let (left, right) = IsReadable-part (positive_front last) (behind_front last) last (front_and_behind last)
    on led.short in
    record {
      text = refl;
      bounds = record { word = readable; places = led.places_are; left = left; right = right };
      last = last;
      turns = led.turns;
      split = IsSplit-none last (rev_after-Done w steps limit t done);
    }
