-- Laws of left divisors.
--
-- In a group a word in front is cancelled (`EquivalentOn-cancel`), so divisors are too.
use Rattle.std.proofs.Common.{ℕ, List, [], ◌++◌, append_assoc, append-nil}
use Rattle.braid_word.specs.Words.{Letter, IsOn, IsPositiveWord}
use Rattle.braid_word.specs.Equivalence.{EquivalentOn, stay}
use Rattle.braid_word.proofs.WordLemmas.{on_left, on_right}
use Rattle.braid_word.proofs.EquivalenceLemmas.{on_first, EquivalentOn-trans, EquivalentOn-after, EquivalentOn-before, EquivalentOn-cancel}
use Rattle.braid_gcd.specs.Divisors.{Divides}
use Rattle.braid_gcd.proofs.PositiveLemmas.{positive_append}

-- ---- Divisors ----

-- a divisor is on as many strands
pub Divides-on : {n : ℕ} {a b : List Letter} → Divides n a b → IsOn n a
Divides-on {n} {a} divides = on_left n a divides.rest (on_first divides.product)

-- so is what is left
pub Divides-on_rest : {n : ℕ} {a b : List Letter} (divides : Divides n a b) → IsOn n divides.rest
Divides-on_rest {n} {a} divides = on_right n a divides.rest (on_first divides.product)

-- a word divides itself
pub Divides-refl : {n : ℕ} (w : List Letter) → IsOn n w → Divides n w w
Divides-refl w on = record { rest = []; positive = tt; product = rw (append-nil w) (stay on) }

-- nothing divides a positive word
pub Divides-nil : {n : ℕ} (w : List Letter) → IsPositiveWord w → IsOn n w → Divides n [] w
Divides-nil w positive on = record { rest = w; positive = positive; product = stay on }

-- a word that is equivalent to a divisor
pub Divides-first
    : {n : ℕ} {a b c : List Letter}
    → EquivalentOn n a b
    → Divides n b c
    → Divides n a c
Divides-first same divides = record {
  rest = divides.rest;
  positive = divides.positive;
  product = EquivalentOn-trans (EquivalentOn-before divides.rest (Divides-on_rest divides) same)
      divides.product;
}

-- a word that is equivalent to what is divided
pub Divides-last
    : {n : ℕ} {a b c : List Letter}
    → Divides n a b
    → EquivalentOn n b c
    → Divides n a c
Divides-last divides same = record {
  rest = divides.rest;
  positive = divides.positive;
  product = EquivalentOn-trans divides.product same;
}

-- a divisor of a divisor
pub Divides-trans
    : {n : ℕ} {a b c : List Letter}
    → Divides n a b
    → Divides n b c
    → Divides n a c
Divides-trans {n} {a} {b} {c} first second = record {
  rest = first.rest ++ second.rest;
  positive = positive_append first.rest second.rest first.positive second.positive;
  product = rw (← append_assoc a first.rest second.rest)
      (EquivalentOn-trans (EquivalentOn-before second.rest (Divides-on_rest second) first.product)
      second.product);
}

-- the front of a divisor
pub Divides-front
    : {n : ℕ} (a b : List Letter) {c : List Letter}
    → IsPositiveWord b
    → Divides n (a ++ b) c
    → Divides n a c
Divides-front a b positive divides = record {
  rest = b ++ divides.rest;
  positive = positive_append b divides.rest positive divides.positive;
  product = rw (append_assoc a b divides.rest) at divides.product;
}

-- the same word in front of both
pub Divides-after
    : {n : ℕ} (a b c : List Letter)
    → IsOn n a
    → Divides n b c
    → Divides n (a ++ b) (a ++ c)
Divides-after a b c on divides = record {
  rest = divides.rest;
  positive = divides.positive;
  product = rw (append_assoc a b divides.rest) (EquivalentOn-after a on divides.product);
}

-- and it is cancelled
pub Divides-cancel
    : {n : ℕ} (a b c : List Letter)
    → Divides n (a ++ b) (a ++ c)
    → Divides n b c
Divides-cancel a b c divides = record {
  rest = divides.rest;
  positive = divides.positive;
  product = EquivalentOn-cancel a (b ++ divides.rest) c
      (rw (append_assoc a b divides.rest) at divides.product);
}
