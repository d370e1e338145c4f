-- Greatest common divisors: each two positive words have one, up to equivalence but one, and how one is
-- recognized.
--
-- The existence goes by induction on the length of the first word: a letter i that divides both is taken out,
-- and a common divisor that begins with another letter j lies below the greatest one behind j, of which the
-- least common multiple of i and j is a divisor (`common_other`).
use Rattle.std.proofs.Common.{ℕ, zero, suc, ◌≡◌, inl, inr, ◌≤◌, List, [], ◌∷◌, ◌++◌, length, length-append, append-nil, refl, sym, subst, arith}
use Rattle.std.proofs.lemmas.Bool.{cases_eq}
use Rattle.std.proofs.lemmas.List.{nil_from_length}
use Rattle.braid_word.specs.Words.{Letter, IsOn, IsPositiveWord}
use Rattle.braid_word.specs.Equivalence.{EquivalentOn, stay}
use Rattle.braid_word.proofs.EquivalenceLemmas.{on_first, on_last, EquivalentOn-trans, EquivalentOn-sym, EquivalentOn-after, EquivalentOn-before}
use Rattle.perm_braid.specs.SimpleWords.{generator}
use Rattle.braid_gcd.specs.Divisors.{Divides, IsGreatest, SharesNone}
use Rattle.braid_gcd.proofs.PositiveLemmas.{length-equivalent, positive_append}
use Rattle.braid_gcd.proofs.DivideLemmas.{Divides-on, Divides-on_rest, Divides-refl, Divides-nil, Divides-first, Divides-last, Divides-trans, Divides-after, Divides-cancel}
use Rattle.braid_gcd.proofs.FirstOrderLemmas.{letter_positive}
use Rattle.braid_gcd.proofs.MultipleLemmas.{IsMultiple, multiple_exists, multiple_divides}
use Rattle.braid_gcd.proofs.SharedLemmas.{letter_not, IsShared, shared_or, shared_nil}

-- ---- Existence ----

-- Two positive words have a greatest common divisor, where the first has at most so many letters.
abbrev pub HaveGreatest : ℕ → ℕ → Type 0
HaveGreatest n most =
    (u v : List Letter) → length u ≤ most → IsOn n u → IsOn n v → IsPositiveWord u → IsPositiveWord v
    → (g : List Letter) × IsGreatest n u v g

-- words that share no letter have nothing in common
greatest_none
    : {n : ℕ} {u v : List Letter}
    → IsOn n u
    → IsOn n v
    → IsPositiveWord u
    → IsPositiveWord v
    → SharesNone n u v
    → IsGreatest n u v []
greatest_none {n} {u} {v} on_u on_v positive_u positive_v none = record {
  positive = tt;
  first = Divides-nil u positive_u on_u;
  second = Divides-nil v positive_v on_v;
  greatest = λ e positive one two. rw (shared_nil none e positive one two) (Divides-refl [] tt);
}

-- a common divisor that begins with the letter that was taken out
common_same
    : {n i : ℕ} {u v a b g e : List Letter}
    → IsGreatest n a b g
    → EquivalentOn n (generator i ∷ a) u
    → EquivalentOn n (generator i ∷ b) v
    → IsPositiveWord e
    → Divides n (generator i ∷ e) u
    → Divides n (generator i ∷ e) v
    → Divides n (generator i ∷ e) (generator i ∷ g)
common_same {n} {i} {u} {v} {a} {b} {g} {e} greatest first second positive one two =
    let on = on_first first in
    let in_a = Divides-cancel (generator i ∷ []) e a (Divides-last one (EquivalentOn-sym first)) in
    let in_b = Divides-cancel (generator i ∷ []) e b (Divides-last two (EquivalentOn-sym second)) in
    Divides-after (generator i ∷ []) e g (on.0, tt) (greatest.greatest e positive in_a in_b)

-- a multiple of the letters i and j, from either side
moved_over
    : {n i j : ℕ} {c d h : List Letter} (k : List Letter)
    → IsMultiple n i j c d
    → IsOn n k
    → IsOn n (generator j ∷ [])
    → EquivalentOn n (d ++ k) h
    → EquivalentOn n (generator j ∷ h) (generator i ∷ (c ++ k))
moved_over {n} {i} {j} k multiple on_k on_j chain =
    EquivalentOn-trans (EquivalentOn-after (generator j ∷ []) on_j (EquivalentOn-sym chain))
    (EquivalentOn-before k on_k (EquivalentOn-sym multiple.same))

-- what stands behind the letter i in such a multiple divides what does in a word that has it as a divisor
multiple_behind
    : {n i j : ℕ} {u a b h r : List Letter}
    → EquivalentOn n (generator j ∷ h) (generator i ∷ r)
    → Divides n h b
    → EquivalentOn n (generator j ∷ b) u
    → EquivalentOn n (generator i ∷ a) u
    → Divides n r a
multiple_behind {n} {i} {j} {u} {a} {b} {h} {r} over divides second first =
    Divides-cancel (generator i ∷ []) r a
    (Divides-first (EquivalentOn-sym over)
    (Divides-last (Divides-after (generator j ∷ []) h b ((on_first second).0, tt) divides)
    (EquivalentOn-trans second (EquivalentOn-sym first))))

-- a common divisor that begins with another letter
common_other
    : {n i j most : ℕ} {u v a b g e : List Letter}
    → HaveGreatest n most
    → length u ≤ suc most
    → (i ≡ j → ⊥)
    → IsGreatest n a b g
    → IsPositiveWord a
    → IsPositiveWord b
    → EquivalentOn n (generator i ∷ a) u
    → EquivalentOn n (generator i ∷ b) v
    → IsPositiveWord u
    → IsPositiveWord e
    → Divides n (generator j ∷ e) u
    → Divides n (generator j ∷ e) v
    → Divides n (generator j ∷ e) (generator i ∷ g)
common_other {n} {i} {j} {most} {u} {v} {a} {b} {g} {e} have few other greatest positive_a positive_b first
    second positive_u positive one two =
    let on_i = on_first first in
    let on_u = on_first one.product in
    let on_v = on_first two.product in
    let in_u = positive_append e one.rest positive one.positive in
    let in_v = positive_append e two.rest positive two.positive in
    let size = length-equivalent one.product (refl, in_u) positive_u in
    let (c, d, multiple) = multiple_exists n i j other on_i.0.0 on_i.0.1 on_u.0.0 on_u.0.1 in
    let (h, great) =
    have (e ++ one.rest) (e ++ two.rest) (omega (arith, size, few)) on_u.1 on_v.1 in_u in_v in
    let letter_u : Divides n (generator i ∷ []) (generator j ∷ (e ++ one.rest)) =
    Divides-last (record { rest = a; positive = positive_a; product = first })
    (EquivalentOn-sym one.product) in
    let letter_v : Divides n (generator i ∷ []) (generator j ∷ (e ++ two.rest)) =
    Divides-last (record { rest = b; positive = positive_b; product = second })
    (EquivalentOn-sym two.product) in
    let behind = great.greatest d multiple.second
    (multiple_divides (e ++ one.rest) multiple on_u.1 in_u letter_u)
    (multiple_divides (e ++ two.rest) multiple on_v.1 in_v letter_v) in
    let within = great.greatest e positive
    (record { rest = one.rest; positive = one.positive; product = stay on_u.1 })
    (record { rest = two.rest; positive = two.positive; product = stay on_v.1 }) in
    let over = moved_over behind.rest multiple (Divides-on_rest behind) (on_u.0, tt) behind.product in
    let below = greatest.greatest (c ++ behind.rest)
    (positive_append c behind.rest multiple.first behind.positive)
    (multiple_behind over great.first one.product first)
    (multiple_behind over great.second two.product second) in
    Divides-trans (Divides-after (generator j ∷ []) e h (on_u.0, tt) within)
    (Divides-first over
    (Divides-after (generator i ∷ []) (c ++ behind.rest) g (on_i.0, tt) below))

-- a common divisor lies below the letter that was taken out and the greatest common divisor of the rests
common_divides
    : {n i most : ℕ} {u v a b g : List Letter}
    → HaveGreatest n most
    → length u ≤ suc most
    → IsGreatest n a b g
    → IsPositiveWord a
    → IsPositiveWord b
    → EquivalentOn n (generator i ∷ a) u
    → EquivalentOn n (generator i ∷ b) v
    → IsPositiveWord u
    → (e : List Letter)
    → IsPositiveWord e
    → Divides n e u
    → Divides n e v
    → Divides n e (generator i ∷ g)
common_divides {n} {i} {most} {u} {v} {a} {b} {g} have few greatest positive_a positive_b first second
    positive_u [] positive one two =
    Divides-nil (generator i ∷ g) (refl, greatest.positive)
    ((on_first first).0, Divides-on greatest.first)
common_divides {n} {i} {most} {u} {v} {a} {b} {g} have few greatest positive_a positive_b first second
    positive_u (x ∷ e) positive one two =
    let is = letter_positive x positive.0 in
    let in_u : Divides n (generator x.index ∷ e) u = subst (λ l. Divides n (l ∷ e) u) is one in
    let in_v : Divides n (generator x.index ∷ e) v = subst (λ l. Divides n (l ∷ e) v) is two in
    subst (λ l. Divides n (l ∷ e) (generator i ∷ g)) (sym is)
    (elim (cases_eq i x.index) [
      | inl same ↦
          let one_i : Divides n (generator i ∷ e) u =
          subst (λ k. Divides n (generator k ∷ e) u) (sym same) in_u in
          let two_i : Divides n (generator i ∷ e) v =
          subst (λ k. Divides n (generator k ∷ e) v) (sym same) in_v in
          subst (λ k. Divides n (generator k ∷ e) (generator i ∷ g)) same
          (common_same greatest first second positive.1 one_i two_i)
      | inr other ↦
          common_other have few other greatest positive_a positive_b first second positive_u positive.1 in_u
          in_v
    ])

-- a letter that divides both words is taken out
greatest_letter
    : {n i most : ℕ} {u v : List Letter}
    → HaveGreatest n most
    → length u ≤ suc most
    → IsPositiveWord u
    → IsPositiveWord v
    → IsShared n u v i
    → (g : List Letter) × IsGreatest n u v g
greatest_letter {n} {i} {most} {u} {v} have few positive_u positive_v shared =
    let a = shared.first.rest in
    let b = shared.second.rest in
    let size = length-equivalent shared.first.product (refl, shared.first.positive) positive_u in
    let (g, greatest) = have a b (omega (arith, size, few)) (Divides-on_rest shared.first)
    (Divides-on_rest shared.second) shared.first.positive shared.second.positive in
    let on = Divides-on shared.first in (
      generator i ∷ g,
      record {
        positive = (refl, greatest.positive);
        first = Divides-last (Divides-after (generator i ∷ []) g a on greatest.first) shared.first.product;
        second = Divides-last (Divides-after (generator i ∷ []) g b on greatest.second) shared.second.product;
        greatest = common_divides have few greatest shared.first.positive shared.second.positive
            shared.first.product shared.second.product positive_u;
      },
    )

-- two positive words have a greatest common divisor, by induction on the length of the first
greatest_within : (n most : ℕ) → HaveGreatest n most
greatest_within n zero [] v few on_u on_v positive_u positive_v = (
  [],
  greatest_none on_u on_v positive_u positive_v
      (λ i one two. letter_not i one),
)
greatest_within n zero (c ∷ u) v few on_u on_v positive_u positive_v = absurd (omega (arith, few))
greatest_within n (suc most) u v few on_u on_v positive_u positive_v =
    elim (shared_or on_u on_v positive_u positive_v) [
      | inl some ↦
          let (i, shared) = some in greatest_letter (greatest_within n most) few positive_u positive_v shared
      | inr none ↦ ([], greatest_none on_u on_v positive_u positive_v none)
    ]

-- so it does, whatever the length
pub greatest_exists
    : {n : ℕ} {u v : List Letter}
    → IsOn n u
    → IsOn n v
    → IsPositiveWord u
    → IsPositiveWord v
    → (g : List Letter) × IsGreatest n u v g
greatest_exists {n} {u} {v} on_u on_v positive_u positive_v =
    greatest_within n (length u) u v (omega arith) on_u on_v positive_u positive_v

-- ---- How one is recognized ----

-- what is left of a common divisor of two words divides what it leaves of both
left_divides
    : {n : ℕ} (g : List Letter) {u a h r : List Letter}
    → EquivalentOn n (g ++ a) u
    → (whole : Divides n r u)
    → EquivalentOn n (g ++ h) r
    → Divides n h a
left_divides {n} g {u} {a} {h} {r} first whole chain =
    Divides-cancel g h a
    (Divides-first chain (Divides-last whole (EquivalentOn-sym first)))

-- a common divisor is the greatest where what it leaves of the two words shares no letter
pub greatest_from
    : {n : ℕ} {u v g a b : List Letter}
    → IsPositiveWord g
    → IsPositiveWord a
    → IsPositiveWord b
    → IsPositiveWord u
    → IsPositiveWord v
    → EquivalentOn n (g ++ a) u
    → EquivalentOn n (g ++ b) v
    → SharesNone n a b
    → IsGreatest n u v g
greatest_from {n} {u} {v} {g} {a} {b} positive positive_a positive_b positive_u positive_v first second none =
    let in_u : Divides n g u = record { rest = a; positive = positive_a; product = first } in
    let in_v : Divides n g v = record { rest = b; positive = positive_b; product = second } in
    let (most, greatest) = greatest_exists (on_last first) (on_last second) positive_u positive_v in
    let within = greatest.greatest g positive in_u in_v in
    let empty = shared_nil none within.rest within.positive
    (left_divides g first greatest.first within.product)
    (left_divides g second greatest.second within.product) in
    let same : EquivalentOn n g most = rw (empty, append-nil g) at within.product in
    record {
      positive = positive;
      first = in_u;
      second = in_v;
      greatest = λ e positive_e one two.
          Divides-last (greatest.greatest e positive_e one two) (EquivalentOn-sym same);
    }

-- ---- Up to equivalence there is but one ----

-- two positive words that divide each other are equivalent
Divides-both
    : {n : ℕ} {a b : List Letter}
    → IsPositiveWord a
    → IsPositiveWord b
    → Divides n a b
    → Divides n b a
    → EquivalentOn n a b
Divides-both {n} {a} {b} positive_a positive_b first second =
    let one = length-equivalent first.product (positive_append a first.rest positive_a first.positive)
    positive_b in
    let two = length-equivalent second.product (positive_append b second.rest positive_b second.positive)
    positive_a in
    let none = nil_from_length first.rest
    (omega (arith, one, two, length-append a first.rest, length-append b second.rest)) in
    rw (none, append-nil a) at first.product

-- two greatest common divisors of two words are equivalent
pub IsGreatest-unique
    : {n : ℕ} {u v g h : List Letter}
    → IsGreatest n u v g
    → IsGreatest n u v h
    → EquivalentOn n g h
IsGreatest-unique first second =
    Divides-both first.positive second.positive
    (second.greatest _ first.positive first.first first.second)
    (first.greatest _ second.positive second.first second.second)

-- it is one for equivalent words
pub IsGreatest-equivalent
    : {n : ℕ} {u v s t g : List Letter}
    → EquivalentOn n u s
    → EquivalentOn n v t
    → IsGreatest n u v g
    → IsGreatest n s t g
IsGreatest-equivalent first second greatest = record {
  positive = greatest.positive;
  first = Divides-last greatest.first first;
  second = Divides-last greatest.second second;
  greatest = λ e positive one two.
      greatest.greatest e positive (Divides-last one (EquivalentOn-sym first))
      (Divides-last two (EquivalentOn-sym second));
}
