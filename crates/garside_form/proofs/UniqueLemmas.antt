-- At most one normal form of a braid.
--
-- Equivalent words give one sequence of orders, and the orders give the power and the factors back
-- (`IsNormal-unique`).
use Rattle.std.proofs.Common.{ℕ, zero, suc, ◌≡◌, ◌+◌, ◌-◌, ◌≤◌, ◌∙◌, ℤ, pos, negsuc, List, [], ◌∷◌, ◌++◌, append_assoc, reverse, refl, sym, ap, subst, arith}
use Rattle.braid_word.specs.Words.{Letter, inverse, IsOn}
use Rattle.braid_word.specs.Equivalence.{EquivalentOn, stay}
use Rattle.braid_word.proofs.WordLemmas.{on_append, on_inverse}
use Rattle.braid_word.proofs.EquivalenceLemmas.{on_first, on_last, EquivalentOn-sym, EquivalentOn-trans, EquivalentOn-after, EquivalentOn-drop_right}
use Rattle.perm_braid.specs.Arrangements.{identity, IsOrder}
use Rattle.perm_braid.specs.SimpleWords.{delta_word}
use Rattle.perm_braid.proofs.PlaceLemmas.{IsOrder-identity}
use Rattle.perm_braid.proofs.SimpleWordLemmas.{word_unique}
use Rattle.garside_form.specs.NormalForms.{IsNormal, times, delta_power, IsProduct, empty, factor, IsSpelled, Form, IsFormOf}
use Rattle.garside_form.proofs.LevelLemmas.{IsOrder-reverse, IsSame, IsSame-trans, IsSame-sym}
use Rattle.garside_form.proofs.EquivalentLevelLemmas.{IsSame-equivalent}
use Rattle.garside_form.proofs.ComposedLemmas.{composed, IsOrder-composed, composed-identity, composed-injective, half_turn-from, reverse_differs}
use Rattle.garside_form.proofs.NaturalLevelLemmas.{path, turned_path, normal_first, normal_rest, IsOn-product, IsOn-delta, IsOn-times, levels-natural, negatives-product, negatives-natural, same_below}

-- ---- The orders give the factors back ----

-- the orders after factors give these back
path_unique
    : {n : ℕ} (ps qs : List (List ℕ)) {x : List ℕ}
    → IsNormal n ps
    → IsNormal n qs
    → IsOrder n x
    → IsSame (path x ps) (path x qs)
    → ps ≡ qs
path_unique [] [] one two order same = refl
path_unique {n} [] (q ∷ qs) {x} one two order same =
    let found = normal_first n q qs two in
    absurd (found.some (composed-injective order found.order (IsOrder-identity n)
    (sym (same 0) ∙ sym (composed-identity order))))
path_unique {n} (p ∷ ps) [] {x} one two order same =
    let found = normal_first n p ps one in
    absurd (found.some (composed-injective order found.order (IsOrder-identity n)
    (same 0 ∙ sym (composed-identity order))))
path_unique {n} (p ∷ ps) (q ∷ qs) {x} one two order same =
    let first = normal_first n p ps one in
    let second = normal_first n q qs two in
    let factors : p ≡ q = composed-injective order first.order second.order (same 0) in
    let rest : IsSame (path (composed x p) ps) (path (composed x p) qs) =
    subst (λ r. IsSame (path (composed x p) ps) (path (composed x r) qs)) (sym factors) (λ k. same (suc k)) in
    rw (
      factors,
      path_unique ps qs (normal_rest n p ps one) (normal_rest n q qs two)
          (IsOrder-composed order first.order) rest,
    ) refl

-- a path of factors doesn't begin with a half turn
pub path_begins
    : {n : ℕ} (ps : List (List ℕ)) {x : List ℕ}
    → 2 ≤ n
    → IsNormal n ps
    → IsOrder n x
    → path x ps 0 ≡ reverse x
    → ⊥
path_begins [] two normal order same = reverse_differs order two (sym same)
path_begins {n} (p ∷ ps) two normal order same =
    let first = normal_first n p ps normal in absurd (first.not_all (half_turn-from order first.order same))

-- the orders after half turns and factors give both back
turned_path_unique
    : {n : ℕ} (a b : ℕ) (ps qs : List (List ℕ)) {x : List ℕ}
    → 2 ≤ n
    → IsNormal n ps
    → IsNormal n qs
    → IsOrder n x
    → IsSame (turned_path a x ps) (turned_path b x qs)
    → (a ≡ b) × (ps ≡ qs)
turned_path_unique zero zero ps qs two one other order same = (refl, path_unique ps qs one other order same)
turned_path_unique zero (suc b) ps qs two one other order same =
    absurd (path_begins ps two one order (same 0))
turned_path_unique (suc a) zero ps qs two one other order same =
    absurd (path_begins qs two other order (sym (same 0)))
turned_path_unique (suc a) (suc b) ps qs two one other order same =
    let (powers, factors) =
    turned_path_unique a b ps qs two one other (IsOrder-reverse order) (λ k. same (suc k)) in
    (ap suc powers, factors)

-- ---- At most one normal form ----

-- so with powers of the half turn that are not negative
natural_unique
    : {n : ℕ} (a b : ℕ) {ps qs : List (List ℕ)} {u v : List Letter}
    → 2 ≤ n
    → IsNormal n ps
    → IsNormal n qs
    → IsProduct n ps u
    → IsProduct n qs v
    → EquivalentOn n (times a (delta_word n) ++ u) (times b (delta_word n) ++ v)
    → (a ≡ b) × (ps ≡ qs)
natural_unique {n} a b {ps} {qs} {u} {v} two one other first second chain =
    let x = identity n in
    let order = IsOrder-identity n in
    let (enough, alike) = IsSame-equivalent chain in
    let none_u = negatives-natural n a u (negatives-product first) in
    let none_v = negatives-natural n b v (negatives-product second) in
    let same = same_below (times a (delta_word n) ++ u) (times b (delta_word n) ++ v) enough none_u none_v
    (on_first chain) (on_last chain) order (alike enough x (omega arith) order) in
    turned_path_unique a b ps qs two one other order
    (IsSame-trans (IsSame-sym (levels-natural a one order first))
    (IsSame-trans same (levels-natural b other order second)))

-- The power d of the half turn, times m of them: it is 0 where m of them aren't enough.
abbrev pub raised : ℕ → ℤ → ℕ
raised m (pos a) = m + a
raised m (negsuc a) = m - suc a

-- How many half turns are enough.
abbrev pub enough_for : ℤ → ℕ
enough_for (pos a) = 0
enough_for (negsuc a) = suc a

-- powers of one word are added
pub times-add : (a b : ℕ) (w c : List Letter) → times (a + b) w ++ c ≡ times a w ++ (times b w ++ c)
times-add zero b w c = let e : 0 + b ≡ b = omega arith in rw e refl
times-add (suc a) b w c =
    let e : suc a + b ≡ suc (a + b) = omega arith in
    rw e (append_assoc w (times (a + b) w) c
    ∙ (ap (λ t. w ++ t) (times-add a b w c) ∙ sym (append_assoc w (times a w) (times b w ++ c))))

-- a power of one word and a power of its inverse
pub times_inverse
    : {n : ℕ} (a b : ℕ) (w c : List Letter)
    → b ≤ a
    → IsOn n w
    → IsOn n c
    → EquivalentOn n (times a w ++ (times b (inverse w) ++ c)) (times (a - b) w ++ c)
times_inverse {n} a zero w c fits on_w on_c = let e : a - 0 ≡ a =
    omega arith in rw e (stay (on_append n (times a w) c (IsOn-times n a w on_w) on_c))
times_inverse {n} zero (suc b) w c fits on_w on_c = absurd (omega arith)
times_inverse {n} (suc a) (suc b) w c fits on_w on_c =
    let back = on_inverse n w on_w in
    let on_rest = on_append n (times b (inverse w)) c (IsOn-times n b (inverse w) back) on_c in
    let e : suc a - suc b ≡ a - b = omega arith in
    let dropped = EquivalentOn-after (times a w) (IsOn-times n a w on_w)
    (EquivalentOn-drop_right n w (times b (inverse w) ++ c) on_w on_rest) in
    rw (e, times_more a w (times (suc b) (inverse w) ++ c), append_assoc (inverse w) (times b (inverse w)) c)
    (EquivalentOn-trans dropped (times_inverse a b w c (omega arith) on_w on_c))
  where
    times_more : (a : ℕ) (w c : List Letter) → times (suc a) w ++ c ≡ times a w ++ (w ++ c)
    times_more a w c =
        let e : suc a ≡ a + 1 = omega arith in
        let one : times 1 w ++ c ≡ w ++ c = append_assoc w [] c in
        ap (λ k. times k w ++ c) e ∙ (times-add a 1 w c ∙ ap (λ t. times a w ++ t) one)

-- half turns enough for a power of the half turn are added to it
delta_raised
    : {n : ℕ} (m : ℕ) (d : ℤ) (c : List Letter)
    → enough_for d ≤ m
    → IsOn n c
    → EquivalentOn n (times m (delta_word n) ++ (delta_power n d ++ c))
    (times (raised m d) (delta_word n) ++ c)
delta_raised {n} m (pos a) c enough on =
    rw (← times-add m a (delta_word n) c) (stay
    (on_append n (times (m + a) (delta_word n)) c (IsOn-times n (m + a) (delta_word n) (IsOn-delta n)) on))
delta_raised {n} m (negsuc a) c enough on = times_inverse m (suc a) (delta_word n) c enough (IsOn-delta n) on

-- a power is known from what it is raised to
raised_unique : (m : ℕ) (d e : ℤ) → enough_for d ≤ m → enough_for e ≤ m → raised m d ≡ raised m e → d ≡ e
raised_unique m (pos a) (pos b) one two same = ap pos (omega arith)
raised_unique m (pos a) (negsuc b) one two same = absurd (omega arith)
raised_unique m (negsuc a) (pos b) one two same = absurd (omega arith)
raised_unique m (negsuc a) (negsuc b) one two same = ap negsuc (omega arith)

-- on two strands or more, what is normal and spells equivalent words is one
pub IsNormal-unique
    : {n : ℕ} {d e : ℤ} {ps qs : List (List ℕ)} {u v : List Letter}
    → 2 ≤ n
    → IsNormal n ps
    → IsNormal n qs
    → IsSpelled n d ps u
    → IsSpelled n e qs v
    → EquivalentOn n u v
    → (d ≡ e) × (ps ≡ qs)
IsNormal-unique {n} {d} {e} {ps} {qs} {u} {v} two one other first second chain =
    let m = enough_for d + enough_for e in
    let opened : EquivalentOn n (delta_power n d ++ first.rest) (delta_power n e ++ second.rest) =
    rw (first.is, second.is) at chain in
    let longer =
    EquivalentOn-after (times m (delta_word n)) (IsOn-times n m (delta_word n) (IsOn-delta n)) opened in
    let left = delta_raised m d first.rest (omega arith) (IsOn-product first.product) in
    let right = delta_raised m e second.rest (omega arith) (IsOn-product second.product) in
    let (powers, factors) =
    natural_unique (raised m d) (raised m e) two one other first.product second.product
    (EquivalentOn-trans (EquivalentOn-sym left) (EquivalentOn-trans longer right)) in
    (raised_unique m d e (omega arith) (omega arith) powers, factors)

-- ---- One normal form spells one word ----

-- the word of factors is one
pub product_unique
    : {n : ℕ} {ps : List (List ℕ)} {u v : List Letter}
    → IsProduct n ps u
    → IsProduct n ps v
    → u ≡ v
product_unique empty empty = refl
product_unique (factor one first) (factor two second) =
    rw (word_unique one two, product_unique first second) refl

-- a power of the half turn is on n strands
IsOn-delta_power : (n : ℕ) (d : ℤ) → IsOn n (delta_power n d)
IsOn-delta_power n (pos d) = IsOn-times n d (delta_word n) (IsOn-delta n)
IsOn-delta_power n (negsuc d) =
    IsOn-times n (suc d) (inverse (delta_word n)) (on_inverse n (delta_word n) (IsOn-delta n))

-- what one power and one list of factors spell is equivalent
pub IsSpelled-equivalent
    : {n : ℕ} {d : ℤ} {ps : List (List ℕ)} {u v : List Letter}
    → IsSpelled n d ps u
    → IsSpelled n d ps v
    → EquivalentOn n u v
IsSpelled-equivalent {n} {d} {ps} {u} {v} first second =
    rw (first.is, second.is, product_unique first.product second.product)
    (stay (on_append n (delta_power n d) second.rest (IsOn-delta_power n d) (IsOn-product second.product)))

-- normal forms of two words on one number of strands are one exactly where the words are equivalent
pub IsFormOf-equivalent
    : (f g : Form) (u v : List Letter)
    → 2 ≤ f.strands
    → f.strands ≡ g.strands
    → IsFormOf f u
    → IsFormOf g v
    → (((f.delta ≡ g.delta) × (f.factors ≡ g.factors)) → EquivalentOn f.strands u v)
    × (EquivalentOn f.strands u v → (f.delta ≡ g.delta) × (f.factors ≡ g.factors))
IsFormOf-equivalent f g u v two same first second = (sound, complete)
  where
    normal : IsNormal f.strands g.factors
    normal = rw same second.normal

    spelled : IsSpelled f.strands g.delta g.factors second.word
    spelled = rw same second.spelled

    chain : EquivalentOn f.strands v second.word
    chain = rw same second.equivalent

    sound : (f.delta ≡ g.delta) × (f.factors ≡ g.factors) → EquivalentOn f.strands u v
    sound (powers, factors) =
        let again : IsSpelled f.strands f.delta f.factors second.word = rw (powers, factors) spelled in
        EquivalentOn-trans first.equivalent (EquivalentOn-trans (IsSpelled-equivalent first.spelled again)
        (EquivalentOn-sym chain))

    complete : EquivalentOn f.strands u v → (f.delta ≡ g.delta) × (f.factors ≡ g.factors)
    complete equal =
        IsNormal-unique two first.normal normal first.spelled spelled
        (EquivalentOn-trans (EquivalentOn-sym first.equivalent) (EquivalentOn-trans equal chain))
