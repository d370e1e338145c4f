-- The greedy list and the word of the normal form of a positive word.
use Rattle.std.proofs.Common.{ℕ, zero, suc, ◌≡◌, ◌+◌, ◌-◌, ◌<◌, ◌≤◌, ◌∙◌, ℤ, pos, List, [], ◌∷◌, ◌++◌, Some, append_assoc, drop, get_or, replicate, reverse, sym, ap, subst, arith}
use Rattle.std.proofs.lemmas.List.{drop_more}
use Rattle.std.proofs.lemmas.Option.{slice_get_within, get_or_from_slice_get}
use Rattle.std.specs.List.{slice_get}
use Rattle.std.specs.Prelude.{unsigned_abs}
use Rattle.braid_word.specs.Words.{Letter, IsPositiveWord}
use Rattle.braid_word.specs.Equivalence.{EquivalentOn, stay}
use Rattle.braid_word.proofs.EquivalenceLemmas.{EquivalentOn-trans, EquivalentOn-sym, EquivalentOn-after}
use Rattle.perm_braid.specs.Arrangements.{half_turn}
use Rattle.perm_braid.specs.SimpleWords.{delta_word}
use Rattle.perm_braid.specs.GreedyPairs.{IsGreedy}
use Rattle.perm_braid.proofs.PlaceLemmas.{IsOrder-half_turn, entry-half_turn}
use Rattle.garside_form.specs.NormalForms.{IsNormal, times, IsProduct, IsSpelled, Form, IsFormOf}
use Rattle.garside_form.specs.FactorLists.{EachOrder, AreGreedy}
use Rattle.garside_form.proofs.NaturalLevelLemmas.{normal_orders, normal_greedy, IsOn-product, IsOn-delta}
use Rattle.garside_form.proofs.UniqueLemmas.{product_unique}
use Rattle.garside_form.proofs.FactorLemmas.{product_exists, product_half_turn}
use Rattle.braid_gcd.specs.Rounds.{IsListOf, IsSpelledWord}
use Rattle.braid_gcd.proofs.FirstFactorLemmas.{IsFormOf-positive}
use Rattle.braid_gcd.proofs.PutInLemmas.{first_of}

-- ---- Half turns in front ----

-- the half turn takes over all of what follows it
half_turn_greedy : (n : ℕ) (q : List ℕ) → IsGreedy n (half_turn n) q
half_turn_greedy n q i low high left =
    let here = entry-half_turn n i low (omega arith) in
    let next = entry-half_turn n (i + 1) (omega arith) (omega arith) in
    omega (arith, here, next, high)

-- half turns in front of orders
turned_orders
    : (n a : ℕ) (ps : List (List ℕ))
    → EachOrder n ps
    → EachOrder n (replicate a (half_turn n) ++ ps)
turned_orders n zero ps orders = orders
turned_orders n (suc a) ps orders = (IsOrder-half_turn n, turned_orders n a ps orders)

-- one half turn more in front of a greedy list
turned_once : (n : ℕ) (ps : List (List ℕ)) → AreGreedy n ps → AreGreedy n (half_turn n ∷ ps)
turned_once n [] greedy = tt
turned_once n (p ∷ ps) greedy = (half_turn_greedy n p, greedy)

-- so many
turned_greedy
    : (n a : ℕ) (ps : List (List ℕ))
    → AreGreedy n ps
    → AreGreedy n (replicate a (half_turn n) ++ ps)
turned_greedy n zero ps greedy = greedy
turned_greedy n (suc a) ps greedy =
    turned_once n (replicate a (half_turn n) ++ ps) (turned_greedy n a ps greedy)

-- the word of half turns in front of a list
turned_word
    : (n a : ℕ) (ps : List (List ℕ)) (w r : List Letter)
    → EachOrder n ps
    → IsProduct n ps r
    → IsProduct n (replicate a (half_turn n) ++ ps) w
    → EquivalentOn n w (times a (delta_word n) ++ r)
turned_word n zero ps w r orders rest product =
    rw (product_unique product rest) (stay (IsOn-product rest))
turned_word n (suc a) ps w r orders rest product =
    let (v, behind) = product_exists n (replicate a (half_turn n) ++ ps) (turned_orders n a ps orders) in
    let first = product_half_turn n (replicate a (half_turn n) ++ ps) product behind in
    rw (append_assoc (delta_word n) (times a (delta_word n)) r)
    (EquivalentOn-trans first (EquivalentOn-after (delta_word n) (IsOn-delta n)
    (turned_word n a ps v r orders rest behind)))

-- ---- Normal forms of positive words ----

-- the size of a power that isn't negative
power_size : (d : ℤ) (a t : ℕ) → d ≡ pos a → t ≡ unsigned_abs d → t ≡ a
power_size d a t is size = size ∙ ap unsigned_abs is

-- half turns and factors of a normal form, as a greedy list
list_made
    : (n a : ℕ) (u w : List Letter) (ps : List (List ℕ))
    → IsNormal n ps
    → IsSpelled n (pos a) ps w
    → EquivalentOn n u w
    → IsListOf n u (replicate a (half_turn n) ++ ps)
list_made n a u w ps normal spelled equivalent =
    let orders = normal_orders n ps normal in
    let chain : EquivalentOn n u (times a (delta_word n) ++ spelled.rest) = rw spelled.is at equivalent in
    record {
      orders = turned_orders n a ps orders;
      greedy = turned_greedy n a ps (normal_greedy n ps normal);
      word = λ x product.
          EquivalentOn-trans chain
          (EquivalentOn-sym (turned_word n a ps x spelled.rest orders spelled.product product));
    }

-- the parts of the normal form of a positive word on n strands
pub record IsParted (n : ℕ) (u : List Letter) (t : ℕ) (ps : List (List ℕ)) : Type 0 where
  pub normal : IsNormal n ps
  pub word : List Letter
  pub spelled : IsSpelled n (pos t) ps word
  pub equivalent : EquivalentOn n u word

-- it has such parts
parted
    : (f : Form) (n t : ℕ) (u : List Letter)
    → f.strands ≡ n
    → 2 ≤ n
    → IsPositiveWord u
    → IsFormOf f u
    → t ≡ unsigned_abs f.delta
    → IsParted n u t f.factors
parted f n t u same two positive is size =
    let (a, power) = IsFormOf-positive f u (omega (arith, same, two)) positive is in
    let turns : f.delta ≡ pos t = power ∙ ap pos (sym (power_size f.delta a t power size)) in
    record {
      normal = subst (λ k. IsNormal k f.factors) same is.normal;
      word = is.word;
      spelled = subst (λ d. IsSpelled n d f.factors is.word) turns
          (subst (λ k. IsSpelled k f.delta f.factors is.word) same is.spelled);
      equivalent = subst (λ k. EquivalentOn k u is.word) same is.equivalent;
    }

-- the list that is made of the normal form of a positive word
pub list_of_form
    : (f : Form) (n t : ℕ) (u : List Letter) (ps qs : List (List ℕ))
    → f.strands ≡ n
    → 2 ≤ n
    → IsPositiveWord u
    → IsFormOf f u
    → t ≡ unsigned_abs f.delta
    → ps ≡ f.factors
    → qs ≡ replicate t (half_turn n) ++ ps
    → IsListOf n u qs
list_of_form f n t u ps qs same two positive is size factors list =
    let parts = parted f n t u same two positive is size in
    rw (list, factors) (list_made n t u parts.word f.factors parts.normal parts.spelled parts.equivalent)

-- the word that is spelled of it
pub word_of_form
    : (f : Form) (n t : ℕ) (u none turns word : List Letter) (ps : List (List ℕ))
    → f.strands ≡ n
    → 2 ≤ n
    → IsPositiveWord u
    → IsFormOf f u
    → t ≡ unsigned_abs f.delta
    → ps ≡ f.factors
    → none ≡ []
    → turns ≡ none ++ times t (delta_word n)
    → ((m : ℕ) → (r : List Letter) → EachOrder m ps → IsProduct m ps r → word ≡ turns ++ r)
    → IsSpelledWord n u word
word_of_form f n t u none turns word ps same two positive is size factors empty first second =
    let parts = parted f n t u same two positive is size in
    let orders : EachOrder n ps = rw factors (normal_orders n f.factors parts.normal) in
    let product : IsProduct n ps parts.spelled.rest = rw factors parts.spelled.product in
    let begins : turns ≡ times t (delta_word n) = first ∙ ap (λ l. l ++ times t (delta_word n)) empty in
    let spelled : word ≡ parts.word =
    second n parts.spelled.rest orders product
    ∙ (ap (λ l. l ++ parts.spelled.rest) begins ∙ sym parts.spelled.is) in
    rw spelled (record {
      normal = record { power = t; factors = f.factors; normal = parts.normal; spelled = parts.spelled };
      equivalent = parts.equivalent;
    })

-- ---- The factors of a form ----

-- one factor more, from the end
pub factors_step
    : (list more factors : List (List ℕ)) (x y : List ℕ) (k : ℕ)
    → 0 < k
    → reverse list ≡ drop k factors
    → slice_get factors (k - 1) ≡ Some x
    → y ≡ x
    → more ≡ list ++ y ∷ []
    → reverse more ≡ drop (k - 1) factors
factors_step list more factors x y k some before here is grown =
    let e : k - 1 + 1 ≡ k = omega (arith, some) in
    let next : drop (k - 1) factors ≡ get_or factors (k - 1) x ∷ drop (k - 1 + 1) factors =
    drop_more factors (k - 1) x (slice_get_within factors (k - 1) x here) in
    let at : drop (k - 1) factors ≡ x ∷ drop k factors =
    rw (get_or_from_slice_get factors (k - 1) x x here, e) at next in
    first_of more list y grown ∙ (ap (λ z. z ∷ reverse list) is ∙ (ap (λ l. x ∷ l) before ∙ sym at))
