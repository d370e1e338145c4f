-- Letters taken in at the end of a list of simple braids, before half turns.
--
-- A letter passes the half turns, which turn its index where their number is odd. Then it is a simple braid
-- at the end of the list, or a simple braid and one inverse half turn more (`IsSpelledBy-letter`). A half
-- turn that comes out when the simple braid is taken in is counted (`IsSpelledBy-taken`). `read_next` is one
-- turn of the loop over the letters.
use Rattle.std.proofs.Common.{ℕ, zero, suc, ◌≡◌, ◌+◌, ◌<◌, ◌≤◌, ◌∙◌, Bool, true, false, not, List, [], ◌∷◌, ◌++◌, append_assoc, append-nil, length, take, drop, get_or, refl, sym, ap, subst, arith}
use mathlib.Core.Bool.{beq}
use Rattle.std.proofs.Math.Seq.{take-suc}
use Rattle.std.proofs.lemmas.List.{drop_more}
use Rattle.braid_word.specs.Words.{Letter, letter, inverse, IsOn}
use Rattle.braid_word.specs.Equivalence.{EquivalentOn, stay}
use Rattle.braid_word.proofs.EquivalenceLemmas.{EquivalentOn-sym, EquivalentOn-trans, EquivalentOn-before, EquivalentOn-after}
use Rattle.perm_braid.specs.Arrangements.{identity, half_turn, IsOrder, IsRightDescent, IsLeftDescent}
use Rattle.perm_braid.specs.SimpleWords.{delta_word, IsWordOf, nothing}
use Rattle.perm_braid.proofs.PlaceLemmas.{IsOrder-identity, IsOrder-half_turn, entry-identity, place_of-half_turn, length-identity}
use Rattle.perm_braid.proofs.SwapLemmas.{IsOrder-swapped, IsOrder-values_swapped}
use Rattle.perm_braid.proofs.SimpleWordLemmas.{word_exists, IsWordOf-end}
use Rattle.garside_form.specs.NormalForms.{times, empty, factor}
use Rattle.garside_form.specs.FactorLists.{EachOrder, AreGreedy, BeginsShort, KeepsFactors, IsReady, IsTakenIn, IsSpelledBy, half_turns, half_turn_if, is_odd, turned_index, letter_factor}
use Rattle.garside_form.proofs.NaturalLevelLemmas.{IsOn-product}
use Rattle.garside_form.proofs.UniqueLemmas.{product_unique}
use Rattle.garside_form.proofs.DeltaLemmas.{EquivalentOn-inverse_letter}
use Rattle.garside_form.proofs.FactorLemmas.{product_exists, product_split, product_append, product_half_turn}
use Rattle.garside_form.proofs.PassLemmas.{orders_append}
use Rattle.garside_form.proofs.TurnLemmas.{count_of, turned_within, parity_more, IsTurn, IsTurn-half_turns, half_turns_more, half_turns_fewer}

-- ---- Letters as simple braids ----

-- the simple braid of a letter is an order
pub IsOrder-letter_factor
    : (n i : ℕ) (b : Bool)
    → 1 ≤ i
    → i < n
    → IsOrder n (letter_factor n i b)
IsOrder-letter_factor n i true low high = IsOrder-values_swapped (IsOrder-half_turn n) i low high
IsOrder-letter_factor n i false low high = IsOrder-swapped (IsOrder-identity n) i low high

-- the identity has no right descent
pub identity_climbs : (n i : ℕ) → 1 ≤ i → i < n → IsRightDescent (identity n) i → ⊥
identity_climbs n i low high down =
    let here = entry-identity n i low (omega arith) in
    let next = entry-identity n (i + 1) (omega arith) (omega arith) in
    absurd (omega (arith, here, next, down))

-- each index is a left descent of the half turn
pub half_turn_falls : (n i : ℕ) → 1 ≤ i → i < n → IsLeftDescent (half_turn n) i
half_turn_falls n i low high =
    let here = place_of-half_turn n i low (omega arith) in
    let next = place_of-half_turn n (i + 1) (omega arith) (omega arith) in
    omega (arith, here, next)

-- what the half turn asks of a division
pub half_turn_fits
    : (n i : ℕ) (p : List ℕ)
    → p ≡ half_turn n
    → 1 ≤ i
    → i < n
    → (i < length p) × IsLeftDescent p i
half_turn_fits n i p is low high =
    let size = IsOrder-half_turn n in
    let all = size.size in
    rw is (omega (arith, all), half_turn_falls n i low high)

-- what the identity asks of a product
pub identity_fits
    : (n i : ℕ) (p : List ℕ)
    → p ≡ identity n
    → 1 ≤ i
    → i < n
    → (i < length p) × (IsRightDescent p i → ⊥)
identity_fits n i p is low high = let all =
    length-identity n in rw is (omega (arith, all), identity_climbs n i low high)

-- a letter is its simple braid, before one inverse half turn where it is an inverse
EquivalentOn-letter_factor
    : (n i : ℕ) (b : Bool) {u : List Letter}
    → 1 ≤ i
    → i < n
    → IsWordOf n (letter_factor n i b) u
    → EquivalentOn n (letter i b ∷ []) (u ++ times (count_of b) (inverse (delta_word n)))
EquivalentOn-letter_factor n i true {u} low high word =
    rw (append-nil (inverse (delta_word n))) (EquivalentOn-inverse_letter i low high word)
EquivalentOn-letter_factor n i false {u} low high word =
    rw (append-nil u)
    (EquivalentOn-sym
    (IsWordOf-end (IsOrder-identity n) i low high (identity_climbs n i low high) (nothing refl) word))

-- ---- One letter more ----

-- a letter is taken in behind the list, before the half turns
IsSpelledBy-letter
    : (n d m i : ℕ) (odd b : Bool) (w : List Letter) (ps : List (List ℕ))
    → 1 ≤ i
    → i < n
    → odd ≡ is_odd (d + m)
    → EachOrder n ps
    → IsSpelledBy n w ps d m
    → IsSpelledBy n (w ++ letter i b ∷ []) (ps ++ letter_factor n (turned_index n odd i) b ∷ []) d
    (m + count_of b)
IsSpelledBy-letter n d m i odd b w ps low high parity orders spelled x product =
    let j = turned_index n odd i in
    let (low_j, high_j) = turned_within n i odd low high in
    let c = letter i b in
    let t = half_turns n d m in
    let turn : IsTurn n odd t = subst (λ o. IsTurn n o t) (sym parity) (IsTurn-half_turns n d m) in
    let split = product_split n ps (letter_factor n j b ∷ []) x product in
    let u = split.u in
    let on_u = IsOn-product split.first in
    let (v, word) = word_exists (IsOrder-letter_factor n j b low_j high_j) in
    let last : split.v ≡ v ++ [] = product_unique split.second (factor word empty) in
    let back = times (count_of b) (inverse (delta_word n)) in
    let one : EquivalentOn n (w ++ c ∷ []) ((u ++ t) ++ c ∷ []) =
    EquivalentOn-before (c ∷ []) ((low, high), tt) (spelled u split.first) in
    let two : EquivalentOn n (u ++ (t ++ c ∷ [])) (u ++ letter j b ∷ t) =
    EquivalentOn-after u on_u (turn.passes i b low high) in
    let three : EquivalentOn n (u ++ (letter j b ∷ [] ++ t)) (u ++ ((v ++ back) ++ t)) =
    EquivalentOn-after u on_u
    (EquivalentOn-before t turn.on (EquivalentOn-letter_factor n j b low_j high_j word)) in
    let ends : u ++ ((v ++ back) ++ t) ≡ x ++ half_turns n d (m + count_of b) =
    ap (λ y. u ++ y) (append_assoc v back t ∙ ap (λ y. v ++ y) (half_turns_fewer n d m b))
    ∙ (sym (append_assoc u v (half_turns n d (m + count_of b)))
    ∙ ap (λ y. y ++ half_turns n d (m + count_of b))
    (ap (λ y. u ++ y) (sym (last ∙ append-nil v)) ∙ sym split.is)) in
    EquivalentOn-trans (subst (λ y. EquivalentOn n (w ++ c ∷ []) y) (append_assoc u t (c ∷ [])) one)
    (EquivalentOn-trans two (subst (λ y. EquivalentOn n (u ++ letter j b ∷ t) y) ends three))

-- what spells a word still does after moves, and a half turn that came out is counted
IsSpelledBy-taken
    : (n d m : ℕ) (turned : Bool) (w : List Letter) (ps qs : List (List ℕ))
    → EachOrder n ps
    → KeepsFactors n ps (qs ++ half_turn_if n turned)
    → IsSpelledBy n w ps d m
    → IsSpelledBy n w qs (d + count_of turned) m
IsSpelledBy-taken n d m false w ps qs orders keeps spelled v two =
    let (u, one) = product_exists n ps orders in
    let e : d + 0 ≡ d = omega arith in
    let same : qs ++ [] ≡ qs = append-nil qs in
    let whole : KeepsFactors n ps qs = subst (λ l. KeepsFactors n ps l) same keeps in
    rw e (EquivalentOn-trans (spelled u one)
    (EquivalentOn-before (half_turns n d m) (IsTurn-half_turns n d m).on (whole u v one two)))
IsSpelledBy-taken n d m true w ps qs orders keeps spelled v two =
    let (u, one) = product_exists n ps orders in
    let (x, turn) = product_exists n (half_turn n ∷ []) (IsOrder-half_turn n, tt) in
    let t = half_turns n d m in
    let on_t = (IsTurn-half_turns n d m).on in
    let e : d + 1 ≡ suc d = omega arith in
    let first : EquivalentOn n x (delta_word n) =
    rw (append-nil (delta_word n)) at (product_half_turn n [] turn empty) in
    let taken : EquivalentOn n (u ++ t) ((v ++ x) ++ t) =
    EquivalentOn-before t on_t (keeps u (v ++ x) one (product_append n qs (half_turn n ∷ []) v x two turn)) in
    let counted : EquivalentOn n (v ++ (x ++ t)) (v ++ half_turns n (suc d) m) =
    EquivalentOn-after v (IsOn-product two)
    (EquivalentOn-trans (EquivalentOn-before t on_t first) (half_turns_more n d m)) in
    rw e (EquivalentOn-trans (spelled u one)
    (EquivalentOn-trans (subst (λ y. EquivalentOn n (u ++ t) y) (append_assoc v x t) taken) counted))

-- what spells a word still does where the product is kept
pub IsSpelledBy-kept
    : (n d m : ℕ) (w : List Letter) (ps qs : List (List ℕ))
    → EachOrder n ps
    → KeepsFactors n ps qs
    → IsSpelledBy n w ps d m
    → IsSpelledBy n w qs d m
IsSpelledBy-kept n d m w ps qs orders keeps spelled v two =
    let (u, one) = product_exists n ps orders in
    EquivalentOn-trans (spelled u one)
    (EquivalentOn-before (half_turns n d m) (IsTurn-half_turns n d m).on (keeps u v one two))

-- ---- The loop over the letters ----

-- Where the loop stands: the word read so far, the list, the half turns behind it, and whether their number
-- is odd.
pub record IsRead (n : ℕ) (w : List Letter) (ps : List (List ℕ)) (d m : ℕ) (odd : Bool) : Type 0 where
  pub spelled : IsSpelledBy n w ps d m
  pub ready : IsReady n ps
  pub parity : odd ≡ is_odd (d + m)

-- at first nothing was read
pub read_begins
    : (n : ℕ) (word : List Letter) (ps : List (List ℕ))
    → ps ≡ []
    → IsRead n (take 0 word) ps 0 0 false
read_begins n word ps none = rw none (record {
  spelled = start;
  ready = record { orders = tt; greedy = tt; begins = tt; ends = tt };
  parity = refl;
})
  where
    start : IsSpelledBy n [] [] 0 0
    start _ empty = stay tt

-- a letter of a word on n strands is
pub letter_within
    : (n k : ℕ) (word : List Letter) (c d : Letter)
    → IsOn n word
    → k < length word
    → c ≡ get_or word k d
    → (1 ≤ c.index) × (c.index < n)
letter_within n k word c d on within is = (subst (λ w. IsOn n w) at (on_drop n k word on)).0
  where
    on_drop : (n k : ℕ) (w : List Letter) → IsOn n w → IsOn n (drop k w)
    on_drop n zero w on = on
    on_drop n (suc k) [] on = tt
    on_drop n (suc k) (x ∷ w) on = on_drop n k w on.1

    at : drop k word ≡ c ∷ drop (k + 1) word
    at = drop_more word k d within ∙ ap (λ x. x ∷ drop (k + 1) word) (sym is)

-- the word up to a place and the letter there
take_next
    : (k : ℕ) (word : List Letter) (c d : Letter)
    → k < length word
    → c ≡ get_or word k d
    → take (k + 1) word ≡ take k word ++ letter c.index c.negative ∷ []
take_next k word c d within is =
    let e : k + 1 ≡ suc k = omega arith in
    rw e (take-suc word k d within ∙ ap (λ x. take k word ++ x ∷ []) (sym is))

-- what taking in asks for
pub take_asks
    : (n k i : ℕ) (word : List Letter) (c e : Letter) (odd negative : Bool) (ps : List (List ℕ)) (p : List ℕ)
    → IsOn n word
    → k < length word
    → c ≡ get_or word k e
    → i ≡ turned_index n odd c.index
    → p ≡ letter_factor n i negative
    → IsReady n ps
    → IsReady (length p) ps × IsOrder (length p) p
take_asks n k i word c e odd negative ps p on within is index fac ready =
    let (low, high) = letter_within n k word c e on within is in
    let (low_i, high_i) = turned_within n c.index odd low high in
    let order : IsOrder n p =
    rw (fac, index) (IsOrder-letter_factor n (turned_index n odd c.index) negative low_i high_i) in
    rw order.size (ready, order)

-- one letter more was read
pub read_next
    : (n k d m r t i : ℕ) (word : List Letter) (c e : Letter) (odd negative turned : Bool)
    (ps taken qs : List (List ℕ)) (p : List ℕ)
    → IsOn n word
    → k < length word
    → c ≡ get_or word k e
    → c.negative ≡ negative
    → i ≡ turned_index n odd c.index
    → p ≡ letter_factor n i negative
    → IsRead n (take k word) ps d m odd
    → IsTakenIn (length p) (ps ++ p ∷ []) taken turned
    → ((l : ℕ) → EachOrder l taken → AreGreedy l taken → BeginsShort l taken → IsReady l qs)
    → ((l : ℕ) → EachOrder l taken → KeepsFactors l taken qs)
    → r ≡ count_of negative
    → t ≡ count_of turned
    → IsRead n (take (k + 1) word) qs (d + t) (m + r) (not (beq (not (beq odd negative)) turned))
read_next n k d m r t i word c e odd negative turned ps taken qs p on within is sign index fac read owed ready
    keeps inverses turns =
    let (low, high) = letter_within n k word c e on within is in
    let (low_i, high_i) = turned_within n c.index odd low high in
    let factor_is : p ≡ letter_factor n (turned_index n odd c.index) c.negative =
    fac ∙ (ap (λ b. letter_factor n i b) (sym sign) ∙ ap (λ l. letter_factor n l c.negative) index) in
    let order : IsOrder n p =
    rw factor_is (IsOrder-letter_factor n (turned_index n odd c.index) c.negative low_i high_i) in
    let here : IsTakenIn n (ps ++ p ∷ []) taken turned =
    subst (λ l. IsTakenIn l (ps ++ p ∷ []) taken turned) order.size owed in
    let count_m : r ≡ count_of c.negative = inverses ∙ ap count_of (sym sign) in
    let begun : IsSpelledBy n (take k word ++ letter c.index c.negative ∷ [])
    (ps ++ letter_factor n (turned_index n odd c.index) c.negative ∷ []) d (m + count_of c.negative) =
    IsSpelledBy-letter n d m c.index odd c.negative (take k word) ps low high read.parity read.ready.orders
    read.spelled in
    let first : IsSpelledBy n (take (k + 1) word) (ps ++ p ∷ []) d (m + r) =
    rw (take_next k word c e within is, factor_is, count_m) begun in
    let second : IsSpelledBy n (take (k + 1) word) taken (d + count_of turned) (m + r) =
    IsSpelledBy-taken n d (m + r) turned (take (k + 1) word) (ps ++ p ∷ []) taken
    (orders_append n ps (p ∷ []) read.ready.orders (order, tt)) here.keeps first in
    let sum : d + m + r + t ≡ (d + t) + (m + r) = omega arith in
    record {
      spelled = rw turns (IsSpelledBy-kept n (d + count_of turned) (m + r) (take (k + 1) word) taken qs
          here.orders
          (keeps n here.orders) second);
      ready = ready n here.orders here.greedy here.begins;
      parity = parity_more (d + m + r) t (not (beq odd negative)) turned
          (parity_more (d + m) r odd negative read.parity inverses) turns ∙ ap is_odd sum;
    }
