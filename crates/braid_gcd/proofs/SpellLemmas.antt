-- Spelling of lists of simple braids and of half turns: the letters so far and what is left are the whole.
use Rattle.std.proofs.Common.{ℕ, suc, ◌≡◌, ◌+◌, ◌-◌, ◌<◌, ◌≤◌, ◌∙◌, List, [], ◌∷◌, ◌++◌, append_assoc, append-nil, length, map, reverse, sym, ap, subst, arith}
use Rattle.std.specs.List.{range_with_len}
use Rattle.braid_word.specs.Words.{Letter}
use Rattle.perm_braid.specs.Arrangements.{values_swapped, IsOrder, IsLeftDescent}
use Rattle.perm_braid.specs.SimpleWords.{generator, IsWordOf, nothing, least, rising_word, delta_word}
use Rattle.perm_braid.proofs.SimpleWordLemmas.{word_exists, word_unique, identity-from_rising}
use Rattle.garside_form.specs.NormalForms.{times, IsProduct, empty, factor}
use Rattle.garside_form.specs.FactorLists.{EachOrder}
use Rattle.garside_form.proofs.UniqueLemmas.{product_unique}
use Rattle.braid_gcd.proofs.PutInLemmas.{first_of}

-- ---- Parts of a whole ----

-- what was put behind the letters so far stood in front of what is left
moved_part
    : (g more part rest whole : List Letter)
    → more ≡ g ++ part
    → g ++ (part ++ rest) ≡ whole
    → more ++ rest ≡ whole
moved_part g more part rest whole grown same = rw grown (append_assoc g part rest ∙ same)

-- ---- Simple braids ----

-- the word of a simple braid is one
pub simple_begins
    : (n : ℕ) (g w v : List Letter) (a : List ℕ)
    → IsWordOf n a w
    → IsWordOf n a v
    → g ++ v ≡ g ++ w
simple_begins n g w v a one two = ap (λ t. g ++ t) (word_unique two one)

-- one letter, at the least left descent
pub simple_step
    : (n : ℕ) (g more v whole : List Letter) (p now : List ℕ) (i : ℕ)
    → 1 ≤ i
    → i < n
    → IsLeftDescent p i
    → ((j : ℕ) → 1 ≤ j → j < i → IsLeftDescent p j → ⊥)
    → more ≡ g ++ generator i ∷ []
    → now ≡ values_swapped i p
    → ((v : List Letter) → IsWordOf n p v → g ++ v ≡ whole)
    → IsWordOf n now v
    → more ++ v ≡ whole
simple_step n g more v whole p now i low high left first grown is before word =
    moved_part g more (generator i ∷ []) v whole grown
    (before (generator i ∷ v) (least i low high left first (subst (λ a. IsWordOf n a v) is word)))

-- where there is no left descent, nothing is left
pub simple_ends
    : (n : ℕ) (g whole : List Letter) (p : List ℕ)
    → IsOrder n p
    → ((j : ℕ) → 1 ≤ j → j < n → IsLeftDescent p j → ⊥)
    → ((v : List Letter) → IsWordOf n p v → g ++ v ≡ whole)
    → g ≡ whole
simple_ends n g whole p order none before =
    sym (append-nil g) ∙ before [] (nothing (identity-from_rising order none))

-- ---- Lists ----

-- the word of a list is one
pub list_begins
    : (n : ℕ) (g w v : List Letter) (ps : List (List ℕ))
    → IsProduct n ps w
    → IsProduct n ps v
    → g ++ v ≡ g ++ w
list_begins n g w v ps one two = ap (λ t. g ++ t) (product_unique two one)

-- the orders behind the first
pub list_rest
    : (n : ℕ) (list f : List (List ℕ)) (p : List ℕ)
    → list ≡ f ++ p ∷ []
    → EachOrder n (reverse list)
    → IsOrder n p × EachOrder n (reverse f)
list_rest n list f p is orders =
    let here : EachOrder n (p ∷ reverse f) = subst (λ l. EachOrder n l) (first_of list f p is) orders in
    (here.0, here.1)

-- the word of the first
pub list_step
    : (n : ℕ) (g more v whole : List Letter) (list f : List (List ℕ)) (p : List ℕ)
    → list ≡ f ++ p ∷ []
    → EachOrder n (reverse list)
    → ((w : List Letter) → IsWordOf (length p) p w → more ≡ g ++ w)
    → ((v : List Letter) → IsProduct n (reverse list) v → g ++ v ≡ whole)
    → IsProduct n (reverse f) v
    → more ++ v ≡ whole
list_step n g more v whole list f p is orders pushed before rest =
    let (order, behind) = list_rest n list f p is orders in
    let (x, word) = word_exists order in
    let at : IsWordOf (length p) p x = subst (λ k. IsWordOf k p x) (sym order.size) word in
    let product : IsProduct n (reverse list) (x ++ v) =
    subst (λ l. IsProduct n l (x ++ v)) (sym (first_of list f p is)) (factor word rest) in
    moved_part g more x v whole (pushed x at) (before (x ++ v) product)

-- where the list is empty, nothing is left
pub list_ends
    : (n : ℕ) (g whole : List Letter) (list : List (List ℕ))
    → list ≡ []
    → ((v : List Letter) → IsProduct n (reverse list) v → g ++ v ≡ whole)
    → g ≡ whole
list_ends n g whole list none before =
    let rest : reverse list ≡ [] = ap reverse none in
    sym (append-nil g) ∙ before [] (subst (λ l. IsProduct n l []) (sym rest) empty)

-- ---- Half turns ----

-- one generator of a rising word
pub rising_step
    : (g more whole : List Letter) (k i : ℕ)
    → i ≤ k
    → more ≡ g ++ generator i ∷ []
    → g ++ map generator (range_with_len i (k + 1 - i)) ≡ whole
    → more ++ map generator (range_with_len (i + 1) (k + 1 - (i + 1))) ≡ whole
rising_step g more whole k i most grown same =
    let e : k + 1 - i ≡ suc (k + 1 - (i + 1)) = omega (arith, most) in
    moved_part g more (generator i ∷ []) (map generator (range_with_len (i + 1) (k + 1 - (i + 1))))
    whole grown (rw e at same)

-- one rising word of a half turn
pub delta_step
    : (g more whole : List Letter) (k : ℕ)
    → 0 < k
    → more ≡ g ++ rising_word (k - 1)
    → g ++ delta_word k ≡ whole
    → more ++ delta_word (k - 1) ≡ whole
delta_step g more whole k some grown same =
    let e : k ≡ suc (k - 1) = omega (arith, some) in
    let before : g ++ delta_word (suc (k - 1)) ≡ whole = subst (λ m. g ++ delta_word m ≡ whole) e same in
    moved_part g more (rising_word (k - 1)) (delta_word (k - 1)) whole grown before

-- one half turn of more
pub turns_step
    : (g more whole d : List Letter) (k i : ℕ)
    → i < k
    → more ≡ g ++ d
    → g ++ times (k - i) d ≡ whole
    → more ++ times (k - (i + 1)) d ≡ whole
turns_step g more whole d k i less grown same =
    let e : k - i ≡ suc (k - (i + 1)) = omega (arith, less) in
    moved_part g more d (times (k - (i + 1)) d) whole grown (rw e at same)
