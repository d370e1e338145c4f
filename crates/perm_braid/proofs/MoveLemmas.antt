-- Moves between two simple braids keep orders and the product.
--
-- A move takes the letter s_i from the front of the second word and puts it at the end of the first
-- (`KeepsProduct-moves`).
use Rattle.std.proofs.Common.{ℕ, List, [], ◌∷◌, ◌++◌, append_assoc}
use Rattle.braid_word.specs.Equivalence.{EquivalentOn, stay}
use Rattle.braid_word.proofs.EquivalenceLemmas.{EquivalentOn-sym, EquivalentOn-trans, EquivalentOn-before, EquivalentOn-after}
use Rattle.braid_word.proofs.WordLemmas.{on_append}
use Rattle.perm_braid.specs.Arrangements.{IsOrder}
use Rattle.perm_braid.specs.SimpleWords.{generator}
use Rattle.perm_braid.specs.GreedyPairs.{IsGreedy, IsMove, Moves, done, move, KeepsProduct}
use Rattle.perm_braid.proofs.SwapLemmas.{IsOrder-swapped, IsOrder-values_swapped}
use Rattle.perm_braid.proofs.SimpleWordLemmas.{word_exists, word_unique, IsOn-word, IsWordOf-front, IsWordOf-end}

-- moves keep the first an order
pub IsOrder-moves_first : {n : ℕ} {p q r s : List ℕ} → IsOrder n p → Moves n p q r s → IsOrder n r
IsOrder-moves_first order done = order
IsOrder-moves_first order (move i is rest) = IsOrder-moves_first (IsOrder-swapped order i is.low is.high) rest

-- and the second
pub IsOrder-moves_second : {n : ℕ} {p q r s : List ℕ} → IsOrder n q → Moves n p q r s → IsOrder n s
IsOrder-moves_second order done = order
IsOrder-moves_second order (move i is rest) =
    IsOrder-moves_second (IsOrder-values_swapped order i is.low is.high) rest

-- where there is a move, the pair isn't greedy
pub greedy_not : {n : ℕ} {p q : List ℕ} (i : ℕ) → IsMove n p q i → IsGreedy n p q → ⊥
greedy_not i is greedy = is.right (greedy i is.low is.high is.left)

-- moves keep the product
pub KeepsProduct-moves
    : {n : ℕ} {p q r s : List ℕ}
    → IsOrder n p
    → IsOrder n q
    → Moves n p q r s
    → KeepsProduct n p q r s
KeepsProduct-moves {n} one two done u v x y u_is v_is x_is y_is =
    rw (word_unique x_is u_is, word_unique y_is v_is)
    (stay (on_append n u v (IsOn-word u_is) (IsOn-word v_is)))
KeepsProduct-moves {n} {p} {q} one two (move i is rest) u v x y u_is v_is x_is y_is =
    let next_one = IsOrder-swapped one i is.low is.high in
    let next_two = IsOrder-values_swapped two i is.low is.high in
    let (t, t_is) = word_exists next_one in
    let (w, w_is) = word_exists next_two in
    let front = IsWordOf-front two i is.low is.high is.left v_is w_is in
    let end = IsWordOf-end one i is.low is.high is.right u_is t_is in
    let opened : EquivalentOn n (u ++ v) ((u ++ generator i ∷ []) ++ w) =
    rw append_assoc (EquivalentOn-after u (IsOn-word u_is) front) in
    let closed : EquivalentOn n ((u ++ generator i ∷ []) ++ w) (t ++ w) =
    EquivalentOn-before w (IsOn-word w_is) (EquivalentOn-sym end) in
    EquivalentOn-trans opened (EquivalentOn-trans closed
    (KeepsProduct-moves next_one next_two rest t w x y t_is w_is x_is y_is))
