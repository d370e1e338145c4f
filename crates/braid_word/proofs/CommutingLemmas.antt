-- Commuting and braiding, in all signs.
--
-- Letters whose indices are 2 or more apart commute, whatever their signs, and a letter commutes
-- with a word of such letters (`EquivalentOn-pass_far`). For neighbouring indices i and j and any
-- signs, s_i^e s_j^d s_i^-e and s_j^-e s_i^d s_j^e are equivalent (`EquivalentOn-turn`).
use Rattle.std.proofs.Common.{ℕ, ◌≡◌, ◌⊎◌, inl, inr, ◌+◌, ◌≤◌, Bool, true, false, not, List, [], ◌∷◌, ◌++◌, append_assoc, arith}
use Rattle.braid_word.specs.Words.{Letter, letter, inverse, EachLetter, IsOn}
use Rattle.braid_word.specs.Equivalence.{commutation, braiding, EquivalentOn, stay}
use Rattle.braid_word.proofs.EquivalenceLemmas.{EquivalentOn-relation, EquivalentOn-sym, EquivalentOn-trans, EquivalentOn-before, EquivalentOn-after, EquivalentOn-solve_left, EquivalentOn-solve_right, EquivalentOn-inverse}

-- ---- Far letters ----

-- The indices of the two letters are 2 or more apart.
abbrev pub AreFar : Letter → Letter → Type 0
AreFar x y = (x.index + 2 ≤ y.index) ⊎ (y.index + 2 ≤ x.index)

-- what commutes with u commutes with its inverse
pub EquivalentOn-inverse_comm
    : {n : ℕ} (u v : List Letter)
    → EquivalentOn n (u ++ v) (v ++ u)
    → EquivalentOn n (inverse u ++ v) (v ++ inverse u)
EquivalentOn-inverse_comm u v comm =
    EquivalentOn-solve_right (inverse u ++ v) u
    (rw append_assoc (EquivalentOn-sym (EquivalentOn-solve_left u v comm)))

-- generators whose indices are 2 or more apart commute
swap_generators
    : (n i j : ℕ)
    → AreFar (letter i false) (letter j false)
    → IsOn n (letter i false ∷ letter j false ∷ [])
    → EquivalentOn n (letter i false ∷ letter j false ∷ []) (letter j false ∷ letter i false ∷ [])
swap_generators n i j (inl apart) on =
    EquivalentOn-relation n (commutation i j apart) on (on.1.0, (on.0, tt))
swap_generators n i j (inr apart) on =
    EquivalentOn-sym (EquivalentOn-relation n (commutation j i apart) (on.1.0, (on.0, tt)) on)

-- the same for either sign of the first
swap_sign
    : (n i j : ℕ) (e : Bool)
    → AreFar (letter i e) (letter j false)
    → IsOn n (letter i e ∷ letter j false ∷ [])
    → EquivalentOn n (letter i e ∷ letter j false ∷ []) (letter j false ∷ letter i e ∷ [])
swap_sign n i j false far on = swap_generators n i j far on
swap_sign n i j true far on =
    EquivalentOn-inverse_comm (letter i false ∷ []) (letter j false ∷ [])
    (swap_generators n i j far on)

-- the same for either sign of each
swap_signs
    : (n i j : ℕ) (e d : Bool)
    → AreFar (letter i e) (letter j d)
    → IsOn n (letter i e ∷ letter j d ∷ [])
    → EquivalentOn n (letter i e ∷ letter j d ∷ []) (letter j d ∷ letter i e ∷ [])
swap_signs n i j e false far on = swap_sign n i j e far on
swap_signs n i j e true far on =
    EquivalentOn-sym (EquivalentOn-inverse_comm (letter j false ∷ []) (letter i e ∷ [])
    (EquivalentOn-sym (swap_sign n i j e far on)))

-- letters whose indices are 2 or more apart commute
pub EquivalentOn-swap_far
    : (n : ℕ) (x y : Letter)
    → AreFar x y
    → IsOn n (x ∷ y ∷ [])
    → EquivalentOn n (x ∷ y ∷ []) (y ∷ x ∷ [])
EquivalentOn-swap_far n x y far on = swap_signs n x.index y.index x.negative y.negative far on

-- a letter passes a word of letters that are far from it
pub EquivalentOn-pass_far
    : (n : ℕ) (x : Letter) (w : List Letter)
    → EachLetter (AreFar x) w
    → IsOn n (x ∷ w)
    → EquivalentOn n (x ∷ w) (w ++ (x ∷ []))
EquivalentOn-pass_far n x [] far on = stay on
EquivalentOn-pass_far n x (y ∷ w) far on =
    EquivalentOn-trans
    (EquivalentOn-before w on.1.1 (EquivalentOn-swap_far n x y far.0 (on.0, (on.1.0, tt))))
    (EquivalentOn-after (y ∷ []) (on.1.0, tt) (EquivalentOn-pass_far n x w far.1 (on.0, on.1.1)))

-- ---- Neighbouring letters ----

-- One of the two indices is the other and 1.
abbrev pub AreNear : ℕ → ℕ → Type 0
AreNear i j = (j ≡ i + 1) ⊎ (i ≡ j + 1)

-- neighbours stay so in the other order
near_sym : (i j : ℕ) → AreNear i j → AreNear j i
near_sym i j (inl next) = inr next
near_sym i j (inr next) = inl next

-- the braid relation, for either order of the two indices
braid_generators
    : (n i j : ℕ)
    → AreNear i j
    → IsOn n (letter i false ∷ letter j false ∷ [])
    → EquivalentOn n (letter i false ∷ letter j false ∷ letter i false ∷ [])
    (letter j false ∷ letter i false ∷ letter j false ∷ [])
braid_generators n i j (inl next) on =
    rw next (EquivalentOn-relation n (braiding i) (omega arith) (omega arith))
braid_generators n i j (inr next) on =
    rw next (EquivalentOn-sym (EquivalentOn-relation n (braiding j) (omega arith) (omega arith)))

-- the braid relation, for letters of one sign
pub EquivalentOn-braid
    : (n i j : ℕ) (e : Bool)
    → AreNear i j
    → IsOn n (letter i e ∷ letter j e ∷ [])
    → EquivalentOn n (letter i e ∷ letter j e ∷ letter i e ∷ [])
    (letter j e ∷ letter i e ∷ letter j e ∷ [])
EquivalentOn-braid n i j false near on = braid_generators n i j near on
EquivalentOn-braid n i j true near on = EquivalentOn-inverse (braid_generators n i j near on)

-- s_i s_j s_i^-1 is s_j^-1 s_i s_j
turn_generators
    : (n i j : ℕ)
    → AreNear i j
    → IsOn n (letter i false ∷ letter j false ∷ [])
    → EquivalentOn n (letter i false ∷ letter j false ∷ letter i true ∷ [])
    (letter j true ∷ letter i false ∷ letter j false ∷ [])
turn_generators n i j near on =
    EquivalentOn-sym (EquivalentOn-solve_right
    (letter j true ∷ letter i false ∷ letter j false ∷ []) (letter i false ∷ [])
    (EquivalentOn-sym (EquivalentOn-solve_left (letter j false ∷ [])
    (letter i false ∷ letter j false ∷ [])
    (EquivalentOn-sym (braid_generators n i j near on)))))

-- s_i s_j^d s_i^-1 is s_j^-1 s_i^d s_j: inverting turns d
turn_sign
    : (n i j : ℕ) (d : Bool)
    → AreNear i j
    → IsOn n (letter i false ∷ letter j d ∷ [])
    → EquivalentOn n (letter i false ∷ letter j d ∷ letter i true ∷ [])
    (letter j true ∷ letter i d ∷ letter j false ∷ [])
turn_sign n i j false near on = turn_generators n i j near on
turn_sign n i j true near on = EquivalentOn-inverse (turn_generators n i j near on)

-- s_i^e s_j^d s_i^-e is s_j^-e s_i^d s_j^e: exchanging i and j turns e
pub EquivalentOn-turn
    : (n i j : ℕ) (e d : Bool)
    → AreNear i j
    → IsOn n (letter i e ∷ letter j d ∷ [])
    → EquivalentOn n (letter i e ∷ letter j d ∷ letter i (not e) ∷ [])
    (letter j (not e) ∷ letter i d ∷ letter j e ∷ [])
EquivalentOn-turn n i j false d near on = turn_sign n i j d near on
EquivalentOn-turn n i j true d near on =
    EquivalentOn-sym (turn_sign n j i d (near_sym i j near) (on.1.0, (on.0, tt)))
