-- Laws of what holds of each element of a list.
use Rattle.std.proofs.Common.{List, [], ◌∷◌, ◌++◌, map}
use Rattle.std.specs.List.{AllByRecursion}

-- of two lists in a row
pub all_append
    : {X : Type 0} (P : X → Type 0) (xs ys : List X)
    → AllByRecursion P xs
    → AllByRecursion P ys
    → AllByRecursion P (xs ++ ys)
all_append P [] ys first second = second
all_append P (x ∷ xs) ys first second = (first.0, all_append P xs ys first.1 second)

-- of what is weaker
pub all_weaker
    : {X : Type 0} (P Q : X → Type 0) (xs : List X)
    → ((x : X) → P x → Q x)
    → AllByRecursion P xs
    → AllByRecursion Q xs
all_weaker P Q [] weaker all = tt
all_weaker P Q (x ∷ xs) weaker all = (weaker x all.0, all_weaker P Q xs weaker all.1)

-- of what is made of each
pub all_map
    : {X Y : Type 0} (P : X → Type 0) (Q : Y → Type 0) (f : X → Y) (xs : List X)
    → ((x : X) → P x → Q (f x))
    → AllByRecursion P xs
    → AllByRecursion Q (map f xs)
all_map P Q f [] made all = tt
all_map P Q f (x ∷ xs) made all = (made x all.0, all_map P Q f xs made all.1)

-- of what two facts make of each
pub all_both
    : {X : Type 0} (P Q R : X → Type 0) (xs : List X)
    → ((x : X) → P x → Q x → R x)
    → AllByRecursion P xs
    → AllByRecursion Q xs
    → AllByRecursion R xs
all_both P Q R [] both first second = tt
all_both P Q R (x ∷ xs) both first second =
    (both x first.0 second.0, all_both P Q R xs both first.1 second.1)
