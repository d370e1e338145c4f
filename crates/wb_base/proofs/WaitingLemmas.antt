-- Laws of the bytes that wait in a sink: each text that is put adds at most its length.
--
-- They go along with those laws of `StreamLemmas` that say what was taken.
use Rattle.std.proofs.Common.{◌≡◌, ℕ, ◌+◌, ◌<◌, ◌≤◌, List, ◌++◌, length, get_or, take, drop, Some, refl, ap, sym, arith}
use Rattle.std.proofs.lemmas.List.{length-append}
use Rattle.std.proofs.lemmas.Option.{slice_get_within, get_or_from_slice_get}
use Rattle.std.specs.List.{flat_map, slice_get}
use Rattle.wb_base.proofs.StreamLemmas.{flat_map-split, flat_map-take_more, flat_map-take_part, flat_map-split_part}

-- a front of a text was put
pub waits-stopped
    : (old new : ℕ) (text a b : List ℕ)
    → text ≡ a ++ b
    → new ≤ old + length a
    → new ≤ old + length text
waits-stopped old new text a b parts put = omega (arith, ap length parts, length-append a b, put)

-- two texts were put, one after the other
pub waits-more
    : (old mid new : ℕ) (text a b : List ℕ)
    → text ≡ a ++ b
    → mid ≤ old + length a
    → new ≤ mid + length b
    → new ≤ old + length text
waits-more old mid new text a b parts put more =
    omega (arith, ap length parts, length-append a b, put, more)

-- two texts were put, and others follow
pub waits-stopped_after
    : (old mid new : ℕ) (text a b rest : List ℕ)
    → text ≡ (a ++ b) ++ rest
    → mid ≤ old + length a
    → new ≤ mid + length b
    → new ≤ old + length text
waits-stopped_after old mid new text a b rest parts put more =
    waits-stopped old new text (a ++ b) rest parts
    (waits-more old mid new (a ++ b) a b refl put more)

-- a loop over a list stopped at one of its elements
pub waits-stopped_at
    : {X : Type 0} (old mid new : ℕ) (text_of : X → List ℕ) (xs : List X) (i : ℕ) (x : X)
    → i < length xs
    → x ≡ get_or xs i x
    → mid ≤ old + length (flat_map text_of (take i xs))
    → new ≤ mid + length (text_of x)
    → new ≤ old + length (flat_map text_of xs)
waits-stopped_at old mid new text_of xs i x within is put more =
    waits-stopped_after old mid new _ (flat_map text_of (take i xs)) (text_of x)
    (flat_map text_of (drop (i + 1) xs)) (flat_map-split text_of xs i x within is) put more

-- the same, where the element was looked up
pub waits-stopped_get
    : {X : Type 0} (old mid new : ℕ) (text_of : X → List ℕ) (xs : List X) (i : ℕ) (x : X)
    → slice_get xs i ≡ Some x
    → mid ≤ old + length (flat_map text_of (take i xs))
    → new ≤ mid + length (text_of x)
    → new ≤ old + length (flat_map text_of xs)
waits-stopped_get old mid new text_of xs i x found put more =
    waits-stopped_at old mid new text_of xs i x (slice_get_within xs i x found)
    (sym (get_or_from_slice_get xs i x x found)) put more

-- one element more of a list was put
pub waits-get
    : {X : Type 0} (old mid new : ℕ) (text_of : X → List ℕ) (xs : List X) (i : ℕ) (x : X)
    → slice_get xs i ≡ Some x
    → mid ≤ old + length (flat_map text_of (take i xs))
    → new ≤ mid + length (text_of x)
    → new ≤ old + length (flat_map text_of (take (i + 1) xs))
waits-get old mid new text_of xs i x found put more =
    waits-more old mid new _ (flat_map text_of (take i xs)) (text_of x)
    (flat_map-take_more text_of xs i x found) put more

-- a loop over a list, by parts, stopped at one of these
pub waits-stopped_part
    : {X : Type 0} (old mid new : ℕ) (text_of : X → List ℕ) (xs : List X) (k n : ℕ)
    → mid ≤ old + length (flat_map text_of (take k xs))
    → new ≤ mid + length (flat_map text_of (take n (drop k xs)))
    → new ≤ old + length (flat_map text_of xs)
waits-stopped_part old mid new text_of xs k n put more =
    waits-stopped_after old mid new _ (flat_map text_of (take k xs))
    (flat_map text_of (take n (drop k xs))) (flat_map text_of (drop (k + n) xs))
    (flat_map-split_part text_of xs k n) put more

-- one part more of a list was put
pub waits-part
    : {X : Type 0} (old mid new : ℕ) (text_of : X → List ℕ) (xs : List X) (k n : ℕ)
    → mid ≤ old + length (flat_map text_of (take k xs))
    → new ≤ mid + length (flat_map text_of (take n (drop k xs)))
    → new ≤ old + length (flat_map text_of (take (k + n) xs))
waits-part old mid new text_of xs k n put more =
    waits-more old mid new _ (flat_map text_of (take k xs)) (flat_map text_of (take n (drop k xs)))
    (flat_map-take_part text_of xs k n) put more
