-- Laws of bytes that are told.
use Rattle.std.proofs.Common.{◌≡◌, ℕ, ◌+◌, ◌-◌, ◌<◌, ◌≤◌, List, [], ◌∷◌, ◌++◌, length, get_or, take, drop, Option, Some, None, Result, refl, ap, sym, ◌∙◌, append_assoc, arith}
use Rattle.std.proofs.lemmas.List.{append-nil, drop_more, take_more, length-append, length-take, length-drop, take-append-drop, take_rest, get_or-drop}
use Rattle.std.proofs.lemmas.Grind.{flat_map-append}
use Rattle.std.proofs.Math.Seq.{take-add}
use Rattle.std.proofs.lemmas.Option.{slice_get_within, get_or_from_slice_get, slice_get_read}
use Rattle.std.specs.List.{flat_map, slice_get}
use Rattle.std.proofs.lemmas.Result.{MatchResult-from_err, MatchResult-weaker}
use Rattle.std.specs.Result.{IsErr}
use Rattle.std.specs.Io.KnownBytes.{append_known, prepend_known}
use Rattle.wb_base.specs.Streams.{Puts, PutsFront, Skips}

-- nothing appended changes nothing
pub append_known-nil : (known : Option (List ℕ)) → append_known known [] ≡ known
append_known-nil None = refl
append_known-nil (Some xs) = ap Some (append-nil xs)

-- two texts appended one after the other
pub append_known-append
    : (known : Option (List ℕ)) (a b : List ℕ)
    → append_known (append_known known a) b ≡ append_known known (a ++ b)
append_known-append None a b = refl
append_known-append (Some xs) a b = ap Some (append_assoc xs a b)

-- two texts taken one after the other
pub prepend_known-append
    : (known : Option (List ℕ)) (a b : List ℕ)
    → prepend_known a (prepend_known b known) ≡ prepend_known (a ++ b) known
prepend_known-append None a b = refl
prepend_known-append (Some xs) a b = ap Some (sym (append_assoc a b xs))

-- no bytes taken change nothing
pub prepend_known-nil : (known : Option (List ℕ)) → prepend_known [] known ≡ known
prepend_known-nil None = refl
prepend_known-nil (Some xs) = refl

-- and so two texts taken are their sum
pub prepend_known-two
    : (old mid new : Option (List ℕ)) (a b : List ℕ)
    → old ≡ prepend_known a mid
    → mid ≡ prepend_known b new
    → old ≡ prepend_known (a ++ b) new
prepend_known-two old mid new a b first then =
    first ∙ ap (prepend_known a) then ∙ prepend_known-append new a b

-- n bytes more of a text of which k were given
pub took_more
    : (first now next : Option (List ℕ)) (text : List ℕ) (k n : ℕ)
    → now ≡ append_known first (take k text)
    → next ≡ append_known now (take n (take (length text - k) (drop k text)))
    → next ≡ append_known first (take (k + n) text)
took_more first now next text k n so_far given =
    rw (
      given,
      so_far,
      take_rest text k,
      append_known-append first (take k text) (take n (drop k text)),
      take-add k n text,
    ) refl

-- a part of a text that was given is a front of it
pub PutsFront-take
    : (old new : Option (List ℕ)) (text : List ℕ) (k : ℕ)
    → new ≡ append_known old (take k text)
    → PutsFront old new text
PutsFront-take old new text k given = (take k text, drop k text, sym (take-append-drop k text), given)

-- a text whose part was given before an error was put as far as that
pub Puts-take
    : {T E : Type 0} (old new : Option (List ℕ)) (result : Result T E) (text : List ℕ) (k : ℕ)
    → IsErr result
    → new ≡ append_known old (take k text)
    → Puts old new result text
Puts-take old new result text k failed given =
    MatchResult-from_err result _ _ failed (λ _. PutsFront-take old new text k given)

-- a part of the rest ends within the text
pub within_rest
    : (text : List ℕ) (k n : ℕ)
    → k ≤ length text
    → n ≤ length (take (length text - k) (drop k text))
    → k + n ≤ length text
within_rest text k n before part = omega (arith, rw take_rest at part, length-drop k text)

-- bytes taken after others were taken
pub Skips-more
    : (old mid new : Option (List ℕ)) (front into : List ℕ) (n most : ℕ)
    → old ≡ prepend_known front mid
    → mid ≡ prepend_known (take n into) new
    → length front + n ≤ most
    → (k : ℕ) × (k ≤ most) × Skips old new k
Skips-more old mid new front into n most first then bound = (
  length (front ++ take n into),
  omega (arith, length-append front (take n into), length-take n into),
  (
    front ++ take n into,
    refl,
    first ∙ ap (prepend_known front) then
        ∙ prepend_known-append new front (take n into),
  ),
)

-- the text of two calls, of which the first failed
pub Puts-stopped
    : {T E : Type 0} (old new : Option (List ℕ)) (result : Result T E) (text a b : List ℕ)
    → text ≡ a ++ b
    → IsErr result
    → PutsFront old new a
    → Puts old new result text
Puts-stopped old new result text a b parts failed (front, rest, cut, given) =
    MatchResult-from_err result _ _ failed
    (λ _. (front, rest ++ b, parts ∙ rw cut (append_assoc front rest b), given))

-- a front of a text that follows one that was put
PutsFront-more
    : (old mid new : Option (List ℕ)) (a b : List ℕ)
    → mid ≡ append_known old a
    → PutsFront mid new b
    → PutsFront old new (a ++ b)
PutsFront-more old mid new a b put (front, rest, text, given) = (
  a ++ front,
  rest,
  rw text (sym (append_assoc a front rest)),
  given ∙ ap (λ k. append_known k front) put ∙ append_known-append old a front,
)

-- the text of two calls, of which the first put its own
pub Puts-more
    : {T E : Type 0} (old mid new : Option (List ℕ)) (result : Result T E) (text a b : List ℕ)
    → text ≡ a ++ b
    → mid ≡ append_known old a
    → Puts mid new result b
    → Puts old new result text
Puts-more old mid new result text a b parts put rest =
    rw parts (MatchResult-weaker result rest
    (λ _ all. all ∙ ap (λ k. append_known k b) put ∙ append_known-append old a b)
    (λ _ front. PutsFront-more old mid new a b put front))

-- two texts that were put
pub append_known-two
    : (old mid new : Option (List ℕ)) (a b : List ℕ)
    → mid ≡ append_known old a
    → new ≡ append_known mid b
    → new ≡ append_known old (a ++ b)
append_known-two old mid new a b first second =
    second ∙ ap (λ known. append_known known b) first ∙ append_known-append old a b

-- a text of a list, cut before and behind one element
pub flat_map-split
    : {X : Type 0} (text_of : X → List ℕ) (xs : List X) (i : ℕ) (x : X)
    → i < length xs
    → x ≡ get_or xs i x
    → flat_map text_of xs ≡ (flat_map text_of (take i xs) ++ text_of x) ++ flat_map text_of (drop (i + 1) xs)
flat_map-split text_of xs i x within is =
    let cut : take i xs ++ (x ∷ drop (i + 1) xs) ≡ xs =
    ap (λ rest. take i xs ++ rest) (ap (λ y. y ∷ drop (i + 1) xs) is ∙ sym (drop_more xs i x within))
    ∙ take-append-drop i xs in
    ap (flat_map text_of) (sym cut) ∙ flat_map-append text_of (take i xs) (x ∷ drop (i + 1) xs)
    ∙ sym (append_assoc (flat_map text_of (take i xs)) (text_of x) _)

-- the text of a loop over a list that stopped at one of its elements
pub Puts-stopped_at
    : {X T E : Type 0} (old mid new : Option (List ℕ)) (result : Result T E) (text_of : X → List ℕ)
    (xs : List X) (i : ℕ) (x : X)
    → i < length xs
    → x ≡ get_or xs i x
    → IsErr result
    → mid ≡ append_known old (flat_map text_of (take i xs))
    → PutsFront mid new (text_of x)
    → Puts old new result (flat_map text_of xs)
Puts-stopped_at old mid new result text_of xs i x within is failed put front =
    Puts-stopped old new result _ (flat_map text_of (take i xs) ++ text_of x)
    (flat_map text_of (drop (i + 1) xs)) (flat_map-split text_of xs i x within is) failed
    (PutsFront-more old mid new _ _ put front)

-- the same, where the element was looked up
pub Puts-stopped_get
    : {X T E : Type 0} (old mid new : Option (List ℕ)) (result : Result T E) (text_of : X → List ℕ)
    (xs : List X) (i : ℕ) (x : X)
    → slice_get xs i ≡ Some x
    → IsErr result
    → mid ≡ append_known old (flat_map text_of (take i xs))
    → PutsFront mid new (text_of x)
    → Puts old new result (flat_map text_of xs)
Puts-stopped_get old mid new result text_of xs i x found failed put front =
    Puts-stopped_at old mid new result text_of xs i x (slice_get_within xs i x found)
    (sym (get_or_from_slice_get xs i x x found)) failed put front

-- the texts of the elements before a place and of the one there
pub flat_map-take_more
    : {X : Type 0} (text_of : X → List ℕ) (xs : List X) (i : ℕ) (x : X)
    → slice_get xs i ≡ Some x
    → flat_map text_of (take (i + 1) xs) ≡ flat_map text_of (take i xs) ++ text_of x
flat_map-take_more text_of xs i x found =
    let front : take (i + 1) xs ≡ take i xs ++ x ∷ []
    = take_more xs i x (slice_get_within xs i x found)
    ∙ ap (λ y. take i xs ++ y ∷ []) (get_or_from_slice_get xs i x x found) in
    ap (flat_map text_of) front
    ∙ flat_map-append text_of (take i xs) (x ∷ [])
    ∙ ap (λ rest. flat_map text_of (take i xs) ++ rest) (append-nil (text_of x))

-- the texts of one element more of a list
pub append_known-get
    : {X : Type 0} (old mid new : Option (List ℕ)) (text_of : X → List ℕ) (xs : List X) (i : ℕ) (x : X)
    → slice_get xs i ≡ Some x
    → mid ≡ append_known old (flat_map text_of (take i xs))
    → new ≡ append_known mid (text_of x)
    → new ≡ append_known old (flat_map text_of (take (i + 1) xs))
append_known-get old mid new text_of xs i x found put more =
    append_known-two old mid new _ _ put more
    ∙ ap (append_known old) (sym (flat_map-take_more text_of xs i x found))

-- ---- Several calls, one after the other ----

-- the text of several calls, of which one failed that isn't the first
pub Puts-stopped_after
    : {T E : Type 0} (old mid new : Option (List ℕ)) (result : Result T E) (text a b rest : List ℕ)
    → text ≡ (a ++ b) ++ rest
    → IsErr result
    → mid ≡ append_known old a
    → PutsFront mid new b
    → Puts old new result text
Puts-stopped_after old mid new result text a b rest parts failed put front =
    Puts-stopped old new result text (a ++ b) rest parts failed (PutsFront-more old mid new a b put front)

-- ---- A list in parts ----

-- the texts of a part of a list and of the element behind it
pub flat_map-part_more
    : {X : Type 0} (text_of : X → List ℕ) (xs : List X) (k n : ℕ) (x : X)
    → slice_get xs (k + n) ≡ Some x
    → flat_map text_of (take (n + 1) (drop k xs)) ≡ flat_map text_of (take n (drop k xs)) ++ text_of x
flat_map-part_more text_of xs k n x found =
    flat_map-take_more text_of (drop k xs) n x
    (slice_get_read (drop k xs) (length (drop k xs)) n x refl
    (omega (arith, length-drop k xs, slice_get_within xs (k + n) x found))
    (sym (get_or-drop k xs n x ∙ get_or_from_slice_get xs (k + n) x x found)))

-- the texts of the elements before a place, and of a part that begins there
pub flat_map-take_part
    : {X : Type 0} (text_of : X → List ℕ) (xs : List X) (k n : ℕ)
    → flat_map text_of (take (k + n) xs)
    ≡ flat_map text_of (take k xs) ++ flat_map text_of (take n (drop k xs))
flat_map-take_part text_of xs k n =
    ap (flat_map text_of) (take-add k n xs)
    ∙ flat_map-append text_of (take k xs) (take n (drop k xs))

-- a text of a list, cut before and behind a part
pub flat_map-split_part
    : {X : Type 0} (text_of : X → List ℕ) (xs : List X) (k n : ℕ)
    → flat_map text_of xs
    ≡ (flat_map text_of (take k xs) ++ flat_map text_of (take n (drop k xs)))
    ++ flat_map text_of (drop (k + n) xs)
flat_map-split_part text_of xs k n =
    ap (flat_map text_of) (sym (take-append-drop (k + n) xs))
    ∙ flat_map-append text_of (take (k + n) xs) (drop (k + n) xs)
    ∙ ap (λ front. front ++ flat_map text_of (drop (k + n) xs)) (flat_map-take_part text_of xs k n)

-- the text of a loop over a list, by parts, that stopped at one of these
pub Puts-stopped_part
    : {X T E : Type 0} (old mid new : Option (List ℕ)) (result : Result T E) (text_of : X → List ℕ)
    (xs : List X) (k n : ℕ)
    → IsErr result
    → mid ≡ append_known old (flat_map text_of (take k xs))
    → PutsFront mid new (flat_map text_of (take n (drop k xs)))
    → Puts old new result (flat_map text_of xs)
Puts-stopped_part old mid new result text_of xs k n failed put front =
    Puts-stopped_after old mid new result _ (flat_map text_of (take k xs))
    (flat_map text_of (take n (drop k xs))) (flat_map text_of (drop (k + n) xs))
    (flat_map-split_part text_of xs k n) failed put front

-- the texts of one part more of a list
pub append_known-part
    : {X : Type 0} (old mid new : Option (List ℕ)) (text_of : X → List ℕ) (xs : List X) (k n : ℕ)
    → mid ≡ append_known old (flat_map text_of (take k xs))
    → new ≡ append_known mid (flat_map text_of (take n (drop k xs)))
    → new ≡ append_known old (flat_map text_of (take (k + n) xs))
append_known-part old mid new text_of xs k n put more =
    append_known-two old mid new _ _ put more
    ∙ ap (append_known old) (sym (flat_map-take_part text_of xs k n))
