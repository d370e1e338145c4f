-- Laws of the bytes that a source in memory has left.
use Rattle.std.proofs.Common.{◌≡◌, ℕ, ◌+◌, ◌-◌, ◌<◌, ◌≤◌, min, List, [], ◌++◌, length, take, drop, Some, ap, sym, ◌∙◌, arith}
use Rattle.std.proofs.lemmas.List.{take-append-drop, take_rest, drop-drop, nil_from_length}

-- what a copy of a part of the bytes from a place on leaves, and when it copies nothing
pub takes_part
    : (left items given into : List ℕ) (at n piece : ℕ)
    → drop at items ≡ left
    → given ≡ items
    → n ≡ min piece (min (length (take (length given - at) (drop at given))) (length into))
    → take n into ≡ take n (take (length given - at) (drop at given))
    → 1 ≤ piece
    → (Some left ≡ Some (take n into ++ drop (at + n) items)) × (n ≡ 0 → 0 < length into → left ≡ [])
takes_part left items given into at n piece view same count copied some =
    let rest : take (length given - at) (drop at given) ≡ left =
    take_rest given at ∙ ap (drop at) same ∙ view in
    let counted : n ≡ min piece (min (length left) (length into)) = rw rest at count in
    let front : take n into ≡ take n left = rw rest at copied in
    let back : drop (at + n) items ≡ drop n left = sym (drop-drop n at items) ∙ ap (drop n) view in (
      ap Some (rw (front, back) (sym (take-append-drop n left))),
      λ none room. nil_from_length left (omega arith),
    )
