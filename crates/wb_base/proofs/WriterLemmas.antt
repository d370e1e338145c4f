-- Laws of the bytes that a writer holds and of those that wait behind them.
--
-- The main lemma is `Keeps-passed`: writing out a front of the bytes that wait loses none.
use Rattle.std.proofs.Common.{◌≡◌, ℕ, ◌+◌, ◌-◌, ◌≤◌, List, ◌++◌, length, take, drop, Option, Some, None, ap, sym, ◌∙◌, append_assoc, subst, arith}
use Rattle.std.proofs.lemmas.List.{length-drop}
use Rattle.std.proofs.lemmas.List.Edits.{take-paste}
use Rattle.std.proofs.Math.Seq.{paste, take-add}
use Rattle.std.specs.Io.KnownBytes.{Appends, Keeps, append_known}

-- n bytes more of a text of which k were written
pub Appends-more
    : (first now next : Option (List ℕ)) (text part : List ℕ) (k n : ℕ)
    → Appends first now (take k text)
    → Appends now next part
    → part ≡ take n (drop k text)
    → Appends first next (take (k + n) text)
Appends-more None now next text part k n so_far more same = tt
Appends-more (Some xs) None next text part k n so_far more same = absurd so_far
Appends-more (Some xs) (Some ys) None text part k n so_far more same = absurd more
Appends-more (Some xs) (Some ys) (Some zs) text part k n so_far more same =
    rw (more, so_far, same, take-add k n text) (append_assoc xs (take k text) (take n (drop k text)))

-- the rest of the bytes that wait, moved to the front of the buffer
rest_moved
    : (buffer : List ℕ) (len k : ℕ)
    → k ≤ len
    → len ≤ length buffer
    → take k buffer ++ take (len - k) (paste buffer 0 (drop k buffer) (len - k)) ≡ take len buffer
rest_moved buffer len k part within =
    let left = len - k in
    let rest = drop k buffer in
    let same : left ≡ 0 + left = omega arith in
    let whole : k + left ≡ len = omega arith in
    let enough : left ≤ length rest = omega (arith, length-drop k buffer) in
    let front : take (0 + left) (paste buffer 0 rest left) ≡ take left rest =
    take-paste buffer 0 rest left (omega arith) enough in
    ap (λ n. take k buffer ++ take n (paste buffer 0 rest left)) same
    ∙ ap (λ s. take k buffer ++ s) front
    ∙ sym (take-add k left buffer)
    ∙ ap (λ n. take n buffer) whole

-- bytes that wait are kept where a front of them is written and the others wait
pub Keeps-passed
    : (taken before after : Option (List ℕ)) (buffer moved : List ℕ) (len k : ℕ)
    → append_known before (take len buffer) ≡ taken
    → Appends before after (take k buffer)
    → moved ≡ paste buffer 0 (drop k buffer) (len - k)
    → k ≤ len
    → len ≤ length buffer
    → Keeps taken (append_known after (take (len - k) moved))
Keeps-passed taken None after buffer moved len k view written move part within =
    subst (λ t. Keeps t (append_known after (take (len - k) moved))) view tt
Keeps-passed taken (Some xs) None buffer moved len k view written move part within = absurd written
Keeps-passed taken (Some xs) (Some ys) buffer moved len k view written move part within =
    let waits = take (len - k) (paste buffer 0 (drop k buffer) (len - k)) in
    let all : xs ++ (take k buffer ++ waits) ≡ xs ++ take len buffer =
    ap (λ s. xs ++ s) (rest_moved buffer len k part within) in
    subst (λ t. Keeps t (append_known (Some ys) (take (len - k) moved))) view
    (rw (written, move, append_assoc xs (take k buffer) waits) all)
