-- What a scan has found of the leftmost handle.
use Rattle.std.proofs.Common.{◌≡◌, ℕ, List, [], ◌++◌, length, Some, None}
use Rattle.std.proofs.lemmas.List.{append-nil}
use Rattle.braid_word.specs.Words.{Letter}
use Rattle.handle_find.specs.Handles.{IsHandle, HasNoHandle, leftmost_of}
use Rattle.handle_find.proofs.HandleLemmas.{IsLeftmost-from_walk, leftmost_of-IsLeftmost, leftmost_of-HasNoHandle}
use Rattle.handle_find.proofs.FrontLemmas.{IsHandle-front}

-- a handle that ends at the cursor is the leftmost
pub leftmost-closes
    : (left right : List Letter) (start : ℕ)
    → HasNoHandle left
    → IsHandle (left ++ right) start (length left)
    → leftmost_of (left ++ right) ≡ Some (start, length left)
leftmost-closes left right start none h =
    leftmost_of-IsLeftmost (left ++ right) start (length left)
    (IsLeftmost-from_walk (left ++ right) start (length left)
    (λ p q before other. none p q (IsHandle-front left right p q other before)) h)

-- at the end of the word there is none
pub leftmost-end
    : (left right : List Letter)
    → HasNoHandle left
    → right ≡ []
    → leftmost_of (left ++ right) ≡ None
leftmost-end left right none end =
    rw (end, append-nil left) (leftmost_of-HasNoHandle left none)
