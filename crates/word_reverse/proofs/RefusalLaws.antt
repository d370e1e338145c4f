-- Laws of the first refusal of a file.
--
-- A file has none exactly where it is accepted (`HasNoRefusal-accepted`). What a checker refuses is refused
-- first there, and the other way round (`IfRefused-first`, `Gives-first`).
use Rattle.std.proofs.Common.{◌≡◌, ◌↔◌, ℕ, List, Result, Ok, Err, refl, subst}
use Rattle.line_file.specs.Keeping.{Gives}
use Rattle.line_file.specs.declared.format.FileErr.{FileErr}
use Rattle.line_file.specs.declared.format.FileErr.TheVariants.{Refused, Memory}
use Rattle.line_file.proofs.RefusalLaws.{checked_of-IsFirstRefusal, IsFirstRefusal-checked_of}
use Rattle.word_reverse.specs.ReverseText.{Reversal}
use Rattle.word_reverse.specs.Accepted.{IsAccepted, Claim}
use Rattle.word_reverse.specs.Checking.{reverse_file, checked_of}
use Rattle.word_reverse.specs.FirstRefusal.{IsFirstRefusal, HasNoRefusal, IfRefused}
use Rattle.word_reverse.specs.declared.fraction.ReverseWhy.{ReverseWhy}
use Rattle.word_reverse.proofs.CheckingLaws.{checked_of-accepted, accepted-checked_of}

-- a file has no refusal exactly where it is the text of an accepted reversal
pub HasNoRefusal-accepted
    : (bytes : List ℕ)
    → HasNoRefusal bytes ↔ ((r : Reversal) × IsAccepted bytes r)
HasNoRefusal-accepted bytes = (go (checked_of bytes) refl, none)
  where
    go
        : (file : Result Claim (ℕ × ReverseWhy))
        → checked_of bytes ≡ file
        → HasNoRefusal bytes
        → (r : Reversal) × IsAccepted bytes r
    go (Ok claim) is free =
        let (r, accepted, claims) = checked_of-accepted bytes claim is in (r, accepted)
    go (Err (k, why)) is free = absurd (free k why (checked_of-IsFirstRefusal reverse_file bytes k why is))

    none : (r : Reversal) × IsAccepted bytes r → HasNoRefusal bytes
    none (r, accepted) = λ k why first.
        let claims = accepted-checked_of bytes r accepted in
        let refused = IsFirstRefusal-checked_of reverse_file bytes k why first in
        cc

-- ---- What a checker answers ----

-- what it refuses is refused first there
pub IfRefused-first
    : (bytes : List ℕ) (result : Result Claim (FileErr ReverseWhy))
    → Gives result (checked_of bytes)
    → IfRefused result (IsFirstRefusal bytes)
IfRefused-first bytes (Ok claim) gives = tt
IfRefused-first bytes (Err (Refused k why)) gives =
    checked_of-IsFirstRefusal reverse_file bytes k why gives
IfRefused-first bytes (Err Memory) gives = tt

-- what is refused first is what it refuses
pub Gives-first
    : (bytes : List ℕ) (result : Result Claim (FileErr ReverseWhy))
    → Gives result (checked_of bytes)
    → (k : ℕ) (why : ReverseWhy)
    → IsFirstRefusal bytes k why
    → Gives result (Err (k, why))
Gives-first bytes result gives k why first =
    subst (λ file. Gives result file) (IsFirstRefusal-checked_of reverse_file bytes k why first) gives
