-- Laws of the first refusal of a file.
--
-- A file has none exactly where it is accepted (`HasNoRefusal-accepted`). What a checker refuses is refused
-- first there, and the other way round (`IfRefused-first`, `Gives-first`).
use Rattle.std.proofs.Common.{◌≡◌, ◌↔◌, ℕ, List, Result, Ok, Err, refl, subst}
use Rattle.line_file.proofs.RefusalLaws.{checked_of-IsFirstRefusal, IsFirstRefusal-checked_of}
use Rattle.trace_format.specs.TraceText.{Trace}
use Rattle.trace_check.specs.Accepted.{IsAccepted, Claim}
use Rattle.line_file.specs.Keeping.{Gives}
use Rattle.trace_check.specs.Checking.{trace_file, checked_of}
use Rattle.trace_check.specs.FirstRefusal.{IsFirstRefusal, HasNoRefusal, IfRefused}
use Rattle.line_file.specs.declared.format.FileErr.{FileErr}
use Rattle.line_file.specs.declared.format.FileErr.TheVariants.{Refused, Memory}
use Rattle.trace_check.specs.declared.checked.Why.{Why}
use Rattle.trace_check.proofs.CheckingLaws.{checked_of-accepted, accepted-checked_of}

-- a file has no refusal exactly where it is the text of an accepted trace
pub HasNoRefusal-accepted
    : (bytes : List ℕ)
    → HasNoRefusal bytes ↔ ((t : Trace) × IsAccepted bytes t)
HasNoRefusal-accepted bytes = (go (checked_of bytes) refl, none)
  where
    go
        : (file : Result Claim (ℕ × Why))
        → checked_of bytes ≡ file
        → HasNoRefusal bytes
        → (t : Trace) × IsAccepted bytes t
    go (Ok claim) is free =
        let (t, accepted, claims) = checked_of-accepted bytes claim is in (t, accepted)
    go (Err (k, why)) is free = absurd (free k why (checked_of-IsFirstRefusal trace_file bytes k why is))

    none : (t : Trace) × IsAccepted bytes t → HasNoRefusal bytes
    none (t, accepted) = λ k why first.
        let claims = accepted-checked_of bytes t accepted in
        let refused = IsFirstRefusal-checked_of trace_file bytes k why first in
        cc

-- ---- What a checker answers ----

-- what it refuses is refused first there
pub IfRefused-first
    : (bytes : List ℕ) (result : Result Claim (FileErr Why))
    → Gives result (checked_of bytes)
    → IfRefused result (IsFirstRefusal bytes)
IfRefused-first bytes (Ok claim) gives = tt
IfRefused-first bytes (Err (Refused k why)) gives = checked_of-IsFirstRefusal trace_file bytes k why gives
IfRefused-first bytes (Err Memory) gives = tt

-- what is refused first is what it refuses
pub Gives-first
    : (bytes : List ℕ) (result : Result Claim (FileErr Why))
    → Gives result (checked_of bytes)
    → (k : ℕ) (why : Why)
    → IsFirstRefusal bytes k why
    → Gives result (Err (k, why))
Gives-first bytes result gives k why first =
    subst (λ file. Gives result file) (IsFirstRefusal-checked_of trace_file bytes k why first) gives
