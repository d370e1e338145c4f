-- What a check of a file answers.
--
-- What it claims is what an accepted certificate claims (`IfOk-accepted`, `Gives-accepted`), and holds
-- (`IfOk-yes`, `IfOk-no`). What it refuses is refused first there, and the other way round (`IfRefused-first`,
-- `Gives-first`). A file has no refusal exactly where it is accepted (`HasNoRefusal-accepted`).
use Rattle.std.proofs.Common.{◌≡◌, ◌↔◌, ℕ, List, Result, Ok, Err, IfOk, refl, sym, ap, ◌∙◌, subst}
use Rattle.line_file.proofs.RefusalLaws.{checked_of-IsFirstRefusal, IsFirstRefusal-checked_of}
use Rattle.line_file.specs.Keeping.{Gives}
use Rattle.line_file.specs.declared.format.FileErr.{FileErr}
use Rattle.line_file.specs.declared.format.FileErr.TheVariants.{Refused, Memory}
use Rattle.ld_term.specs.Terms.{Term, IsEquivalent}
use Rattle.ld_cert.specs.Certificates.{Answer, yes_by, no_by, Certificate, IsRightOf}
use Rattle.ld_cert.specs.Accepted.{IsAccepted, Claim, told_answer, claim_of}
use Rattle.ld_cert.specs.Checking.{certificate_file, checked_of}
use Rattle.ld_cert.specs.FirstRefusal.{IsFirstRefusal, HasNoRefusal, IfRefused}
use Rattle.ld_cert.specs.declared.checked.LdAnswer.TheVariants.{Yes, No}
use Rattle.ld_cert.specs.declared.checked.LdWhy.{LdWhy}
use Rattle.ld_cert.proofs.AnswerLemmas.{yes-IsEquivalent, no-IsEquivalent}
use Rattle.ld_cert.proofs.CheckingLaws.{checked_of-accepted, accepted-checked_of}

-- ---- Claims ----

-- what it claims is what an accepted certificate claims
pub IfOk-accepted
    : (bytes : List ℕ) (result : Result Claim (FileErr LdWhy))
    → Gives result (checked_of bytes)
    → IfOk result (λ claim. (c : Certificate) × IsAccepted bytes c × (claim ≡ claim_of c))
IfOk-accepted bytes (Ok claim) gives = checked_of-accepted bytes claim gives
IfOk-accepted bytes (Err e) gives = tt

-- what is accepted isn't refused
pub Gives-accepted
    : (bytes : List ℕ) (result : Result Claim (FileErr LdWhy))
    → Gives result (checked_of bytes)
    → (c : Certificate)
    → IsAccepted bytes c
    → Gives result (Ok (claim_of c))
Gives-accepted bytes result gives c accepted =
    subst (λ file. Gives result file) (accepted-checked_of bytes c accepted) gives

-- ---- What a claim shows ----

-- an answer that is told as a yes shows that the terms are equivalent
told-yes : (t u : Term) (answer : Answer) → told_answer answer ≡ Yes → IsRightOf t u answer → IsEquivalent t u
told-yes t u (yes_by left right) told is = yes-IsEquivalent t u left right is
told-yes t u (no_by n) told is = absurd (cc)

-- one that is told as a no, that they aren't
told-no
    : (t u : Term) (answer : Answer) (n : ℕ)
    → told_answer answer ≡ No n
    → IsRightOf t u answer
    → IsEquivalent t u
    → ⊥
told-no t u (yes_by left right) n told is = absurd (cc)
told-no t u (no_by m) n told is = no-IsEquivalent t u m is

-- a yes holds
pub IfOk-yes
    : (bytes : List ℕ) (result : Result Claim (FileErr LdWhy))
    → Gives result (checked_of bytes)
    → IfOk result (λ claim. claim.answer ≡ Yes → IsEquivalent claim.left claim.right)
IfOk-yes bytes (Ok claim) gives = λ told.
    let (c, accepted, same) = checked_of-accepted bytes claim gives in
    subst (λ (z : Claim). IsEquivalent z.left z.right) (sym same)
    (told-yes c.left c.right c.answer (sym (ap (λ (z : Claim). z.answer) same) ∙ told) accepted.is_right)
IfOk-yes bytes (Err e) gives = tt

-- so does a no
pub IfOk-no
    : (bytes : List ℕ) (result : Result Claim (FileErr LdWhy))
    → Gives result (checked_of bytes)
    → IfOk result (λ claim. (n : ℕ) → claim.answer ≡ No n → IsEquivalent claim.left claim.right → ⊥)
IfOk-no bytes (Ok claim) gives = λ n told equivalent.
    let (c, accepted, same) = checked_of-accepted bytes claim gives in
    told-no c.left c.right c.answer n (sym (ap (λ (z : Claim). z.answer) same) ∙ told) accepted.is_right
    (subst (λ (z : Claim). IsEquivalent z.left z.right) same equivalent)
IfOk-no bytes (Err e) gives = tt

-- ---- Refusals ----

-- a file has no refusal exactly where it is the text of an accepted certificate
pub HasNoRefusal-accepted
    : (bytes : List ℕ)
    → HasNoRefusal bytes ↔ ((c : Certificate) × IsAccepted bytes c)
HasNoRefusal-accepted bytes = (go (checked_of bytes) refl, none)
  where
    go
        : (file : Result Claim (ℕ × LdWhy))
        → checked_of bytes ≡ file
        → HasNoRefusal bytes
        → (c : Certificate) × IsAccepted bytes c
    go (Ok claim) is free =
        let (c, accepted, claims) = checked_of-accepted bytes claim is in (c, accepted)
    go (Err (k, why)) is free =
        absurd (free k why (checked_of-IsFirstRefusal certificate_file bytes k why is))

    none : (c : Certificate) × IsAccepted bytes c → HasNoRefusal bytes
    none (c, accepted) = λ k why first.
        let claims = accepted-checked_of bytes c accepted in
        let refused = IsFirstRefusal-checked_of certificate_file bytes k why first in
        cc

-- what it refuses is refused first there
pub IfRefused-first
    : (bytes : List ℕ) (result : Result Claim (FileErr LdWhy))
    → Gives result (checked_of bytes)
    → IfRefused result (IsFirstRefusal bytes)
IfRefused-first bytes (Ok claim) gives = tt
IfRefused-first bytes (Err (Refused k why)) gives =
    checked_of-IsFirstRefusal certificate_file bytes k why gives
IfRefused-first bytes (Err Memory) gives = tt

-- what is refused first is what it refuses
pub Gives-first
    : (bytes : List ℕ) (result : Result Claim (FileErr LdWhy))
    → Gives result (checked_of bytes)
    → (k : ℕ) (why : LdWhy)
    → IsFirstRefusal bytes k why
    → Gives result (Err (k, why))
Gives-first bytes result gives k why first =
    subst (λ file. Gives result file) (IsFirstRefusal-checked_of certificate_file bytes k why first) gives
