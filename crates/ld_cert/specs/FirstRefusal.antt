-- The first refusal of a certificate file, in the words of its lines.
--
-- The lines before it can be kept, one after the other, and it can't, for this cause. Where the lines end
-- with no refusal it is what stands behind the last LF that is refused, if anything is.
-- Source: this project's own.
--
--   IsFirstRefusal bytes k why   line k of the file is the first that is refused, for this cause
--   HasNoRefusal bytes           no line of the file is refused
--   IfRefused result P           where a check refused a file, P holds of the line and the cause
--
-- It is what `checked_of` says: `checked_of-IsFirstRefusal` in `line_file/proofs/RefusalLaws.antt`, and its
-- converse.
use Rattle.std.specs.Prelude.{ℕ, List, Result, Ok, Err}
use Rattle.line_file.specs.FirstRefusal as files
use Rattle.line_file.specs.declared.format.FileErr.{FileErr}
use Rattle.line_file.specs.declared.format.FileErr.TheVariants.{Refused, Memory}
use Rattle.ld_cert.specs.Accepted.{Claim}
use Rattle.ld_cert.specs.Checking.{certificate_file}
use Rattle.ld_cert.specs.declared.checked.LdWhy.{LdWhy}

-- Lines count from 1, up to the greatest number of 64 bits.
abbrev pub IsFirstRefusal : List ℕ → ℕ → LdWhy → Type 0
IsFirstRefusal bytes k why = files.IsFirstRefusal certificate_file bytes k why

-- No line of the file is refused, and it may end so.
abbrev pub HasNoRefusal : List ℕ → Type 0
HasNoRefusal bytes = files.HasNoRefusal certificate_file bytes

-- P holds of the line and the cause of a refusal.
abbrev pub IfRefused : Result Claim (FileErr LdWhy) → (ℕ → LdWhy → Type 0) → Type 0
IfRefused (Ok claim) P = Unit {0}
IfRefused (Err (Refused line why)) P = P line why
IfRefused (Err Memory) P = Unit {0}
