-- What the two halves of a block of memory own. No public clause cites this module.
--
--   Fits R n              n values of R take fewer than 2 ^ 63 bytes, and n is below 2 ^ 63
--   block_owns t R p n    room for n values of R at p, whatever it holds, and the right, t's, to free it
--   deed_owns t R p n     the right alone, while the room lies in another value's hands
use Rattle.std.specs.Prelude.{ℕ, ◌*◌, ◌^◌, ◌<◌}
use mir.Syntax.{Ty}
use base.Fml.{Fml, ftrue, fsep, fex}
use denote.RattleType.{RattleType}
use denote.RawPtr.{Ptr}
use Rattle.core.specs.Mem.{type_size}
use Rattle.core.specs.Allocator.{owned_block, array_of}

abbrev pub Fits : RattleType → ℕ → Type 0
Fits R n = (n * type_size R < 2 ^ 63) × (n < 2 ^ 63)

-- a plain fact, as a formula that owns nothing
abbrev pub fact : Type 0 → Fml
fact φ = fex φ (λ _. ftrue)

abbrev pub block_owns : (Ty → Ptr → Fml) → RattleType → Ptr → ℕ → Fml
block_owns t R p n = fsep (fact (Fits R n)) (owned_block t (array_of R n) p)

abbrev pub deed_owns : (Ty → Ptr → Fml) → RattleType → Ptr → ℕ → Fml
deed_owns t R p n = fsep (fact (Fits R n)) (t (array_of R n) p)
