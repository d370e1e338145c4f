-- Why a line isn't read as a term.
--
-- Its form comes first, then its height, then the number of its products.
-- Source: the bounds are this project's own.
--
--   IsSmall t                        t is neither too high nor has too many products
--   IsTooDeep t height               t is too high, with this height
--   IsTooLarge t products            t isn't too high and has too many products, this many
--   IsRefused Says placed end error  the fault of a line of which `Says` tells the term
use Rattle.std.specs.Prelude.{◌≡◌, ℕ, ◌<◌, ◌≤◌, List}
use Rattle.ld_term.specs.Written.{Written, written_height, written_products}
use Rattle.ld_term.specs.Tokens.{Token, Placed, tokens_of}
use Rattle.ld_term.specs.Grammar.{IsFault}
use Rattle.ld_term.specs.declared.TheConstants.{MAX_HEIGHT, MAX_PRODUCTS}
use Rattle.ld_term.specs.declared.term_err.TermErr.{TermErr}
use Rattle.ld_term.specs.declared.term_err.TermErr.TheVariants.{Form, TooDeep, TooMany, Memory}

-- A term that is neither too high nor has too many products.
pub record IsSmall (t : Written) : Type 0 where
  pub low : written_height t ≤ MAX_HEIGHT
  pub few : written_products t ≤ MAX_PRODUCTS

-- A term that is too high, with its height.
pub record IsTooDeep (t : Written) (height : ℕ) : Type 0 where
  pub above : MAX_HEIGHT < written_height t
  pub is : height ≡ written_height t

-- A term that isn't too high and has too many products, with their number.
pub record IsTooLarge (t : Written) (products : ℕ) : Type 0 where
  pub low : written_height t ≤ MAX_HEIGHT
  pub above : MAX_PRODUCTS < written_products t
  pub is : products ≡ written_products t

-- The fault of a line with these tokens, which ends at this place, where `Says tokens t` is that the tokens
-- are a text with the term t. Memory may run out in any line.
abbrev pub IsRefused : (List Token → Written → Type 0) → List Placed → ℕ → TermErr → Type 0
IsRefused Says placed end (Form place) = IsFault (λ tokens. (t : Written) × Says tokens t) placed end place
IsRefused Says placed end (TooDeep height) = (t : Written) × Says (tokens_of placed) t × IsTooDeep t height
IsRefused Says placed end (TooMany products) =
    (t : Written) × Says (tokens_of placed) t × IsTooLarge t products
IsRefused Says placed end Memory = Unit {0}
