-- The limits of a comparison.
--
-- Source: this project's own.
--
--   Limits            the most handle reductions, and the most letters
--   AreLimits limits  they are within their bounds
--   limits_of words   the limits that two words of a command line are
use Rattle.std.specs.Prelude.{ℕ, ◌≤◌, List, Option}
use Rattle.handle_reduce.specs.declared.TheConstants.{MAX_BOUND}
use Rattle.wb_command.specs.Args.{then_read, first_number, last_read, rest_of}

pub record Limits : Type 0 where
  pub handles : ℕ
  pub letters : ℕ

pub record AreLimits (limits : Limits) : Type 0 where
  pub handles : limits.handles ≤ MAX_BOUND
  pub letters : limits.letters ≤ MAX_BOUND

abbrev pub limits_of : List (List ℕ) → Option Limits
limits_of words =
    then_read (first_number 0 MAX_BOUND words) (λ handles.
    then_read (first_number 0 MAX_BOUND (rest_of words)) (λ letters.
    last_read (rest_of (rest_of words)) (record { handles = handles; letters = letters })))
