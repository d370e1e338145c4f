-- Names, as of terms and of jobs.
--
-- A name is 1 to 32 bytes, the first in `a` to `z`, the others in `a` to `z` or `0` to `9`.
-- Source: this project's own.
--
--   is_name bytes      whether the bytes are a name
--   padded bytes       the bytes, with zeros behind them up to 32
--   IsStored bytes n   the first n of 32 bytes are a name, and the others are 0
use Rattle.std.specs.Prelude.{◌≡◌, ℕ, ◌-◌, ◌≤◌, ◌&&◌, ◌||◌, nat_lt, Bool, true, false, List, [], ◌∷◌, ◌++◌, length, take, replicate}
use Rattle.std.specs.List.{list_all}
use Rattle.std.specs.Char.{is_ascii_lowercase, is_ascii_digit}

-- A byte that a name may have behind its first.
abbrev pub is_name_byte : ℕ → Bool
is_name_byte byte = is_ascii_lowercase byte || is_ascii_digit byte

-- Whether the bytes are a name: `a1` is one, and `1a`, `A` and the empty list aren't.
abbrev pub is_name : List ℕ → Bool
is_name [] = false
is_name (first ∷ rest) = is_ascii_lowercase first && nat_lt (length rest) 32 && list_all is_name_byte rest

-- The bytes and then zeros, 32 in all where there are no more.
abbrev pub padded : List ℕ → List ℕ
padded bytes = bytes ++ replicate (32 - length bytes) 0

-- How a name lies in 32 bytes, so that each name lies there in one way. No public clause cites it.
pub record IsStored (bytes : List ℕ) (n : ℕ) : Type 0 where
  pub within : n ≤ 32
  pub whole : length bytes ≡ 32
  pub name : is_name (take n bytes) ≡ true
  pub unused : bytes ≡ padded (take n bytes)
