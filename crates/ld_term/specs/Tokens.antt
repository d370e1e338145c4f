-- The tokens of a line.
--
-- They are the brackets, the star, the equals sign, and the longest runs of bytes in `a` to `z` and `0` to
-- `9`. A space is the byte 32. Spaces may stand between tokens; any other byte is a bad token by itself.
-- In the strict reading a space is a bad token too, and so is a name.
-- Source: this project's own.
--
--   Token                           a token
--   Placed                          a token and its place
--   tokens_of placed                the tokens without their places
--   byte_token byte                 the token that a byte outside of runs is
--   run_token strict run place      the token that a run is
--   lex strict in_run place bytes   the tokens that begin in some bytes, of which the first stands at this
--                                   place, and continues a run where `in_run` is true
--   tokens_from strict start line   the tokens of a line behind its first `start` bytes
use Rattle.std.specs.Prelude.{ℕ, ◌+◌, ◌&&◌, ◌==◌, Bool, true, false, not, if◌then◌else◌, List, [], ◌∷◌, drop, map, take_while, codes}
use Rattle.std.specs.Str.{bytes_eq}
use Rattle.wb_base.specs.Names.{is_name_byte, is_name}

-- A token. A name has its bytes and the place of its first byte.
pub data Token : Type 0 where
  open_bracket : Token
  close_bracket : Token
  star : Token
  equals : Token
  variable : Token
  name : (bytes : List ℕ) → (place : ℕ) → Token
  bad : Token

-- A token, and the place of its first byte, counted from 1.
pub record Placed : Type 0 where
  pub token : Token
  pub place : ℕ

-- The tokens without their places.
abbrev pub tokens_of : List Placed → List Token
tokens_of placed = map (λ (p : Placed). p.token) placed

-- The token that a byte outside of runs is.
abbrev pub byte_token : ℕ → Token
byte_token byte =
    if byte == 40 then open_bracket
    else (if byte == 41 then close_bracket
    else (if byte == 42 then star
    else (if byte == 61 then equals else bad)))

-- The token that a run is: the variable is `x`, and a name is no longer than 32 bytes and begins with a
-- letter.
abbrev pub run_token : Bool → List ℕ → ℕ → Token
run_token strict run place =
    if bytes_eq run (codes "x") then variable
    else (if not strict && is_name run then name run place else bad)

-- The tokens that begin in some bytes.
unfoldable pub lex : Bool → Bool → ℕ → List ℕ → List Placed
lex strict in_run place [] = []
lex strict in_run place (byte ∷ bytes) =
    if is_name_byte byte then
    (if in_run then lex strict true (place + 1) bytes
    else record { token = run_token strict (take_while is_name_byte (byte ∷ bytes)) place; place = place } ∷
    lex strict true (place + 1) bytes)
    else (if not strict && (byte == 32) then lex strict false (place + 1) bytes
    else record { token = byte_token byte; place = place } ∷ lex strict false (place + 1) bytes)

-- The tokens of a line behind its first bytes.
abbrev pub tokens_from : Bool → ℕ → List ℕ → List Placed
tokens_from strict start line = lex strict false (start + 1) (drop start line)
