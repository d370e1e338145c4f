-- The strict text of a term: brackets round each product, no spaces and no names.
--
-- It is read back by a pass that holds the terms which are not yet multiplied: each x is one more, and each
-- closing bracket multiplies the last two. Whether the bytes are the strict text of what was found so is
-- tested behind it.
-- Source: this project's own.
--
--   as_written t             t as a term that is written without names
--   as_term w                a written term, in which each name counts as x
--   strict_text t            the bytes of the strict text of t
--   strict_term_of bytes     the term whose strict text the bytes are, if they are one
--   IsStrictRefusal read e   why the strict text of this term isn't read
use Rattle.std.specs.Prelude.{◌≡◌, ℕ, ◌+◌, ◌<◌, ◌==◌, if◌then◌else◌, List, [], ◌∷◌, Option, Some, None}
use Rattle.std.specs.Str.{bytes_eq}
use Rattle.ld_term.specs.Terms.{Term, variable, multiply, height, leaf_count}
use Rattle.ld_term.specs.Written.{Written, leaf, named, times}
use Rattle.ld_term.specs.TermTexts.{term_text}
use Rattle.ld_term.specs.declared.TheConstants.{MAX_HEIGHT, MAX_PRODUCTS}
use Rattle.ld_term.specs.declared.term_err.TermErr.{TermErr}
use Rattle.ld_term.specs.declared.term_err.TermErr.TheVariants.{Form, TooDeep, TooMany, Memory}

-- ---- Writing ----

-- A term as it is written without names.
abbrev pub as_written : Term → Written
as_written variable = leaf
as_written (multiply t u) = times (as_written t) (as_written u)

-- The term that is written, each name of which counts as x. Where there is no name it is the term that is
-- written so.
abbrev pub as_term : Written → Term
as_term leaf = variable
as_term (named name place) = variable
as_term (times a b) = multiply (as_term a) (as_term b)

-- The bytes of the strict text: of x(xx) they are `(x*(x*x))`.
abbrev pub strict_text : Term → List ℕ
strict_text t = term_text (as_written t)

-- ---- Reading ----

-- The last two terms are multiplied.
abbrev pub multiplied : List Term → List Term
multiplied (u ∷ (t ∷ held)) = multiply t u ∷ held
multiplied held = held

-- The terms that are held behind a byte, the last one first.
abbrev pub held_behind : List Term → ℕ → List Term
held_behind held byte =
    if byte == 120 then variable ∷ held else (if byte == 41 then multiplied held else held)

-- The terms that are held behind some bytes.
abbrev pub held_after : List Term → List ℕ → List Term
held_after held [] = held
held_after held (byte ∷ bytes) = held_after (held_behind held byte) bytes

-- The term that is held, where the bytes are its strict text.
abbrev pub spelled : List ℕ → List Term → Option Term
spelled bytes [] = None
spelled bytes (t ∷ held) = if bytes_eq (strict_text t) bytes then Some t else None

-- The term whose strict text the bytes are: of `(x*x)` it is xx, and of `x*x` there is none.
unfoldable pub strict_term_of : List ℕ → Option Term
strict_term_of bytes = spelled bytes (held_after [] bytes)

-- Why the strict text of a term isn't read: the term is too high, or has too many products. A term has one
-- leaf more than products.
abbrev pub IsStrictRefusal : Option Term → TermErr → Type 0
IsStrictRefusal read (Form place) = read ≡ None
IsStrictRefusal read (TooDeep high) = (t : Term) × (read ≡ Some t) × (high ≡ height t) × (MAX_HEIGHT < high)
IsStrictRefusal read (TooMany count) =
    (t : Term) × (read ≡ Some t) × (count + 1 ≡ leaf_count t) × (MAX_PRODUCTS < count)
IsStrictRefusal read Memory = Unit {0}
