-- The command that the words of a command line are, and what it means.
--
-- Source: this project's own.
--
--   command_of words     the command, if the words are one
--   word_command_of name words, reverse_command_of name words, term_command_of name words,
--   table_command_of name words
--                        the same of its name and its arguments, from `normal`, `reverse`, `eval` and `laver`
--                        on
--   meaning_of command   what it means
use Rattle.std.specs.Prelude.{ℕ, if◌then◌else◌, List, [], ◌∷◌, codes, Option, None}
use Rattle.std.specs.Option.{option_map}
use Rattle.std.specs.Str.{bytes_eq}
use Rattle.wb_command.specs.Args.{last_read}
use Rattle.wb_command.specs.Meaning.{Meaning}
use Rattle.wb_compare.specs.Limits.{limits_of}
use Rattle.wb_compare.specs.Compare.{compare_meaning}
use Rattle.wb_compare.specs.Terms.{terms_meaning}
use Rattle.wb_compare.specs.Same.{same_meaning, strands_of}
use Rattle.wb_compare.specs.Check.{check_meaning}
use Rattle.wb_words.specs.Normal.{normal_meaning, normal_of}
use Rattle.wb_words.specs.Act.{act_meaning, act_of}
use Rattle.wb_words.specs.GreatestDivisor.{gcd_meaning, gcd_of}
use Rattle.wb_words.specs.Bench.{bench_meaning, bench_of}
use Rattle.wb_reverse.specs.Reverse.{reverse_meaning}
use Rattle.wb_reverse.specs.Reverse as reversing
use Rattle.wb_reverse.specs.ReverseCheck.{reverse_check_meaning}
use Rattle.wb_terms.specs.Eval.{eval_meaning, eval_of}
use Rattle.wb_terms.specs.Value.{value_meaning, value_of_words}
use Rattle.wb_terms.specs.Expand.{expand_meaning, expand_of}
use Rattle.wb_terms.specs.Derive.{derive_meaning}
use Rattle.wb_terms.specs.Laver.{laver_meaning, laver_of}
use Rattle.wb_terms.specs.Row.{row_meaning, row_of_words}
use Rattle.wb_top.specs.Session.{session_meaning}
use Rattle.wb_top.specs.declared.command.Command.{Command}
use Rattle.wb_top.specs.declared.command.Command.TheVariants.{Compare, Terms, Check, Normal, Same, Act, Gcd, Reverse, ReverseCheck, Eval, Value, Expand, Derive, Laver, Row, Session, Bench}

-- The command of a name, from `laver` on.
abbrev pub table_command_of : List ℕ → List (List ℕ) → Option Command
table_command_of name words =
    if bytes_eq name (codes "laver") then option_map Laver (laver_of words)
    else (if bytes_eq name (codes "row") then option_map Row (row_of_words words)
    else (if bytes_eq name (codes "session") then last_read words Session
    else (if bytes_eq name (codes "bench") then option_map Bench (bench_of words) else None)))

-- From `eval` on.
abbrev pub term_command_of : List ℕ → List (List ℕ) → Option Command
term_command_of name words =
    if bytes_eq name (codes "eval") then option_map Eval (eval_of words)
    else (if bytes_eq name (codes "value") then option_map Value (value_of_words words)
    else (if bytes_eq name (codes "expand") then option_map Expand (expand_of words)
    else (if bytes_eq name (codes "derive") then last_read words Derive
    else table_command_of name words)))

-- From `reverse` on.
abbrev pub reverse_command_of : List ℕ → List (List ℕ) → Option Command
reverse_command_of name words =
    if bytes_eq name (codes "reverse") then option_map Reverse (reversing.limits_of words)
    else (if bytes_eq name (codes "reverse-check") then last_read words ReverseCheck
    else term_command_of name words)

-- From `normal` on.
abbrev pub word_command_of : List ℕ → List (List ℕ) → Option Command
word_command_of name words =
    if bytes_eq name (codes "normal") then option_map Normal (normal_of words)
    else (if bytes_eq name (codes "same") then option_map Same (strands_of words)
    else (if bytes_eq name (codes "act") then option_map Act (act_of words)
    else (if bytes_eq name (codes "gcd") then option_map Gcd (gcd_of words)
    else reverse_command_of name words)))

-- The command of some words: its name, and then its arguments.
abbrev pub command_of : List (List ℕ) → Option Command
command_of [] = None
command_of (name ∷ words) =
    if bytes_eq name (codes "compare") then option_map Compare (limits_of words)
    else (if bytes_eq name (codes "terms") then option_map Terms (limits_of words)
    else (if bytes_eq name (codes "check") then last_read words Check
    else word_command_of name words))

abbrev pub meaning_of : Command → Meaning
meaning_of (Compare limits) = compare_meaning limits
meaning_of (Terms limits) = terms_meaning limits
meaning_of Check = check_meaning
meaning_of (Normal strands) = normal_meaning strands
meaning_of (Same strands) = same_meaning strands
meaning_of (Act numbers) = act_meaning numbers
meaning_of (Gcd strands) = gcd_meaning strands
meaning_of (Reverse limits) = reverse_meaning limits
meaning_of ReverseCheck = reverse_check_meaning
meaning_of (Eval limit) = eval_meaning limit
meaning_of (Value exponent) = value_meaning exponent
meaning_of (Expand address) = expand_meaning address
meaning_of Derive = derive_meaning
meaning_of (Laver exponent) = laver_meaning exponent
meaning_of (Row numbers) = row_meaning numbers
meaning_of Session = session_meaning
meaning_of (Bench numbers) = bench_meaning numbers
