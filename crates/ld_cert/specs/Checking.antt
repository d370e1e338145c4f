-- How a certificate file is checked, line by line, and its first refusal.
--
-- The lines are taken in order, each in a state that says which line is due. The first line that can't be
-- kept is refused, for the first cause that holds of it. One graph takes the products of all lines.
-- Source: this project's own.
--
--   behind_front front line   what stands behind these bytes, if the line begins with them
--   expanded_by made a t      what the expansion of t at an address is, in a graph of these terms
--   kept_short due line       what is due after a line that isn't too long, or why it can't be kept
--   certificate_file          certificate files as files of lines: with this, and the causes of what no file
--                             may have
--   checked_of bytes          what a file claims, or the line and the cause of its first refusal
--
-- The first refusal in the words of lines is `IsFirstRefusal` in `FirstRefusal.antt`.
-- That it claims something exactly where it is accepted is a clause of `check_ld`.
use Rattle.std.specs.Prelude.{ℕ, ◌+◌, ◌^◌, ◌==◌, ◌&&◌, ◌||◌, nat_lt, Bool, if◌then◌else◌, List, [], ◌∷◌, length, take, drop, codes, Option, Some, None, Result, Ok, Err}
use Rattle.std.specs.List.{list_all}
use Rattle.std.specs.Str.{bytes_eq}
use Rattle.wb_base.specs.Fields.{keyword_of, behind_keyword}
use Rattle.wb_base.specs.Numbers.{number_within}
use Rattle.line_file.specs.Formats.{Format}
use Rattle.line_file.specs.Formats as files
use Rattle.ld_term.specs.Terms.{Term, variable, height, leaf_count}
use Rattle.ld_term.specs.StrictTexts.{strict_term_of}
use Rattle.ld_term.specs.declared.TheConstants.{MAX_HEIGHT, MAX_PRODUCTS}
use Rattle.laver_table.specs.Product.{product_rows}
use Rattle.laver_table.specs.declared.TheConstants.{MAX_EXPONENT}
use Rattle.term_eval.specs.Values.{value_of}
use Rattle.term_graph.specs.Asks.{same_term, Asked, answered, too_deep, full, ask_all}
use Rattle.term_graph.specs.Listings.{products}
use Rattle.term_expand.specs.Expansions.{Expansion, expanded, no_place, not_expandable, expansion_at}
use Rattle.term_expand.specs.Requests.{expand_requests}
use Rattle.term_expand.specs.declared.TheConstants.{MAX_ADDRESS}
use Rattle.ld_cert.specs.Accepted.{Claim}
use Rattle.ld_cert.specs.States.{Terms, Pair, State}
use Rattle.ld_cert.specs.States as due
use Rattle.ld_cert.specs.declared.TheConstants.{MAX_LINE}
use Rattle.ld_cert.specs.declared.checked.LdAnswer.{LdAnswer}
use Rattle.ld_cert.specs.declared.checked.LdAnswer.TheVariants.{Yes, No}
use Rattle.ld_cert.specs.declared.checked.LdWhy.{LdWhy}
use Rattle.ld_cert.specs.declared.checked.LdWhy.TheVariants.{Form, Header, Place, Large, Differ, Alike, Truncated, Extra, Long}

-- ---- Parts of a line ----

-- What stands behind these bytes, if some bytes begin with them: of `l .01` behind `l .` it is `01`.
abbrev pub behind_front : List ℕ → List ℕ → Option (List ℕ)
behind_front front bytes =
    if bytes_eq (take (length front) bytes) front then Some (drop (length front) bytes) else None

-- What stands behind the space that follows a keyword.
abbrev pub behind_space : List ℕ → Result (List ℕ) LdWhy
behind_space [] = Err Form
behind_space (space ∷ text) = Ok text

-- What stands behind this keyword and a space.
abbrev pub text_behind : List ℕ → List ℕ → Result (List ℕ) LdWhy
text_behind keyword line =
    if bytes_eq (keyword_of line) keyword then behind_space (behind_keyword line) else Err Header

-- A term in its strict text, where it isn't too large.
abbrev pub readable : Option Term → Result Term LdWhy
readable None = Err Form
readable (Some t) =
    if nat_lt MAX_HEIGHT (height t) || nat_lt (MAX_PRODUCTS + 1) (leaf_count t) then Err Long else Ok t

abbrev pub term_by : Result (List ℕ) LdWhy → Result Term LdWhy
term_by (Ok bytes) = readable (strict_term_of bytes)
term_by (Err why) = Err why

-- The term of a line with this keyword: of `left (x*x)` it is xx.
abbrev pub term_behind : List ℕ → List ℕ → Result Term LdWhy
term_behind keyword line = term_by (text_behind keyword line)

-- Whether some bytes are an address: at most 1,000 bytes `0` or `1`.
abbrev pub is_address : List ℕ → Bool
is_address bytes =
    nat_lt (length bytes) (MAX_ADDRESS + 1) && list_all (λ byte. (byte == 48) || (byte == 49)) bytes

-- An address that takes all that stands behind a front.
abbrev pub address_in : Option (List ℕ) → Option (List ℕ)
address_in None = None
address_in (Some bytes) = if is_address bytes then Some bytes else None

abbrev pub address_behind : List ℕ → List ℕ → Option (List ℕ)
address_behind front line = address_in (behind_front front line)

-- The exponent of a table that can be built, in the same way.
abbrev pub exponent_in : Option (List ℕ) → Option ℕ
exponent_in None = None
exponent_in (Some bytes) = number_within 0 MAX_EXPONENT bytes

-- ---- Requests ----

-- A term and the graph that it was made in, where its requests are granted.
abbrev pub made_term : Term → Asked → Result (List Term × Term) LdWhy
made_term t (answered made) = Ok (made, t)
made_term t too_deep = Err Large
made_term t full = Err Large

-- A term of a line, whose products are asked for.
abbrev pub made_by : List Term → Result Term LdWhy → Result (List Term × Term) LdWhy
made_by made (Ok t) = made_term t (ask_all (answered made) (products t))
made_by made (Err why) = Err why

-- An expansion, whose products were answered so.
abbrev pub made_expansion : Expansion → Asked → Result (List Term × Term) LdWhy
made_expansion (expanded t) asked = made_term t asked
made_expansion no_place asked = Err Place
made_expansion not_expandable asked = Err Place

-- The expansion of a term at an address.
abbrev pub expanded_by : List Term → List ℕ → Term → Result (List Term × Term) LdWhy
expanded_by made address t =
    made_expansion (expansion_at address t) (ask_all (answered made) (expand_requests address t))

-- ---- One line ----

-- What is due with a term and the graph that it was made in.
abbrev pub with_made : Result (List Term × Term) LdWhy → (List Term → Term → State) → Result State LdWhy
with_made (Ok (made, t)) next = Ok (next made t)
with_made (Err why) next = Err why

-- The first line.
abbrev pub kept_start : Bool → Result State LdWhy
kept_start right = if right then Ok due.left else Err Header

-- The left term, in a new graph, and the right one.
abbrev pub kept_left : Result Term LdWhy → Result State LdWhy
kept_left read = with_made (made_by (variable ∷ []) read) due.right

abbrev pub kept_right : List Term → Term → Result Term LdWhy → Result State LdWhy
kept_right made left read =
    with_made (made_by made read)
    (λ new right. due.answer (record { made = new; left = left; right = right }))

-- Both terms, before their expansions.
abbrev pub unexpanded : Terms → Pair
unexpanded terms = record { terms = terms; left_now = terms.left; right_now = terms.right }

-- What is claimed of the terms.
abbrev pub claimed : Terms → LdAnswer → Claim
claimed terms answer =
    record { answer = answer; made = terms.made; left = terms.left; right = terms.right }

-- Whether two terms have one value in the table of size 2^n.
abbrev pub are_alike : ℕ → Term → Term → Bool
are_alike n t u = value_of (product_rows (2 ^ n)) t == value_of (product_rows (2 ^ n)) u

-- A no, by the exponent of its table.
abbrev pub kept_no : Terms → Option ℕ → Result State LdWhy
kept_no terms None = Err Form
kept_no terms (Some n) =
    if are_alike n terms.left terms.right then Err Alike else Ok (due.finish (claimed terms (No n)))

-- The answer: `yes`, or a no.
abbrev pub kept_answer : Terms → List ℕ → Result State LdWhy
kept_answer terms line =
    if bytes_eq line (codes "yes") then Ok (due.left_step (unexpanded terms))
    else kept_no terms (exponent_in (behind_front (codes "no ") line))

-- The pair whose left term has become another, in a graph that has more terms, or its right one.
abbrev pub with_left : Pair → List Term → Term → Pair
with_left pair made t = record pair { terms = record (pair.terms) { made = made }; left_now = t }

abbrev pub with_right : Pair → List Term → Term → Pair
with_right pair made t = record pair { terms = record (pair.terms) { made = made }; right_now = t }

-- The end of a yes: both terms have become one.
abbrev pub kept_end : Pair → Bool → Result State LdWhy
kept_end pair end =
    if end
    then (if same_term pair.left_now pair.right_now
    then Ok (due.passed (claimed pair.terms Yes)) else Err Differ)
    else Err Form

-- An expansion of the right term, or the end.
abbrev pub right_kept : Pair → List ℕ → Option (List ℕ) → Result State LdWhy
right_kept pair line None = kept_end pair (bytes_eq line (codes "end"))
right_kept pair line (Some address) =
    with_made (expanded_by pair.terms.made address pair.right_now)
    (λ made t. due.right_step (with_right pair made t))

abbrev pub kept_right_step : Pair → List ℕ → Result State LdWhy
kept_right_step pair line = right_kept pair line (address_behind (codes "r .") line)

-- The same, or an expansion of the left term.
abbrev pub left_kept : Pair → List ℕ → Option (List ℕ) → Result State LdWhy
left_kept pair line None = kept_right_step pair line
left_kept pair line (Some address) =
    with_made (expanded_by pair.terms.made address pair.left_now)
    (λ made t. due.left_step (with_left pair made t))

abbrev pub kept_left_step : Pair → List ℕ → Result State LdWhy
kept_left_step pair line = left_kept pair line (address_behind (codes "l .") line)

-- The end behind a no.
abbrev pub kept_finish : Claim → Bool → Result State LdWhy
kept_finish claim right = if right then Ok (due.passed claim) else Err Form

-- What is due after a line that isn't too long.
abbrev pub kept_short : State → List ℕ → Result State LdWhy
kept_short due.start line = kept_start (bytes_eq line (codes "ld-certificate 1"))
kept_short due.left line = kept_left (term_behind (codes "left") line)
kept_short (due.right made left) line = kept_right made left (term_behind (codes "right") line)
kept_short (due.answer terms) line = kept_answer terms line
kept_short (due.left_step pair) line = kept_left_step pair line
kept_short (due.right_step pair) line = kept_right_step pair line
kept_short (due.finish claim) line = kept_finish claim (bytes_eq line (codes "end"))
kept_short (due.passed claim) line = Err Extra

-- ---- All lines ----

-- What a file claims whose last line was passed.
abbrev pub claim_passed : State → Option Claim
claim_passed (due.passed claim) = Some claim
claim_passed now = None

-- Certificate files, as files of lines.
abbrev pub certificate_file : Format State LdWhy Claim
certificate_file = record {
  start = due.start;
  kept = kept_short;
  passed = claim_passed;
  most = MAX_LINE;
  extra = Extra;
  long = Long;
  truncated = Truncated;
}

-- What a file claims, or its first refusal. Its lines count from 1.
abbrev pub checked_of : List ℕ → Result Claim (ℕ × LdWhy)
checked_of bytes = files.checked_of certificate_file bytes
