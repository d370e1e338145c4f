-- What the functions answer that keep lines. No public clause cites this module.
--
-- The code holds numbers of a graph where the definitions have terms.
-- Source: this project's own.
--
--   terms_of held         the terms that the code holds, by their numbers
--   pair_of held          the same with what they have become
--   state_of held         the state that the code holds
--   HasNumbers held       its numbers are numbers of its graph
--   Keeps result kept     what was answered is what is due, unless memory ran out
--   Reads result read     the same of a term, which a reader gives as a tree
--   Gives graph result made   the same of a term's number in a graph of these terms
use Rattle.std.specs.Prelude.{ℕ, ◌<◌, List, length, Result, IfOk}
use Rattle.wb_base.specs.Memory.{UnlessMemory}
use Rattle.line_file.specs.Keeping.{why_of}
use Rattle.line_file.specs.declared.format.Stop.{Stop}
use Rattle.ld_term.specs.Terms.{Term}
use Rattle.ld_term.specs.StrictTexts.{as_term}
use Rattle.ld_term.specs.TreeTexts.{written}
use Rattle.ld_term.specs.declared.tree.Tree.{Tree}
use Rattle.term_graph.specs.TermLists.{term_at}
use Rattle.ld_cert.specs.States.{Terms, Pair, State}
use Rattle.ld_cert.specs.States as due
use Rattle.ld_cert.specs.declared.checked.LdWhy.{LdWhy}
use Rattle.ld_cert.specs.declared.due.Due.{Due}
use Rattle.ld_cert.specs.declared.due.Due.TheVariants as held
use Rattle.ld_cert.specs.declared.due.Both.{Both}
use Rattle.ld_cert.specs.declared.due.Present.{Present}

-- ---- What the code holds ----

abbrev pub terms_of : Both → Terms
terms_of b = record { made = b.graph; left = term_at b.graph b.left; right = term_at b.graph b.right }

abbrev pub pair_of : Present → Pair
pair_of p = record {
  terms = terms_of p.both;
  left_now = term_at p.both.graph p.left;
  right_now = term_at p.both.graph p.right;
}

abbrev pub state_of : Due → State
state_of held.Start = due.start
state_of held.Left = due.left
state_of (held.Right graph left) = due.right graph (term_at graph left)
state_of (held.Answer both) = due.answer (terms_of both)
state_of (held.LeftStep present) = due.left_step (pair_of present)
state_of (held.RightStep present) = due.right_step (pair_of present)
state_of (held.Finish claim) = due.finish claim
state_of (held.Passed claim) = due.passed claim

-- ---- Numbers ----

pub record IsBoth (b : Both) : Type 0 where
  pub left : b.left < length b.graph
  pub right : b.right < length b.graph

pub record IsPresent (p : Present) : Type 0 where
  pub both : IsBoth p.both
  pub left : p.left < length p.both.graph
  pub right : p.right < length p.both.graph

abbrev pub HasNumbers : Due → Type 0
HasNumbers held.Start = Unit {0}
HasNumbers held.Left = Unit {0}
HasNumbers (held.Right graph left) = left < length graph
HasNumbers (held.Answer both) = IsBoth both
HasNumbers (held.LeftStep present) = IsPresent present
HasNumbers (held.RightStep present) = IsPresent present
HasNumbers (held.Finish claim) = Unit {0}
HasNumbers (held.Passed claim) = Unit {0}

-- ---- Answers ----

-- What is due is answered with numbers of its graph.
pub record Keeps (result : Result Due (Stop LdWhy)) (kept : Result State LdWhy) : Type 0 where
  pub state : UnlessMemory state_of why_of result kept
  pub numbers : IfOk result HasNumbers

abbrev pub Reads : Result Tree (Stop LdWhy) → Result Term LdWhy → Type 0
Reads result read = UnlessMemory (λ (tree : Tree). as_term (written tree)) why_of result read

-- A number is answered of the graph that was asked.
pub record Gives (made : List Term) (result : Result ℕ (Stop LdWhy))
    (wanted : Result (List Term × Term) LdWhy) : Type 0 where
  pub term : UnlessMemory (λ (n : ℕ). (made, term_at made n)) why_of result wanted
  pub within : IfOk result (λ n. n < length made)
