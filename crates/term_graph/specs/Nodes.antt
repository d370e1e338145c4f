-- The terms that shared trees are, and how a graph keeps them.
--
-- A graph keeps its products as pairs of numbers: the pair at place k, counted from 0, has the numbers of the
-- parts of number k + 1. Beside them stand the trees and their numbers.
--
-- Source: this project's own.
--
--   term_of node          the term that a tree is
--   terms_of entries      the terms of a graph's entries
--   IsEntry e             an entry's height, leaves and length are those of its tree
--   pair_at pairs k       the pair at place k
--   product_of terms p    the product of the terms that a pair of numbers stands for
--   IsKept pairs terms    the pairs are the parts of the terms behind the first
use Rattle.std.specs.Prelude.{◌≡◌, ℕ, ◌+◌, ◌<◌, ◌≤◌, List, length, map, slice_index_or}
use Rattle.ld_term.specs.Terms.{Term, variable, multiply, height, leaf_count}
use Rattle.ld_term.specs.declared.TheConstants.{MAX_HEIGHT}
use Rattle.term_graph.specs.TermLists.{term_at, braid_length, capped}
use Rattle.term_graph.specs.declared.TheConstants.{MAX_NODES}
use Rattle.term_graph.specs.declared.node.Node.{Node}
use Rattle.term_graph.specs.declared.node.Node.TheVariants.{X, Product'}
use Rattle.term_graph.specs.declared.node.Entry.{Entry}

-- The term that a tree is.
abbrev pub term_of : Node → Term
term_of X = variable
term_of (Product' p left q right) = multiply (term_of left) (term_of right)

-- The terms of a graph's entries. No public clause cites it.
abbrev pub terms_of : List Entry → List Term
terms_of entries = map (λ (e : Entry). term_of e.tree.value) entries

-- An entry has its tree's numbers. No public clause cites it.
pub record IsEntry (e : Entry) : Type 0 where
  pub height_is : e.height ≡ height (term_of e.tree.value)
  pub low : e.height ≤ MAX_HEIGHT
  pub leaves_is : e.leaves ≡ capped (leaf_count (term_of e.tree.value))
  pub length_is : e.length ≡ capped (braid_length (term_of e.tree.value))

-- The parts of the product at a place.
abbrev pub pair_at : List (ℕ × ℕ) → ℕ → ℕ × ℕ
pair_at pairs k = slice_index_or pairs k (0, 0)

-- The product of the terms that a pair of numbers stands for.
abbrev pub product_of : List Term → ℕ × ℕ → Term
product_of terms pair = multiply (term_at terms pair.0) (term_at terms pair.1)

-- The pairs are the parts of the terms behind the first. No public clause cites it.
pub record IsKept (pairs : List (ℕ × ℕ)) (terms : List Term) : Type 0 where
  pub count : length terms ≡ length pairs + 1
  pub few : length pairs ≤ MAX_NODES
  pub first : term_at terms 0 ≡ variable
  pub left : (k : ℕ) → k < length pairs → (pair_at pairs k).0 ≤ k
  pub right : (k : ℕ) → k < length pairs → (pair_at pairs k).1 ≤ k
  pub made : (k : ℕ) → k < length pairs → term_at terms (k + 1) ≡ product_of terms (pair_at pairs k)
  pub different : (i j : ℕ) → i < length pairs → j < length pairs → pair_at pairs i ≡ pair_at pairs j → i ≡ j
