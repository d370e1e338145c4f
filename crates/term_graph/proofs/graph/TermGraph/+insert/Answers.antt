-- A name stands for its term, and a product is asked for behind its parts.
use Rattle.std.proofs.Common.{ℕ, sym, ap, ◌∙◌}
use Rattle.std.proofs.lemmas.Result.{err_from_is_err_and}
use Rattle.ld_term.specs.Terms.{multiply}
use Rattle.ld_term.specs.TreeTexts.{written}
use Rattle.term_graph.specs.TermLists.{term_at}
use Rattle.term_graph.specs.Requests.{named_terms}
use Rattle.term_graph.proofs.StopLemmas.{AreLeft-one, product-stopped, IfErr-refusal}
use Rattle.term_graph.proofs.RequestLemmas.{known-number, number-meaning, left-stopped, IsLeftDone, right-stopped, ArePartsDone, parts-done, IsFront-product, IsFront-trans}
use Rattle.term_graph.proofs.graph.TermGraph.+insert.Goals as goal

pub unreachable-requires : goal.unreachable-requires
unreachable-requires t c =
    known-number _ _ _ _ (ap written c.in-Named.is) c.requires.known (sym c.find.ensures ∙ c.in_default.is)

pub returns-in_err-left-in-Product-clause-stopped : goal.returns-in_err-left-in-Product-clause-stopped
returns-in_err-left-in-Product-clause-stopped t c =
    let (e, is, same) = err_from_is_err_and c.from_residual.result c.from_residual.ensures.1 in
    rw (is, same)
    (left-stopped _ _ _ _ _ _ _ (ap written c.in-Product.is)
    (rw c.deref.ensures at c.in_err-left-in-Product.ensures.stopped))

pub returns-in_err-left-in-Product-clause-refused : goal.returns-in_err-left-in-Product-clause-refused
returns-in_err-left-in-Product-clause-refused t c =
    IfErr-refusal _ _ _ _ (returns-in_err-left-in-Product-clause-stopped t c)

pub returns-in_err-right-in-Product-clause-stopped : goal.returns-in_err-right-in-Product-clause-stopped
returns-in_err-right-in-Product-clause-stopped t c =
    let (e, is, same) =
    err_from_is_err_and c.from_residual-in_err-right-in-Product.result
    c.from_residual-in_err-right-in-Product.ensures.1 in
    let left = c.in_ok-left-in-Product.ensures in
    let part = c.deref.ensures in
    let done : IsLeftDone _ _ c.args.names.now _ _ = record {
      numbers = c.requires.numbers;
      within = left.number.0;
      number = rw part at left.number.1;
      asked = rw part at left.asked;
      kept = c.insert.ensures.kept;
    } in
    rw (is, same) (right-stopped _ _ _ _ _ _ _ _ _ (ap written c.in-Product.is) done
    (rw c.deref-in-Product.ensures at c.in_err-right-in-Product.ensures.stopped))

pub returns-in_err-right-in-Product-clause-refused : goal.returns-in_err-right-in-Product-clause-refused
returns-in_err-right-in-Product-clause-refused t c =
    IfErr-refusal _ _ _ _ (returns-in_err-right-in-Product-clause-stopped t c)

pub returns-in-Some-clause-number : goal.returns-in-Some-clause-number
returns-in-Some-clause-number t c =
    number-meaning _ _ _ _ _ _ (ap written c.in-Named.is) c.requires.numbers
    (sym c.find.ensures ∙ c.in-Some.is)

-- both parts are done
parts
    : (t : ℕ) (c : goal.After-product t)
    → ArePartsDone c.args.self.now c.insert-in-Product.new.self (named_terms c.args.self.now c.args.names.now)
    (written c.args.term.now) c.in_ok-left-in-Product.left c.in_ok-right-in-Product.right
parts t c =
    let left = c.in_ok-left-in-Product.ensures in
    let right = c.in_ok-right-in-Product.ensures in
    let part = c.deref.ensures in
    let other = c.deref-in-Product.ensures in
    let done : IsLeftDone c.args.self.now c.insert.new.self c.args.names.now (written c.in-Product.left.value)
    c.in_ok-left-in-Product.left = record {
      numbers = c.requires.numbers;
      within = left.number.0;
      number = rw part at left.number.1;
      asked = rw part at left.asked;
      kept = c.insert.ensures.kept;
    } in
    parts-done _ _ _ _ _ _ _ _ _ (ap written c.in-Product.is) done (rw other at right.number.1)
    (rw other at right.asked) c.insert-in-Product.ensures.kept

pub returns-in_ok-right-in-Product-clause-number :
    goal.returns-in_ok-right-in-Product-clause-number
returns-in_ok-right-in-Product-clause-number t c =
    rw (parts t c).number c.product.ensures.number

pub returns-in_ok-right-in-Product-clause-asked : goal.returns-in_ok-right-in-Product-clause-asked
returns-in_ok-right-in-Product-clause-asked t c =
    rw (AreLeft-one _ _ _ _ (parts t c).due) c.product.ensures.asked

pub returns-in_ok-right-in-Product-clause-refused : goal.returns-in_ok-right-in-Product-clause-refused
returns-in_ok-right-in-Product-clause-refused t c =
    rw (AreLeft-one _ _ _ _ (parts t c).due) c.product.ensures.refused

pub returns-in_ok-right-in-Product-clause-stopped : goal.returns-in_ok-right-in-Product-clause-stopped
returns-in_ok-right-in-Product-clause-stopped t c =
    product-stopped _ _ _ _ _ _ (parts t c).due c.product.ensures.refused c.product.ensures.unchanged

pub returns-in_ok-right-in-Product-clause-kept : goal.returns-in_ok-right-in-Product-clause-kept
returns-in_ok-right-in-Product-clause-kept t c =
    let last = c.insert-in-Product.new.self in
    let product =
    multiply (term_at last c.in_ok-left-in-Product.left) (term_at last c.in_ok-right-in-Product.right) in
    IsFront-trans c.args.self.now last c.product.new.self (parts t c).kept
    (IsFront-product last c.product.new.self product c.product.result c.product.ensures.asked
    c.product.ensures.unchanged)
