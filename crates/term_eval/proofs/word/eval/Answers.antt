use Rattle.std.proofs.Common.{◌++◌, ◌∙◌, ap, arith}
use Rattle.braid_word.specs.declared.TheConstants.{MAX_INDEX}
use Rattle.term_graph.specs.TermLists.{term_at}
use Rattle.term_eval.specs.Braids.{braid}
use Rattle.term_eval.proofs.BraidLemmas.{short-written, on-written, Equivalent-written}
use Rattle.term_eval.proofs.word.eval.Goals as goal

pub returns-clause-short : goal.returns-clause-short
returns-clause-short c =
    let t = term_at c.args.graph.now c.args.node in
    let word = c.of.ensures ∙ c.in_ok-push_braid.ensures
    ∙ ap (λ xs. xs ++ braid t) c.in_ok-letters.ensures.items in
    short-written t _ c.args.limit word c.requires.limit
    (omega (arith, c.length-length.ensures, c.from.ensures, c.if-length-from.false))

pub returns-clause-low : goal.returns-clause-low
returns-clause-low c =
    let t = term_at c.args.graph.now c.args.node in
    let word = c.of.ensures ∙ c.in_ok-push_braid.ensures
    ∙ ap (λ xs. xs ++ braid t) c.in_ok-letters.ensures.items in
    on-written t _ MAX_INDEX word (omega
    (arith, c.height.ensures.height, c.from-2.ensures, c.if-height-from.false))

pub returns-clause-equivalent : goal.returns-clause-equivalent
returns-clause-equivalent c =
    let t = term_at c.args.graph.now c.args.node in
    let word = c.of.ensures ∙ c.in_ok-push_braid.ensures
    ∙ ap (λ xs. xs ++ braid t) c.in_ok-letters.ensures.items in
    Equivalent-written t _ word
