use Rattle.std.proofs.Common.{◌∙◌, ap, Err}
use Rattle.term_graph.specs.TermLists.{term_at}
use Rattle.wb_terms.proofs.EvalLemmas.{evaluated-word, evaluated-long}
use Rattle.wb_terms.proofs.eval.eval_term.Goals as goal

pub returns-in-Ok : goal.returns-in-Ok
returns-in-Ok c =
    evaluated-word c.args.limit (term_at c.args.graph.now c.args.node) c.in-Ok.word c.eval.result _ c.in-Ok.is
    c.in-Ok.ensures.word c.in-Ok.ensures.short c.eval.ensures.index

pub returns-in-Err-TooLong : goal.returns-in-Err-TooLong
returns-in-Err-TooLong c =
    rw c.from.ensures
    (evaluated-long c.args.limit (term_at c.args.graph.now c.args.node) c.in-Err-TooLong.length
    ((c.eval.ensures.too_long c.in-Err-TooLong.length).0
    (c.in-Err-TooLong.is ∙ ap (λ e. Err e) c.in-Err-TooLong.field-0-is)))
