use Rattle.std.proofs.lemmas.Result.{IfOk-weaker}
use Rattle.wb_command.specs.Refusals.{comes_answer}
use Rattle.wb_compare.specs.Terms.{compared_terms_answer}
use Rattle.wb_compare.proofs.TermsLemmas.{AreCompared-refused, AreCompared-read}
use Rattle.wb_compare.proofs.terms.CompareTermsTask.perform.Goals as goal

pub returns-in-Err : goal.returns-in-Err
returns-in-Err c =
    IfOk-weaker _ _ _ (λ outcome is.
    AreCompared-refused c.args.self.now.handles c.args.self.now.letters c.args.input.now c.in-Err.error
    (comes_answer compared_terms_answer outcome) c.in-Err.ensures.refused is)
    c.refuse.ensures

pub returns : goal.returns
returns c =
    rw (← c.self.view_is) (IfOk-weaker _ _ _ (λ outcome is.
    AreCompared-read c.self.inside.handles c.self.inside.letters c.args.input.now _ _ c.in-Some.second _
    (comes_answer compared_terms_answer outcome) c.in-Ok.ensures.file c.in-Some.is is)
    c.compare_nodes.ensures)
