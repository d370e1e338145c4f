use Rattle.std.proofs.Common.{◌≡◌, length, subst}
use Rattle.std.proofs.lemmas.Result.{IfOk-weaker}
use Rattle.wb_base.specs.Lines.{lines_of}
use Rattle.term_graph.specs.TermLists.{term_at}
use Rattle.wb_command.specs.Refusals.{comes_answer}
use Rattle.wb_command.proofs.TermInputLemmas.{IsOnTerm-refused, IsOnTerm-read}
use Rattle.wb_terms.specs.Listed.{listing_answer}
use Rattle.wb_terms.specs.Expand.{expanded_at}
use Rattle.wb_terms.proofs.expand.ExpandTask.perform.Goals as goal

pub returns-in-Ok : goal.returns-in-Ok
returns-in-Ok c =
    rw (← c.self.view_is) (IfOk-weaker _ _ _ (λ outcome is.
    IsOnTerm-read (expanded_at (length (lines_of c.args.input.now)) c.self.inside.address.now)
    c.args.input.now _ _ _
    (comes_answer listing_answer outcome) c.in-Ok.ensures.file c.in-Ok.ensures.second
    (subst (λ k. expanded_at k c.self.inside.address.now c.in-Ok.file.graph
    (term_at c.in-Ok.file.graph c.in-Ok.file.first) ≡ comes_answer listing_answer outcome)
    c.count_lines.ensures is))
    c.expand_term.ensures)

pub returns-in-Err : goal.returns-in-Err
returns-in-Err c =
    IfOk-weaker _ _ _ (λ outcome is.
    IsOnTerm-refused (expanded_at (length (lines_of c.args.input.now)) c.args.self.now) c.args.input.now
    c.in-Err.error
    (comes_answer listing_answer outcome) c.in-Err.ensures.refused is)
    c.refuse.ensures
