use Rattle.std.proofs.lemmas.Result.{IfOk-weaker}
use Rattle.wb_command.specs.Refusals.{comes_answer}
use Rattle.wb_command.proofs.TermInputLemmas.{IsOnTerm-refused, IsOnTerm-read}
use Rattle.wb_terms.specs.Listed.{listing_answer}
use Rattle.wb_terms.specs.Derive.{derived_in}
use Rattle.wb_terms.proofs.derive.DeriveTask.perform.Goals as goal

pub returns-in-Ok : goal.returns-in-Ok
returns-in-Ok c =
    (IfOk-weaker _ _ _ (λ outcome is.
    IsOnTerm-read derived_in c.args.input.now _ _ _ (comes_answer listing_answer outcome)
    c.in-Ok.ensures.file c.in-Ok.ensures.second is)
    c.derive_term.ensures)

pub returns-in-Err : goal.returns-in-Err
returns-in-Err c =
    IfOk-weaker _ _ _ (λ outcome is.
    IsOnTerm-refused derived_in c.args.input.now c.in-Err.error (comes_answer listing_answer outcome)
    c.in-Err.ensures.refused is)
    c.refuse.ensures
