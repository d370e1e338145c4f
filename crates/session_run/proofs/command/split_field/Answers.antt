use Rattle.std.proofs.Common.{sym, ◌∙◌}
use Rattle.session_run.proofs.FieldLemmas.{field_none, field_last, field_first}
use Rattle.session_run.proofs.command.split_field.Goals as goal

pub returns-in_err-text : goal.returns-in_err-text
returns-in_err-text c =
    rw c.from_residual.ensures (field_none c.args.text.now (sym c.first_other.ensures ∙ c.in_err-text.was))

pub returns-in-Some : goal.returns-in-Some
returns-in-Some c =
    field_first _ _ _ (sym c.first_other.ensures ∙ c.in_ok-text.was)
    (sym c.first_space.ensures ∙ c.in-Some.is)

pub returns-in-None : goal.returns-in-None
returns-in-None c =
    field_last _ _ (sym c.first_other.ensures ∙ c.in_ok-text.was) (sym c.first_space.ensures ∙ c.in-None.is)
