use Rattle.std.proofs.Common.{sym, true≢false}
use Rattle.session_run.proofs.FieldLemmas.{opened_by-more}
use Rattle.session_run.proofs.command.read_opened.Goals as goal

pub returns-then-not-has_no_field-clause-exact : goal.returns-then-not-has_no_field-clause-exact
returns-then-not-has_no_field-clause-exact c =
    sym (opened_by-more _ _ _ _ _ _ _ c.in_ok-name.ensures c.in_ok-handles.ensures c.in_ok-limit.ensures
    (λ none. absurd (true≢false (sym (c.if-not-has_no_field.ensures.1 none)))))
