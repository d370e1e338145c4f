use Rattle.std.proofs.Common.{map, string_bytes, refl, sym, ◌∙◌}
use Rattle.wb_top.proofs.ProgramLemmas.{HasRun-command, HasRun-usage}
use Rattle.wb_top.proofs.program.run_words.Goals as goal

pub returns-in-Some-clause-ran : goal.returns-in-Some-clause-ran
returns-in-Some-clause-ran g c =
    HasRun-command (map string_bytes c.args.words.now) _ _ _ _ _ _ _ _
    (sym c.in-Some.is ∙ c.read_command.ensures) c.run_command.ensures.ran

pub returns-in-Ok-clause-ran : goal.returns-in-Ok-clause-ran
returns-in-Ok-clause-ran g c =
    HasRun-usage (map string_bytes c.args.words.now) _ _ _ _ _ _ (sym c.in-None.is ∙ c.read_command.ensures)
    (record {
      told = (refl, c.in-Ok.ensures.took);
      was_read = λ is. absurd cc;
      had_memory = λ is. absurd cc;
      fault = λ is. absurd cc;
      later = c.in-Ok.ensures.cause.later;
      waits = λ is. c.in-Ok.ensures.passed;
    })
    refl refl refl

pub returns-in-Err-clause-ran : goal.returns-in-Err-clause-ran
returns-in-Err-clause-ran g c =
    HasRun-usage (map string_bytes c.args.words.now) _ _ _ _ _ _ (sym c.in-None.is ∙ c.read_command.ensures)
    (record {
      told = c.in-Err.ensures.took;
      was_read = λ is. absurd cc;
      had_memory = λ is. absurd cc;
      fault = λ is. c.in-Err.ensures.cause.failed;
      later = c.in-Err.ensures.cause.later;
      waits = λ is. absurd (is refl);
    })
    refl refl refl
