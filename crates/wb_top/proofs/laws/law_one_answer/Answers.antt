use Rattle.std.proofs.Common.{map, string_bytes, sym, ◌∙◌}
use Rattle.wb_compare.proofs.CompareLemmas.{compare_meaning-total}
use Rattle.wb_top.proofs.ProgramLemmas.{means-one_none, means-one_some}
use Rattle.wb_top.proofs.laws.law_one_answer.Goals as goal

pub returns-in_default-clause-one : goal.returns-in_default-clause-one
returns-in_default-clause-one c =
    λ a b. means-one_none (map string_bytes c.args.words.now) c.args.input.now a b
    (sym c.in_default.is ∙ c.read_command.ensures)

pub returns-in_default-clause-compares : goal.returns-in_default-clause-compares
returns-in_default-clause-compares c = λ limits. compare_meaning-total limits c.args.input.now

pub returns-clause-one : goal.returns-clause-one
returns-clause-one c =
    λ a b. means-one_some (map string_bytes c.args.words.now) _ c.args.input.now a b
    (sym c.in-Some.is ∙ c.read_command.ensures) c.law_sound.ensures

pub returns-clause-compares : goal.returns-clause-compares
returns-clause-compares c = λ limits. compare_meaning-total limits c.args.input.now
