-- What the program means, by the words of its command line.
--
-- Source: this project's own.
--
--   usage         the answer to words that are no command
--   means words   what the program means with these words, after its name
use Rattle.std.specs.Prelude.{◌≡◌, ℕ, List, codes, Option, Some, None}
use Rattle.wb_base.specs.Lines.{line}
use Rattle.wb_base.specs.Status.{Answer, answer}
use Rattle.wb_base.specs.declared.status.Status.TheVariants.{Words}
use Rattle.wb_command.specs.Meaning.{Meaning, reads_nothing}
use Rattle.wb_top.specs.Commands.{command_of, meaning_of}
use Rattle.wb_top.specs.declared.command.Command.{Command}

abbrev pub usage : Answer
usage = answer Words (line (codes "usage: braid_bench COMMAND NUMBERS"))

-- Words that are no command have the usage line as their answer, and read nothing.
abbrev pub usage_meaning : Meaning
usage_meaning = record {
  reads = reads_nothing;
  answers = λ input a. usage ≡ a;
  says = λ input text. ⊥;
  refuses = λ input text. ⊥;
  serves = λ before now s. Unit {0};
}

abbrev pub meaning_by : Option Command → Meaning
meaning_by None = usage_meaning
meaning_by (Some command) = meaning_of command

abbrev pub means : List (List ℕ) → Meaning
means words = meaning_by (command_of words)
