-- The command `session`: the lines of an input, answered one by one.
--
-- Source: this project's own.
--
--   session_meaning   what the command means
use Rattle.std.specs.Prelude.{◌≡◌, []}
use Rattle.wb_base.specs.Lines.{lines_of}
use Rattle.session_run.specs.Conversation.{answers, session_answer}
use Rattle.session_run.specs.Serving.{HasServed}
use Rattle.wb_command.specs.Meaning.{Meaning, reads_pieces}

-- A session answers its lines before more is read, so what it has read and written is said with every status.
abbrev pub session_meaning : Meaning
session_meaning = record {
  reads = reads_pieces;
  answers = λ input a. session_answer input ≡ a;
  says = λ input text. text ≡ answers [] (lines_of input);
  refuses = λ input text. ⊥;
  serves = HasServed;
}
