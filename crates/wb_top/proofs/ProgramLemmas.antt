-- Laws of what the program means.
--
-- Words and an input have one answer at most (`means-one_none`, `means-one_some`).
use Rattle.std.proofs.Common.{◌≡◌, ℕ, List, Option, Some, None, refl, sym, subst, ap, ◌∙◌}
use Rattle.wb_base.specs.Streams.{Ends}
use Rattle.wb_base.specs.Status.{Answer}
use Rattle.wb_base.specs.declared.status.Status.{Status}
use Rattle.wb_base.specs.declared.status.Status.TheVariants.{Done, Refused, Words}
use Rattle.wb_command.specs.Meaning.{HasAnswer, IsSound, HasRun}
use Rattle.wb_command.proofs.TaskLemmas.{HasAnswer-one, HasPassed, HasRun-alone}
use Rattle.wb_top.specs.declared.command.Command.{Command}
use Rattle.wb_top.specs.Commands.{command_of, meaning_of}
use Rattle.wb_top.specs.Program.{usage, usage_meaning, meaning_by, means}

-- words that are no command mean something sound
IsSound-usage : IsSound usage_meaning
IsSound-usage = record {
  one = λ input a b first second. sym first ∙ second;
  promised = λ input a is done. let other : Words ≡ Done = ap (λ (b : Answer). b.status) is ∙ done in cc;
  refused = λ input a is refused. let other : Words ≡ Refused = ap (λ (b : Answer). b.status) is
      ∙ refused in cc;
  alone = λ nothing input other a is. is;
  plain = λ pieces before now s. tt;
}

-- of words that are no command
pub means-one_none
    : (words : List (List ℕ)) (input : List ℕ) (a b : Answer)
    → None ≡ command_of words
    → HasAnswer (means words) input a
    → HasAnswer (means words) input b
    → a ≡ b
means-one_none words input a b none =
    subst (λ (c : Option Command). HasAnswer (meaning_by c) input a → HasAnswer (meaning_by c) input b
    → a ≡ b) none
    (HasAnswer-one usage_meaning input a b IsSound-usage)

-- of a command
pub means-one_some
    : (words : List (List ℕ)) (command : Command) (input : List ℕ) (a b : Answer)
    → Some command ≡ command_of words
    → IsSound (meaning_of command)
    → HasAnswer (means words) input a
    → HasAnswer (means words) input b
    → a ≡ b
means-one_some words command input a b some sound =
    subst (λ (c : Option Command). HasAnswer (meaning_by c) input a → HasAnswer (meaning_by c) input b
    → a ≡ b) some
    (HasAnswer-one (meaning_of command) input a b sound)

-- a run of a command is one of its words
pub HasRun-command
    : {S K : Type 0} (words : List (List ℕ)) (command : Command) (source after : S) (sink later : K)
    (before now : Ends) (s : Status)
    → Some command ≡ command_of words
    → HasRun (meaning_of command) source after sink later before now s
    → HasRun (means words) source after sink later before now s
HasRun-command words command source after sink later before now s some ran =
    subst (λ (c : Option Command). HasRun (meaning_by c) source after sink later before now s) some ran

-- a run of words that are no command
pub HasRun-usage
    : {S K : Type 0} (words : List (List ℕ)) (source : S) (sink later : K) (before now : Ends) (s : Status)
    → None ≡ command_of words
    → HasPassed usage s before now
    → now.left ≡ before.left
    → now.reads ≡ before.reads
    → now.calls ≡ before.calls
    → HasRun (means words) source source sink later before now s
HasRun-usage words source sink later before now s none passed left reads calls =
    subst (λ (c : Option Command). HasRun (meaning_by c) source source sink later before now s) none
    (HasRun-alone usage_meaning source sink later before now s usage IsSound-usage refl refl passed left
    reads calls)
