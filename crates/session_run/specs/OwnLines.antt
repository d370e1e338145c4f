-- What the lines of one name make of its job.
--
-- Source: this project's own.
--
--   own_turns name cs     the sum of the turns of this name
--   ClosesNone name cs    no command closes this name
--   own_lines name cs     the commands on this name
--   own_replies name jobs cs    the replies to these, among those to all commands
--   NoneFull jobs cs      no opening finds as many jobs open as may be
use Rattle.std.specs.Prelude.{◌≡◌, ◌≢◌, filter, ℕ, ◌+◌, Bool, false, if◌then◌else◌, List, [], ◌∷◌}
use Rattle.std.specs.List.{AllByRecursion}
use Rattle.std.specs.Str.{bytes_eq}
use Rattle.session_run.specs.declared.command.Command.{Command}
use Rattle.session_run.specs.declared.command.Command.TheVariants.{Begin, Turn, Show, Take, Close, List as ListJobs}
use Rattle.session_run.specs.declared.reply.Reply.{Reply}
use Rattle.session_run.specs.declared.reply.Reply.TheVariants as reply
use Rattle.session_run.specs.Jobs.{Job, after, is_on}
use Rattle.session_run.specs.Replies.{reply_to}

-- The turns that a command gives to this name.
abbrev pub own_count : List ℕ → Command → ℕ
own_count name (Begin own handles limit left right) = 0
own_count name (Turn own count) = if bytes_eq name own then count else 0
own_count name (Show own) = 0
own_count name (Take own) = 0
own_count name (Close own) = 0
own_count name ListJobs = 0

-- All turns of this name.
abbrev pub own_turns : List ℕ → List Command → ℕ
own_turns name [] = 0
own_turns name (c ∷ cs) = own_count name c + own_turns name cs

-- Whether a command closes this name.
abbrev pub closes : List ℕ → Command → Bool
closes name (Begin own handles limit left right) = false
closes name (Turn own count) = false
closes name (Show own) = false
closes name (Take own) = false
closes name (Close own) = bytes_eq name own
closes name ListJobs = false

abbrev pub ClosesNone : List ℕ → List Command → Type 0
ClosesNone name cs = AllByRecursion (λ c. closes name c ≡ false) cs

-- The commands on this name.
abbrev pub own_lines : List ℕ → List Command → List Command
own_lines name cs = filter (λ c. is_on name c) cs

-- The replies to the commands on this name, among all commands.
abbrev pub own_replies : List ℕ → List Job → List Command → List Reply
own_replies name jobs [] = []
own_replies name jobs (c ∷ cs) =
    if is_on name c then reply_to jobs c ∷ own_replies name (after jobs c) cs
    else own_replies name (after jobs c) cs

-- No opening finds as many jobs open as may be.
abbrev pub NoneFull : List Job → List Command → Type 0
NoneFull jobs [] = Unit {0}
NoneFull jobs (c ∷ cs) = (reply_to jobs c ≢ reply.Full) × NoneFull (after jobs c) cs
