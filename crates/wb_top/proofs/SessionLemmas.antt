-- Laws of the command `session`: it is sound (`IsSound-session`), and what `serve` says of a session is
-- what a run of
-- the command leaves (`HasRun-session`).
use Rattle.std.proofs.Common.{◌≡◌, ◌≢◌, inl, inr, ◌≤◌, ◌+◌, ltb, Bool, true, false, ℕ, List, [], length, drop, Option, Some, None, IfSome, refl, ap, sym, subst, ◌∙◌}
use Rattle.std.specs.Option.{option_map}
use Rattle.std.specs.Io.KnownBytes.{prepend_known}
use Rattle.wb_base.specs.Lines.{lines_of}
use Rattle.wb_base.specs.Streams.{Ends, ReadsAll, Rose, Skips}
use Rattle.wb_base.specs.Status.{Answer}
use Rattle.wb_base.specs.declared.status.Status.{Status}
use Rattle.wb_base.specs.declared.status.Status.TheVariants.{Done, Refused, Words, Input, Limit, ReadFault, WriteFault, Memory}
use Rattle.session_run.specs.declared.TheConstants as limits
use Rattle.session_run.specs.Conversation.{answers, session_answer}
use Rattle.session_run.specs.Serving as serving
use Rattle.wb_command.specs.declared.TheConstants.{MAX_INPUT}
use Rattle.wb_command.specs.Answers.{IsTold, told_nothing, told_answer, IsEnding}
use Rattle.wb_command.specs.Meaning.{HasAnswer, in_limit, IsSound, HasWritten, HasRun}
use Rattle.wb_command.proofs.TaskLemmas.{left-short, left-long}
use Rattle.wb_top.specs.Session.{session_meaning}

-- a session that is done has answered all lines
answers-Done
    : (input : List ℕ) (a : Answer)
    → session_answer input ≡ a
    → a.status ≡ Done
    → a.text ≡ answers [] (lines_of input)
answers-Done input a is done = go (ltb limits.MAX_INPUT (length input)) refl
  where
    go : (long : Bool) → ltb limits.MAX_INPUT (length input) ≡ long → a.text ≡ answers [] (lines_of input)
    go true long = let other : Limit ≡ Done = rw long at (ap (λ (b : Answer). b.status) is ∙ done) in
        absurd cc
    go false short = rw short at (ap (λ (b : Answer). b.text) (sym is))

-- a session isn't refused
session_answer-Refused : (input : List ℕ) (a : Answer) → session_answer input ≡ a → a.status ≡ Refused → ⊥
session_answer-Refused input a is refused = go (ltb limits.MAX_INPUT (length input)) refl
  where
    go : (long : Bool) → ltb limits.MAX_INPUT (length input) ≡ long → ⊥
    go true long = let other : Limit ≡ Refused = rw long at (ap (λ (b : Answer). b.status) is ∙ refused) in cc
    go false short = let other : Done ≡ Refused =
        rw short at (ap (λ (b : Answer). b.status) is ∙ refused) in cc

-- `session` is sound
pub IsSound-session : IsSound session_meaning
IsSound-session = record {
  one = λ input a b first second. sym first ∙ second;
  promised = answers-Done;
  refused = session_answer-Refused;
  alone = λ nothing. absurd cc;
  plain = λ pieces. absurd (pieces refl);
}

-- the answer of a session
HasAnswer-session : (input : List ℕ) → HasAnswer session_meaning input (session_answer input)
HasAnswer-session input = in_limit (λ whole. absurd cc) refl

-- what was told of a session
IsTold-session
    : (source : Option (List ℕ)) (s : Status) (old new : Option (List ℕ))
    → IfSome source (λ input. serving.IsTold (session_answer input) s old new)
    → IfSome source (λ input. IsTold (HasAnswer session_meaning input) s old new)
IsTold-session None s old new told = tt
IsTold-session (Some input) Done old new told =
    told_answer (session_answer input) (HasAnswer-session input) told
IsTold-session (Some input) Limit old new told =
    told_answer (session_answer input) (HasAnswer-session input) told
IsTold-session (Some input) WriteFault old new told =
    told_answer (session_answer input) (HasAnswer-session input) told
IsTold-session (Some input) ReadFault old new told = told_nothing (inl refl)
IsTold-session (Some input) Memory old new told = told_nothing (inr refl)
IsTold-session (Some input) Refused old new told = absurd told
IsTold-session (Some input) Words old new told = absurd told
IsTold-session (Some input) Input old new told = absurd told

-- what a session that is done says
HasWritten-session
    : (source : Option (List ℕ)) (s : Status) (old new : Option (List ℕ))
    → IfSome source (λ input. serving.IsTold (session_answer input) s old new)
    → s ≡ Done
    → IfSome source (λ input. HasWritten session_meaning session_meaning.says input old new)
HasWritten-session None s old new told done = tt
HasWritten-session (Some input) s old new told done =
    let (status, took) = subst (λ (t : Status). serving.IsTold (session_answer input) t old new) done told in (
      session_answer input,
      HasAnswer-session input,
      took,
      answers-Done input
          (session_answer input) refl status,
    )

-- how far a session has read that has come to an answer
left-session
    : (old new : Option (List ℕ)) (s : Status)
    → (s ≡ Done → (input : List ℕ) × ReadsAll old new input × (length input ≤ MAX_INPUT))
    → (s ≡ Limit → (front : List ℕ) × (length front ≡ MAX_INPUT + 1) × (old ≡ prepend_known front new))
    → s ≢ Refused
    → s ≢ Input
    → IsEnding s
    → new ≡ option_map (drop (MAX_INPUT + 1)) old
left-session old new Done done limit refused input ending =
    let (bytes, all, within) = done refl in left-short old new bytes MAX_INPUT all within
left-session old new Limit done limit refused input ending =
    let (front, size, taken) = limit refl in left-long old new (MAX_INPUT + 1) (front, size, taken)
left-session old new Refused done limit refused input ending = absurd (refused refl)
left-session old new Input done limit refused input ending = absurd (input refl)
left-session old new Words done limit refused input ending = absurd ending
left-session old new ReadFault done limit refused input ending = absurd ending
left-session old new WriteFault done limit refused input ending = absurd ending
left-session old new Memory done limit refused input ending = absurd ending

-- what a run of the command leaves
pub HasRun-session
    : {S K : Type 0} (source after : S) (sink later : K) (before now : Ends) (s : Status)
    → IfSome before.left (λ input. serving.IsTold (session_answer input) s before.taken now.taken)
    → (s ≡ Done → (input : List ℕ) × ReadsAll before.left now.left input × (length input ≤ MAX_INPUT))
    → (s ≡ Limit → (front : List ℕ) × (length front ≡ MAX_INPUT + 1)
    × (before.left ≡ prepend_known front now.left))
    → s ≢ Refused
    → s ≢ Input
    → session_meaning.serves before now s
    → (s ≡ ReadFault → Rose before.reads now.reads)
    → (s ≡ WriteFault → Rose before.writes now.writes)
    → before.reads ≤ now.reads
    → before.writes ≤ now.writes
    → (s ≢ WriteFault → before.waiting ≡ 0 → now.waiting ≡ 0)
    → (n : ℕ) × (n ≤ MAX_INPUT + 1) × Skips before.left now.left n
    → now.calls ≤ before.calls + (MAX_INPUT + 2)
    → HasRun session_meaning source after sink later before now s
HasRun-session source after sink later before now s told done limit refused input served read write
    read_later write_later waits front calls =
    record {
      answer = IsTold-session before.left s before.taken now.taken told;
      says = HasWritten-session before.left s before.taken now.taken told;
      refused = λ is. absurd (refused is);
      served = served;
      read = read;
      write = write;
      read_later = read_later;
      write_later = write_later;
      nothing = λ stop pieces. absurd (pieces refl);
      passed = λ pieces. absurd (pieces refl);
      waits = waits;
      left = λ ending some. left-session before.left now.left s done limit refused input ending;
      alone = λ nothing. absurd cc;
      says_alone = λ is nothing. absurd cc;
      front = front;
      calls = calls;
    }
