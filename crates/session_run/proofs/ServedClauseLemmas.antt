-- What `HasServed` says in the clauses of `serve`.
use Rattle.std.proofs.Common.{◌≡◌, ◌≢◌, ℕ, ◌+◌, ◌≤◌, List, [], ◌++◌, length, take, Option, Some, None, IfSome, refl, ap, sym, subst, ◌∙◌, arith}
use Rattle.std.proofs.lemmas.List.{append-nil, length-append, take-append-le}
use Rattle.std.specs.Io.KnownBytes.{append_known, prepend_known}
use Rattle.wb_base.specs.Lines.{lines_of, whole_lines}
use Rattle.wb_base.specs.Streams.{Ends, ReadsAll, Rose, Skips}
use Rattle.wb_base.specs.declared.status.Status.{Status}
use Rattle.wb_base.specs.declared.status.Status.TheVariants.{Done, Refused, Words, Input, Limit, ReadFault, WriteFault, Memory}
use Rattle.session_run.specs.declared.TheConstants.{MAX_INPUT}
use Rattle.session_run.specs.Conversation.{answers, limit_line, session_answer}
use Rattle.session_run.specs.Serving.{told, IsCutOff, IsShort, IsTold, Leaves, Rises, Passes, HasServed}
use Rattle.session_run.proofs.ServingLemmas.{session_answer-within, session_answer-past}

-- ---- What an end is in the clauses of `serve` ----

-- what was told is the answer to the whole input
told_by
    : (s : Status) (front later given : List ℕ) (old new : Option (List ℕ))
    → Leaves s front (Some later) given
    → new ≡ append_known old given
    → IsTold (session_answer (front ++ later)) s old new
told_by Done front later given old new (short, ended, all) took =
    let input : front ++ later ≡ front = ap (λ z. front ++ z) ended ∙ append-nil front in
    subst (λ z. IsTold z Done old new) (sym (ap session_answer input ∙ session_answer-within front short))
    (refl, took ∙ ap (append_known old) all)
told_by Limit front later given old new (long, all) took =
    let within : take MAX_INPUT (front ++ later) ≡ take MAX_INPUT front =
    take-append-le MAX_INPUT front later (omega (arith, long)) in
    let past = session_answer-past (front ++ later) (omega (arith, length-append front later, long)) in
    subst (λ z. IsTold z Limit old new) (sym past) (
      refl,
      took ∙ ap (append_known old)
          (all ∙ ap (λ z. answers [] (whole_lines z) ++ limit_line) (sym within)),
    )
told_by ReadFault front later given old new leaves took = tt
told_by WriteFault front later given old new leaves took = (given, leaves.rest, leaves.within, took)
told_by Memory front later given old new leaves took = tt
told_by Refused front later given old new leaves took = absurd leaves
told_by Words front later given old new leaves took = absurd leaves
told_by Input front later given old new leaves took = absurd leaves

-- the same, where the source may not tell its bytes
told_from
    : (s : Status) (front given : List ℕ) (source left old new : Option (List ℕ))
    → source ≡ prepend_known front left
    → Leaves s front left given
    → new ≡ append_known old given
    → IfSome source (λ input. IsTold (session_answer input) s old new)
told_from s front given None left old new bytes leaves took = tt
told_from s front given (Some input) None old new bytes leaves took = absurd cc
told_from s front given (Some input) (Some later) old new bytes leaves took =
    let all : front ++ later ≡ input = cc in
    subst (λ z. IsTold (session_answer z) s old new) all (told_by s front later given old new leaves took)

-- the answer was told
pub ends-answer
    : (before now : Ends) (s : Status)
    → HasServed before now s
    → IfSome before.left (λ input. IsTold (session_answer input) s before.taken now.taken)
ends-answer before now s served =
    told_from s served.front served.given before.left now.left before.taken now.taken served.bytes
    served.leaves served.took

-- what was given, at a status that is known
leaves-at
    : (before now : Ends) (s t : Status) (served : HasServed before now s)
    → s ≡ t
    → Leaves t served.front now.left served.given
leaves-at before now s t served is = subst (λ z. Leaves z served.front now.left served.given) is served.leaves

-- at the end of the input
pub ends-done
    : (before now : Ends) (s : Status)
    → HasServed before now s
    → s ≡ Done
    → (input : List ℕ) × ReadsAll before.left now.left input × (length input ≤ MAX_INPUT)
    × (now.taken ≡ append_known before.taken (answers [] (lines_of input)))
ends-done before now s served is =
    let (short, ended, all) = leaves-at before now s Done served is in (
      served.front,
      record { taken = served.bytes; ended = ended },
      short,
      served.took
          ∙ ap (append_known before.taken) all,
    )

-- past the limit
pub ends-limit
    : (before now : Ends) (s : Status)
    → HasServed before now s
    → s ≡ Limit
    → (front : List ℕ) × (length front ≡ MAX_INPUT + 1) × (before.left ≡ prepend_known front now.left)
    × (now.taken
    ≡ append_known before.taken (answers [] (whole_lines (take MAX_INPUT front)) ++ limit_line))
ends-limit before now s served is =
    let (long, all) = leaves-at before now s Limit served is in
    (served.front, long, served.bytes, served.took ∙ ap (append_known before.taken) all)

-- at a fault of the source
pub ends-read
    : (before now : Ends) (s : Status)
    → HasServed before now s
    → s ≡ ReadFault
    → (front : List ℕ) × (before.left ≡ prepend_known front now.left)
    × (now.taken ≡ append_known before.taken (answers [] (whole_lines front)))
ends-read before now s served is =
    let all = leaves-at before now s ReadFault served is in
    (served.front, served.bytes, served.took ∙ ap (append_known before.taken) all)

-- at a fault of the sink
pub ends-write
    : (before now : Ends) (s : Status)
    → HasServed before now s
    → s ≡ WriteFault
    → (front : List ℕ) × (given : List ℕ) × (before.left ≡ prepend_known front now.left)
    × (now.taken ≡ append_known before.taken given) × IsCutOff front (told now.left) given
ends-write before now s served is =
    (served.front, served.given, served.bytes, served.took, leaves-at before now s WriteFault served is)

-- for want of memory
pub ends-memory
    : (before now : Ends) (s : Status)
    → HasServed before now s
    → s ≡ Memory
    → (front : List ℕ) × (given : List ℕ) × (before.left ≡ prepend_known front now.left)
    × (now.taken ≡ append_known before.taken given) × IsShort front given
ends-memory before now s served is =
    (served.front, served.given, served.bytes, served.took, leaves-at before now s Memory served is)

-- no other status comes
pub ends-never
    : (before now : Ends) (s : Status)
    → HasServed before now s
    → (s ≢ Refused) × (s ≢ Words) × (s ≢ Input)
ends-never before now s served = (
  leaves-at before now s Refused served,
  leaves-at before now s Words served,
  leaves-at before now s Input served,
)

-- the count of the source rose
pub ends-read_fault
    : (before now : Ends) (s : Status)
    → HasServed before now s
    → s ≡ ReadFault
    → Rose before.reads now.reads
ends-read_fault before now s served is = subst (λ z. Rises z before now) is served.rises

-- the count of the sink rose
pub ends-write_fault
    : (before now : Ends) (s : Status)
    → HasServed before now s
    → s ≡ WriteFault
    → Rose before.writes now.writes
ends-write_fault before now s served is = subst (λ z. Rises z before now) is served.rises

-- no byte waits
passes-at : (s : Status) (before now : ℕ) → Passes s before now → s ≢ WriteFault → before ≡ 0 → now ≡ 0
passes-at WriteFault before now passes other = absurd (other refl)
passes-at Done before now passes other = passes
passes-at Limit before now passes other = passes
passes-at ReadFault before now passes other = passes
passes-at Memory before now passes other = passes
passes-at Refused before now passes other = passes
passes-at Words before now passes other = passes
passes-at Input before now passes other = passes

-- the same, of a session
pub ends-waits
    : (before now : Ends) (s : Status)
    → HasServed before now s
    → s ≢ WriteFault
    → before.waiting ≡ 0
    → now.waiting ≡ 0
ends-waits before now s served other = passes-at s before.waiting now.waiting served.passes other

-- so many bytes were taken
pub ends-front
    : (before now : Ends) (s : Status)
    → HasServed before now s
    → (n : ℕ) × (n ≤ MAX_INPUT + 1) × Skips before.left now.left n
ends-front before now s served = (length served.front, served.short, (served.front, refl, served.bytes))
