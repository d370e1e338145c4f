-- Laws of a run over any command's meaning.
--
-- An input has one answer at most (`HasAnswer-one`). What a run leaves follows from the answer that was
-- written
-- (`HasRun-read` of a command that has an input, `HasRun-alone` of one that has none).
use Rattle.std.proofs.Common.{◌≡◌, ◌≢◌, ◌⊎◌, inl, inr, ⊎_elim, ℕ, ◌+◌, ◌≤◌, List, [], ◌++◌, length, drop, true, false, Option, Some, None, IfSome, refl, ap, sym, subst, ◌∙◌, arith}
use Rattle.std.specs.Option.{option_map}
use Rattle.std.specs.Io.KnownBytes.{append_known}
use Rattle.std.proofs.lemmas.List.{append-nil, drop_at, drop_all, length-append}
use Rattle.wb_base.specs.Streams.{Ends, ReadsAll, Rose, Skips}
use Rattle.wb_base.specs.Status.{Answer}
use Rattle.wb_base.specs.declared.status.Status.{Status}
use Rattle.wb_base.specs.declared.status.Status.TheVariants.{Done, Refused, Limit, ReadFault, WriteFault, Memory}
use Rattle.wb_command.specs.declared.TheConstants.{MAX_INPUT}
use Rattle.wb_command.specs.Answers.{Told, IsTold, told_answer, IsEnding}
use Rattle.wb_command.specs.Refusals.{input_met}
use Rattle.wb_command.specs.Meaning.{Reads, reads_nothing, reads_whole, reads_pieces, is_whole, Meaning, HasAnswer, past_limit, in_limit, IsSound, HasWritten, HasRun}

-- ---- What a command reads ----

-- the test of a whole input
pub is_whole-true : (r : Reads) → is_whole r ≡ true → r ≡ reads_whole
is_whole-true reads_nothing test = absurd cc
is_whole-true reads_whole test = refl
is_whole-true reads_pieces test = absurd cc

-- what isn't read whole, and not in pieces, isn't read
pub is_whole-false : (r : Reads) → is_whole r ≡ false → r ≢ reads_pieces → r ≡ reads_nothing
is_whole-false reads_nothing test once = refl
is_whole-false reads_whole test once = absurd cc
is_whole-false reads_pieces test once = absurd (once refl)

some_injective : {x y : List ℕ} → Some x ≡ Some y → x ≡ y
some_injective e = cc

-- an input that was read whole, where it is known, is the one that was left
pub HasAnswer-read
    : (m : Meaning) (old new : Option (List ℕ)) (bytes : List ℕ) (a : Answer)
    → ReadsAll old new bytes
    → length bytes ≤ MAX_INPUT
    → m.answers bytes a
    → IfSome old (λ input. HasAnswer m input a)
HasAnswer-read m None new bytes a all within is = tt
HasAnswer-read m (Some input) None bytes a all within is = absurd (let e = all.taken in cc)
HasAnswer-read m (Some input) (Some rest) bytes a all within is =
    let whole : input ≡ bytes = some_injective all.taken ∙ ap (λ tail. bytes ++ tail) all.ended
    ∙ append-nil bytes in
    rw whole (in_limit (λ reads. within) is)

-- and nothing of it is left
pub left-short
    : (old new : Option (List ℕ)) (bytes : List ℕ) (k : ℕ)
    → ReadsAll old new bytes
    → length bytes ≤ k
    → new ≡ option_map (drop (k + 1)) old
left-short None None bytes k all within = refl
left-short None (Some rest) bytes k all within = absurd (let e = all.taken in cc)
left-short (Some input) None bytes k all within = absurd (let e = all.taken in cc)
left-short (Some input) (Some rest) bytes k all within =
    let whole : input ≡ bytes = some_injective all.taken ∙ ap (λ tail. bytes ++ tail) all.ended
    ∙ append-nil bytes in
    ap Some (all.ended ∙ sym (drop_all (k + 1) input (rw whole (omega arith))))

-- and they were its front
pub front-short
    : (old new : Option (List ℕ)) (bytes : List ℕ) (k : ℕ)
    → ReadsAll old new bytes
    → length bytes ≤ k
    → (n : ℕ) × (n ≤ k + 1) × Skips old new n
front-short old new bytes k all within = (length bytes, omega arith, (bytes, refl, all.taken))

-- an input of which a byte past the limit was taken
pub HasAnswer-long
    : (m : Meaning) (old new : Option (List ℕ))
    → m.reads ≡ reads_whole
    → Skips old new (MAX_INPUT + 1)
    → IfSome old (λ input. HasAnswer m input input_met)
HasAnswer-long m None new reads skips = tt
HasAnswer-long m (Some input) None reads (front, size, taken) = absurd cc
HasAnswer-long m (Some input) (Some rest) reads (front, size, taken) =
    past_limit reads (rw (some_injective taken, length-append front rest) (omega arith)) refl

-- keeps what stands after that byte
pub left-long
    : (old new : Option (List ℕ)) (n : ℕ)
    → Skips old new n
    → new ≡ option_map (drop n) old
left-long None None n skips = refl
left-long None (Some rest) n (front, size, taken) = absurd cc
left-long (Some input) None n (front, size, taken) = absurd cc
left-long (Some input) (Some rest) n (front, size, taken) =
    ap Some (sym (rw (some_injective taken) (drop_at front rest n size)))

-- ---- Answers ----

-- an input has one answer
pub HasAnswer-one
    : (m : Meaning) (input : List ℕ) (a b : Answer)
    → IsSound m
    → HasAnswer m input a
    → HasAnswer m input b
    → a ≡ b
HasAnswer-one m input a b sound (past_limit reads long is) (past_limit again also is_too) = sym is ∙ is_too
HasAnswer-one m input a b sound (past_limit reads long is) (in_limit within answers) =
    let low = within reads in absurd (omega arith)
HasAnswer-one m input a b sound (in_limit within answers) (past_limit reads long is) =
    let low = within reads in absurd (omega arith)
HasAnswer-one m input a b sound (in_limit within answers) (in_limit again answers_too) =
    sound.one input a b answers answers_too

-- what the text of one says
HasAnswer-says
    : (m : Meaning) (input : List ℕ) (a : Answer)
    → IsSound m
    → HasAnswer m input a
    → a.status ≡ Done
    → m.says input a.text
HasAnswer-says m input a sound (past_limit reads long is) done =
    let other : Limit ≡ Done = ap (λ (b : Answer). b.status) is ∙ done in absurd cc
HasAnswer-says m input a sound (in_limit within is) done = sound.promised input a is done

-- what a refusal says
HasAnswer-refuses
    : (m : Meaning) (input : List ℕ) (a : Answer)
    → IsSound m
    → HasAnswer m input a
    → a.status ≡ Refused
    → m.refuses input a.text
HasAnswer-refuses m input a sound (past_limit reads long is) refused =
    let other : Limit ≡ Refused = ap (λ (b : Answer). b.status) is ∙ refused in absurd cc
HasAnswer-refuses m input a sound (in_limit within is) refused = sound.refused input a is refused

-- ---- What was written ----

-- What was written of an answer, with this status.
pub record HasPassed (a : Answer) (s : Status) (before now : Ends) : Type 0 where
  pub told : Told a s before.taken now.taken
  pub was_read : s ≢ ReadFault
  pub had_memory : s ≢ Memory
  pub fault : s ≡ WriteFault → Rose before.writes now.writes
  pub later : before.writes ≤ now.writes
  pub waits : s ≢ WriteFault → now.waiting ≡ 0

-- the status of an answer, or of a fault of the sink, is no other
ended-not : (s t : Status) → IsEnding s ⊎ (s ≡ WriteFault) → (IsEnding t → ⊥) → t ≢ WriteFault → s ≢ t
ended-not s t (inl ending) other not is = other (subst IsEnding is ending)
ended-not s t (inr fault) other not is = not (sym is ∙ fault)

-- an answer to a command that was written
pub HasPassed-ended
    : (a : Answer) (s : Status) (before now : Ends)
    → Told a s before.taken now.taken
    → IsEnding s ⊎ (s ≡ WriteFault)
    → (s ≡ WriteFault → Rose before.writes now.writes)
    → before.writes ≤ now.writes
    → (s ≢ WriteFault → now.waiting ≡ 0)
    → HasPassed a s before now
HasPassed-ended a s before now told ending fault later waits = record {
  told = told;
  was_read = ended-not s ReadFault ending (λ e. e) (λ e. absurd cc);
  had_memory = ended-not s Memory ending (λ e. e) (λ e. absurd cc);
  fault = fault;
  later = later;
  waits = waits;
}

-- a text that was written whole
HasWritten-told
    : (m : Meaning) (Holds : List ℕ → List ℕ → Type 0) (input : List ℕ) (a : Answer) (s t : Status)
    (old new : Option (List ℕ))
    → HasAnswer m input a
    → Told a s old new
    → s ≡ t
    → (Told a t old new → (a.status ≡ t) × (new ≡ append_known old a.text))
    → (a.status ≡ t → Holds input a.text)
    → HasWritten m Holds input old new
HasWritten-told m Holds input a s t old new is told status whole holds =
    let (same, took) = whole (subst (λ (r : Status). Told a r old new) status told) in
    (a, is, took, holds same)

-- over an input that is known
HasWritten-known
    : (m : Meaning) (Holds : List ℕ → List ℕ → Type 0) (source : Option (List ℕ)) (a : Answer) (s t : Status)
    (old new : Option (List ℕ))
    → IfSome source (λ input. HasAnswer m input a)
    → Told a s old new
    → s ≡ t
    → (Told a t old new → (a.status ≡ t) × (new ≡ append_known old a.text))
    → ((input : List ℕ) → HasAnswer m input a → a.status ≡ t → Holds input a.text)
    → IfSome source (λ input. HasWritten m Holds input old new)
HasWritten-known m Holds None a s t old new is told status whole holds = tt
HasWritten-known m Holds (Some input) a s t old new is told status whole holds =
    HasWritten-told m Holds input a s t old new is told status whole (holds input is)

-- the answer to an input that is known
IsTold-known
    : (m : Meaning) (source : Option (List ℕ)) (a : Answer) (s : Status) (old new : Option (List ℕ))
    → IfSome source (λ input. HasAnswer m input a)
    → Told a s old new
    → IfSome source (λ input. IsTold (HasAnswer m input) s old new)
IsTold-known m None a s old new is told = tt
IsTold-known m (Some input) a s old new is told = told_answer a is told

-- ---- Runs ----

-- a run of a command that has read its input
pub HasRun-read
    : {S K : Type 0} (m : Meaning) (source after : S) (sink later : K) (before now : Ends) (s : Status)
    (a : Answer)
    → IsSound m
    → m.reads ≡ reads_whole
    → IfSome before.left (λ input. HasAnswer m input a)
    → HasPassed a s before now
    → before.reads ≤ now.reads
    → now.left ≡ option_map (drop (MAX_INPUT + 1)) before.left
    → (n : ℕ) × (n ≤ MAX_INPUT + 1) × Skips before.left now.left n
    → now.calls ≤ before.calls + (MAX_INPUT + 2)
    → HasRun m source after sink later before now s
HasRun-read m source after sink later before now s a sound reads is passed read_later left front calls =
    record {
      answer = IsTold-known m before.left a s before.taken now.taken is passed.told;
      says = λ done. HasWritten-known m m.says before.left a s Done before.taken now.taken is passed.told done
          (λ t. t)
          (λ input. HasAnswer-says m input a sound);
      refused = λ refused. HasWritten-known m m.refuses before.left a s Refused before.taken now.taken is
          passed.told refused
          (λ t. t) (λ input. HasAnswer-refuses m input a sound);
      served = sound.plain (λ pieces. let other = sym reads ∙ pieces in absurd cc) before now s;
      read = λ fault. absurd (passed.was_read fault);
      write = passed.fault;
      read_later = read_later;
      write_later = passed.later;
      nothing = λ stop pieces. absurd (⊎_elim passed.was_read passed.had_memory stop);
      passed = λ pieces no_read no_write no_memory. passed.waits no_write;
      waits = λ no_write none. passed.waits no_write;
      left = λ ending some. left;
      alone = λ nothing. let other = sym reads ∙ nothing in absurd cc;
      says_alone = λ done nothing. let other = sym reads ∙ nothing in absurd cc;
      front = front;
      calls = calls;
    }

-- a run of one that has none
pub HasRun-alone
    : {S K : Type 0} (m : Meaning) (source : S) (sink later : K) (before now : Ends) (s : Status) (a : Answer)
    → IsSound m
    → m.reads ≡ reads_nothing
    → m.answers [] a
    → HasPassed a s before now
    → now.left ≡ before.left
    → now.reads ≡ before.reads
    → now.calls ≡ before.calls
    → HasRun m source source sink later before now s
HasRun-alone m source sink later before now s a sound reads is passed left faults calls =
    let any : (input : List ℕ) → HasAnswer m input a
    = λ input. in_limit (λ whole. let other = sym reads ∙ whole in absurd cc)
    (sound.alone reads [] input a is) in
    let known = IfSome-all before.left a any in
    record {
      answer = IsTold-known m before.left a s before.taken now.taken known passed.told;
      says = λ done. HasWritten-known m m.says before.left a s Done before.taken now.taken known passed.told
          done (λ t. t)
          (λ input. HasAnswer-says m input a sound);
      refused = λ refused. HasWritten-known m m.refuses before.left a s Refused before.taken now.taken known
          passed.told
          refused (λ t. t) (λ input. HasAnswer-refuses m input a sound);
      served = sound.plain (λ pieces. let other = sym reads ∙ pieces in absurd cc) before now s;
      read = λ fault. absurd (passed.was_read fault);
      write = passed.fault;
      read_later = omega (arith, faults);
      write_later = passed.later;
      nothing = λ stop pieces. absurd (⊎_elim passed.was_read passed.had_memory stop);
      passed = λ pieces no_read no_write no_memory. passed.waits no_write;
      waits = λ no_write none. passed.waits no_write;
      left = λ ending some. absurd (some reads);
      alone = λ nothing. (refl, passed.was_read, told_answer a (any []) passed.told);
      says_alone = λ done nothing. HasWritten-told m m.says [] a s Done before.taken now.taken
          (any []) passed.told done
          (λ t. t) (HasAnswer-says m [] a sound (any []));
      front = (0, omega arith, Skips-none before.left now.left left);
      calls = omega (arith, calls);
    }
  where
    IfSome-all
        : (source : Option (List ℕ)) (a : Answer)
        → ((input : List ℕ) → HasAnswer m input a)
        → IfSome source (λ input. HasAnswer m input a)
    IfSome-all None a any = tt
    IfSome-all (Some input) a any = any input

    Skips-none : (old new : Option (List ℕ)) → new ≡ old → Skips old new 0
    Skips-none None new same = rw same ([], refl, refl)
    Skips-none (Some input) new same = rw same ([], refl, refl)
