-- The command `bench N LEN COUNT SEED H L`: what is counted of the runs of pairs of random words.
--
-- A state of 64 bits goes over into the next one, and each letter is read from a new state.
-- Source: the generator is D. E. Knuth's, MMIX; how letters are read from it is this project's.
--
--   next_state s               the state after a state
--   letter_at N s              the letter on N strands that is read from a state
--   made_word N k s            k letters, read from the states after s
--   state_after k s            the state after so many
--   Tally                      how many runs ended in each way, and how many reductions were made
--   tallied ..                 the tally of so many pairs
--   tally_text count t         how it is written
--   benched pairs count seed   the answer
--   BenchNumbers               how each pair is made and reduced, how many pairs, and the first state
--   bench_meaning ..           what the command means
--   bench_of words             the numbers of its words
use Rattle.std.specs.Prelude.{◌≡◌, ℕ, zero, suc, ◌+◌, ◌-◌, ◌*◌, ◌/◌, ◌%◌, ◌^◌, ◌==◌, List, [], ◌∷◌, ◌++◌, length, codes, decimal, Option, Some, None}
use Rattle.wb_base.specs.Lines.{line}
use Rattle.wb_base.specs.Status.{Answer, answer}
use Rattle.wb_base.specs.declared.status.Status.TheVariants.{Done}
use Rattle.braid_word.specs.Words.{Letter, letter, quotient}
use Rattle.handle_reduce.specs.Runs.{RunState, run_after}
use Rattle.handle_reduce.specs.declared.TheConstants.{MAX_BOUND}
use Rattle.handle_reduce.specs.declared.progress.Progress.{Progress}
use Rattle.handle_reduce.specs.declared.progress.Progress.TheVariants as progress
use Rattle.trace_format.specs.declared.verdict.Verdict.{Verdict}
use Rattle.trace_format.specs.declared.verdict.Verdict.TheVariants.{Less, Equal, Greater}
use Rattle.trace_format.specs.Verdicts.{verdict_of}
use Rattle.wb_command.specs.Args.{then_read, first_number, last_read, rest_of}
use Rattle.wb_command.specs.Meaning.{Meaning, reads_nothing}
use Rattle.wb_command.specs.declared.TheConstants.{MAX_STRANDS}
use Rattle.wb_words.specs.declared.TheConstants.{MAX_SIZE, MAX_COUNT}
use Rattle.wb_words.specs.declared.bench.Pairs.{Pairs}
use Rattle.wb_words.specs.declared.bench.Tally.{Tally}
use Rattle.wb_words.specs.declared.bench.Tallied.{Tallied}

-- ---- Words ----

-- The state after a state: that after 0 is 1442695040888963407.
abbrev pub next_state : ℕ → ℕ
next_state s = (s * 6364136223846793005 + 1442695040888963407) % (2 ^ 64)

-- The letter that is read from the upper half of a state: an odd half gives an inverse.
abbrev pub letter_of_half : ℕ → ℕ → Letter
letter_of_half strands half = letter (1 + (half / 2) % (strands - 1)) (half % 2 == 1)

abbrev pub letter_at : ℕ → ℕ → Letter
letter_at strands s = letter_of_half strands (s / (2 ^ 32))

-- Letters, each read from the next state.
abbrev pub made_word : ℕ → ℕ → ℕ → List Letter
made_word strands zero s = []
made_word strands (suc count) s = letter_at strands (next_state s) ∷ made_word strands count (next_state s)

-- The state after so many.
abbrev pub state_after : ℕ → ℕ → ℕ
state_after zero s = s
state_after (suc count) s = state_after count (next_state s)

-- ---- Tallies ----

-- One run more that ended so. A run after as many turns as it may reduce handles isn't running, and its sign
-- isn't mixed.
abbrev pub counted_verdict : Option Verdict → Tally → Tally
counted_verdict None t = t
counted_verdict (Some Less) t = record t { less = t.less + 1 }
counted_verdict (Some Equal) t = record t { equal = t.equal + 1 }
counted_verdict (Some Greater) t = record t { greater = t.greater + 1 }

abbrev pub counted_end : Progress → Tally → Tally
counted_end progress.Running t = t
counted_end (progress.Done sign) t = counted_verdict (verdict_of sign) t
counted_end progress.HandlesMet t = record t { handles_met = t.handles_met + 1 }
counted_end progress.LengthMet t = record t { length_met = t.length_met + 1 }

-- The same with its reductions.
abbrev pub counted_run : RunState → Tally → Tally
counted_run run t = counted_end run.progress (record t { handles = t.handles + length run.steps })

-- The run of the quotient of two words that are made from a state on.
abbrev pub made_run : Pairs → ℕ → RunState
made_run pairs s =
    run_after
    (quotient (made_word pairs.strands pairs.size s)
    (made_word pairs.strands pairs.size (state_after pairs.size s)))
    pairs.handles pairs.limit pairs.handles

-- No run was counted yet.
abbrev pub none_counted : Tally
none_counted = record { less = 0; equal = 0; greater = 0; handles_met = 0; length_met = 0; handles = 0 }

-- The runs of so many pairs, one after the other.
abbrev pub tallied : Pairs → ℕ → ℕ → Tally → Tally
tallied pairs zero s t = t
tallied pairs (suc count) s t =
    tallied pairs count (state_after pairs.size (state_after pairs.size s)) (counted_run (made_run pairs s) t)

-- ---- Text ----

abbrev pub numbered : List ℕ → ℕ → List ℕ
numbered name n = line (name ++ decimal n)

-- The lines of the verdicts, and those of the limits that were met and of the reductions.
abbrev pub verdicts_text : Tally → List ℕ
verdicts_text t =
    (numbered (codes "less ") t.less ++ numbered (codes "equal ") t.equal) ++ numbered
    (codes "greater ") t.greater

abbrev pub limits_text : Tally → List ℕ
limits_text t =
    (numbered (codes "handles-met ") t.handles_met ++ numbered (codes "length-met ") t.length_met)
    ++ numbered (codes "handles ") t.handles

-- All lines, after that of the number of pairs.
abbrev pub tally_text : ℕ → Tally → List ℕ
tally_text count t = (numbered (codes "pairs ") count ++ verdicts_text t) ++ limits_text t

-- ---- The command ----

abbrev pub tally_answer : Tallied → Answer
tally_answer t = answer Done (tally_text t.count t.tally)

-- The tally of so many pairs that are made from a state on.
abbrev pub benched : Pairs → ℕ → ℕ → Answer
benched pairs count seed = answer Done (tally_text count (tallied pairs count seed none_counted))

pub record BenchNumbers : Type 0 where
  pub pairs : Pairs
  pub count : ℕ
  pub seed : ℕ

abbrev pub bench_meaning : BenchNumbers → Meaning
bench_meaning n = record {
  reads = reads_nothing;
  answers = λ input a. benched n.pairs n.count n.seed ≡ a;
  says = λ input text. text ≡ tally_text n.count (tallied n.pairs n.count n.seed none_counted);
  refuses = λ input text. ⊥;
  serves = λ before now s. Unit {0};
}

-- With these numbers, and the limits of a run that the last words are.
abbrev pub limits_of : ℕ → ℕ → ℕ → ℕ → List (List ℕ) → Option BenchNumbers
limits_of strands size count seed words =
    then_read (first_number 0 MAX_BOUND words) (λ handles.
    then_read (first_number 0 MAX_BOUND (rest_of words)) (λ limit.
    last_read (rest_of (rest_of words)) (record {
      pairs = record { strands = strands; size = size; handles = handles; limit = limit };
      count = count;
      seed = seed;
    })))

abbrev pub bench_of : List (List ℕ) → Option BenchNumbers
bench_of words =
    then_read (first_number 2 MAX_STRANDS words) (λ strands.
    then_read (first_number 0 MAX_SIZE (rest_of words)) (λ size.
    then_read (first_number 1 MAX_COUNT (rest_of (rest_of words))) (λ count.
    then_read (first_number 0 (2 ^ 64 - 1) (rest_of (rest_of (rest_of words)))) (λ seed.
    limits_of strands size count seed (rest_of (rest_of (rest_of (rest_of words))))))))
