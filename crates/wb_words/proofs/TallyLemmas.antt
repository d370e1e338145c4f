-- Laws of the command `bench`: of its words, its runs and its tallies.
use Rattle.std.proofs.Common.{◌≡◌, ℕ, suc, zero, ◌+◌, ◌-◌, ◌<◌, ◌≤◌, List, [], ◌∷◌, ◌++◌, append_assoc, length, Option, Some, None, refl, sym, ap, ◌∙◌, arith}
use Rattle.std.proofs.lemmas.List.{append-nil}
use Rattle.braid_word.specs.Words.{Letter, quotient}
use Rattle.handle_reduce.specs.Runs.{RunState, LimitedRun, IsRunAfter}
use Rattle.handle_reduce.proofs.RunLemmas.{length-steps}
use Rattle.handle_reduce.specs.declared.TheConstants.{MAX_BOUND}
use Rattle.handle_reduce.specs.declared.progress.Progress.{Progress}
use Rattle.handle_reduce.specs.declared.progress.Progress.TheVariants as progress
use Rattle.trace_format.specs.declared.verdict.Verdict.{Verdict}
use Rattle.trace_format.specs.declared.verdict.Verdict.TheVariants.{Less, Equal, Greater}
use Rattle.trace_format.specs.Verdicts.{verdict_of}
use Rattle.wb_base.specs.Status.{Answer}
use Rattle.wb_command.specs.Meaning.{IsSound}
use Rattle.wb_command.proofs.TermInputLemmas.{done-Refused}
use Rattle.wb_words.specs.declared.TheConstants.{MAX_SIZE}
use Rattle.wb_words.specs.Bench.{letter_at, made_run, made_word, next_state, none_counted, state_after, counted_verdict, counted_end, counted_run, tallied, BenchNumbers, bench_meaning}
use Rattle.wb_words.specs.Benching.{IsWithin}
use Rattle.wb_words.specs.declared.bench.Pairs.{Pairs}
use Rattle.wb_words.specs.declared.bench.Tally.{Tally}

-- ---- Words ----

-- A word and a state lead to a whole word and its last state by so many letters more.
pub record IsMade (strands left : ℕ) (w : List Letter) (s : ℕ) (whole : List Letter) (last : ℕ) : Type 0 where
  pub word : w ++ made_word strands left s ≡ whole
  pub state : state_after left s ≡ last

-- one letter is put
pub IsMade-next
    : (strands size i : ℕ) (w v : List Letter) (x : Letter) (s t : ℕ) (whole : List Letter) (last : ℕ)
    → i < size
    → v ≡ w ++ x ∷ []
    → x ≡ letter_at strands t
    → t ≡ next_state s
    → IsMade strands (size - i) w s whole last
    → IsMade strands (size - (i + 1)) v t whole last
IsMade-next strands size i w v x s t whole last within put is next made =
    let left : size - i ≡ suc (size - (i + 1)) = omega arith in
    let letter : x ≡ letter_at strands (next_state s) = is ∙ ap (letter_at strands) next in
    let more : IsMade strands (suc (size - (i + 1))) w s whole last = rw left at made in
    rw (put, letter, next) (record {
      word = append_assoc w (letter_at strands (next_state s) ∷ [])
          (made_word strands (size - (i + 1)) (next_state s))
          ∙ more.word;
      state = more.state;
    })

-- all are
pub IsMade-done
    : (strands size i : ℕ) (w : List Letter) (s : ℕ) (whole : List Letter) (last : ℕ)
    → size ≤ i
    → IsMade strands (size - i) w s whole last
    → (w ≡ whole) × (s ≡ last)
IsMade-done strands size i w s whole last none made =
    let left : size - i ≡ 0 = omega arith in
    ((sym (append-nil w) ∙ (rw left at made.word)), (rw left at made.state))

-- none are
pub IsMade-begin
    : (strands size : ℕ) (w : List Letter) (s : ℕ)
    → w ≡ []
    → IsMade strands (size - 0) w s (made_word strands size s) (state_after size s)
IsMade-begin strands size w s none =
    let left : size - 0 ≡ size = omega arith in
    rw (left, none) (record { word = refl; state = refl })

-- a word that is made has its size
pub length-made_word : (strands size s : ℕ) → length (made_word strands size s) ≡ size
length-made_word strands zero s = refl
length-made_word strands (suc size) s = let more = length-made_word strands size (next_state s) in
    omega (arith, more)

-- ---- Runs ----

-- a run makes no more reductions than it may
pub run-small
    : (w : List Letter) (handles limit : ℕ) (r : LimitedRun)
    → IsRunAfter w handles limit (0 + handles) r
    → handles ≤ MAX_BOUND
    → length r.run.steps ≤ MAX_BOUND
run-small w handles limit r is small =
    let same = ap (λ (s : LimitedRun). length s.run.steps) is in
    let few = length-steps w handles limit (0 + handles) in
    omega (arith, same, few, small)

-- ---- Tallies ----

-- no more runs than this were counted, and so no more than a greater number
pub IsWithin-more : (k m : ℕ) (t : Tally) → k ≤ m → IsWithin k t → IsWithin m t
IsWithin-more k m t less within = record {
  less = omega (arith, within.less);
  equal = omega (arith, within.equal);
  greater = omega (arith, within.greater);
  handles_met = omega (arith, within.handles_met);
  length_met = omega (arith, within.length_met);
  handles = omega (arith, within.handles);
}

-- one run more is one more
pub IsWithin-counted_run
    : (k : ℕ) (run : RunState) (t : Tally)
    → length run.steps ≤ MAX_BOUND
    → IsWithin k t
    → IsWithin (k + 1) (counted_run run t)
IsWithin-counted_run k run t small within = go run.progress
  where
    base : Tally
    base = record t { handles = t.handles + length run.steps }

    more : IsWithin (k + 1) base
    more = record {
      less = omega (arith, within.less);
      equal = omega (arith, within.equal);
      greater = omega (arith, within.greater);
      handles_met = omega (arith, within.handles_met);
      length_met = omega (arith, within.length_met);
      handles = omega (arith, within.handles, small);
    }

    verdict : (o : Option Verdict) → IsWithin (k + 1) (counted_verdict o base)
    verdict None = more
    verdict (Some Less) = record {
      less = omega (arith, within.less);
      equal = more.equal;
      greater = more.greater;
      handles_met = more.handles_met;
      length_met = more.length_met;
      handles = more.handles;
    }
    verdict (Some Equal) = record {
      less = more.less;
      equal = omega (arith, within.equal);
      greater = more.greater;
      handles_met = more.handles_met;
      length_met = more.length_met;
      handles = more.handles;
    }
    verdict (Some Greater) = record {
      less = more.less;
      equal = more.equal;
      greater = omega (arith, within.greater);
      handles_met = more.handles_met;
      length_met = more.length_met;
      handles = more.handles;
    }

    go : (p : Progress) → IsWithin (k + 1) (counted_end p base)
    go progress.Running = more
    go (progress.Done sign) = verdict (verdict_of sign)
    go progress.HandlesMet = record {
      less = more.less;
      equal = more.equal;
      greater = more.greater;
      handles_met = omega (arith, within.handles_met);
      length_met = more.length_met;
      handles = more.handles;
    }
    go progress.LengthMet = record {
      less = more.less;
      equal = more.equal;
      greater = more.greater;
      handles_met = more.handles_met;
      length_met = omega (arith, within.length_met);
      handles = more.handles;
    }

-- The runs that are left lead to a whole tally, and so many were counted.
pub record IsTallied (pairs : Pairs) (left k s : ℕ) (t whole : Tally) : Type 0 where
  pub whole_is : tallied pairs left s t ≡ whole
  pub within : IsWithin k t

-- one run is counted
pub IsTallied-next
    : (pairs : Pairs) (count k s last : ℕ) (t next whole : Tally)
    → k < count
    → last ≡ state_after pairs.size (state_after pairs.size s)
    → next ≡ counted_run (made_run pairs s) t
    → length (made_run pairs s).steps ≤ MAX_BOUND
    → IsTallied pairs (count - k) k s t whole
    → IsTallied pairs (count - (k + 1)) (k + 1) last next whole
IsTallied-next pairs count k s last t next whole within state counted small so_far =
    let left : count - k ≡ suc (count - (k + 1)) = omega arith in
    rw (state, counted) (record {
      whole_is = rw left at so_far.whole_is;
      within = IsWithin-counted_run k (made_run pairs s) t small so_far.within;
    })

-- fewer than the greatest number of pairs were counted
pub IsTallied-room
    : (pairs : Pairs) (left count k s : ℕ) (t whole : Tally)
    → k < count
    → count ≤ 1000
    → IsTallied pairs left k s t whole
    → IsWithin 999 t
IsTallied-room pairs left count k s t whole below few so_far =
    IsWithin-more k 999 t (omega arith) so_far.within

-- all are
pub IsTallied-done
    : (pairs : Pairs) (count k s : ℕ) (t whole : Tally)
    → count ≤ k
    → IsTallied pairs (count - k) k s t whole
    → t ≡ whole
IsTallied-done pairs count k s t whole none so_far =
    let left : count - k ≡ 0 = omega arith in rw left at so_far.whole_is

-- none is
pub IsTallied-begin
    : (pairs : Pairs) (count s : ℕ)
    → IsTallied pairs (count - 0) 0 s none_counted (tallied pairs count s none_counted)
IsTallied-begin pairs count s =
    let left : count - 0 ≡ count = omega arith in
    rw left (record {
      whole_is = refl;
      within = record {
        less = omega arith;
        equal = omega arith;
        greater = omega arith;
        handles_met = omega arith;
        length_met = omega arith;
        handles = omega arith;
      };
    })

-- ---- The command ----

-- `bench` is sound
pub IsSound-bench : (n : BenchNumbers) → IsSound (bench_meaning n)
IsSound-bench n = record {
  one = λ input a b first second. sym first ∙ second;
  promised = λ input a is done. ap (λ (b : Answer). b.text) (sym is);
  refused = λ input a is refused. done-Refused _ a is refl refused;
  alone = λ nothing input other a is. is;
  plain = λ pieces before now s. tt;
}
