-- How a session over streams goes on.
--
-- What answers the bytes heard so far is a front of what answers the whole input. Each lemma on steps is of
-- one step of a session.
use Rattle.std.proofs.Common.{◌≡◌, ℕ, suc, zero, ◌+◌, ◌-◌, ◌<◌, ◌≤◌, List, [], ◌∷◌, ◌++◌, length, take, drop, Option, refl, ap, sym, subst, ◌∙◌, inl, inr, arith, append_assoc}
use Rattle.std.proofs.lemmas.Bool.{lt-ltb, le-ltb, cases_lt}
use Rattle.std.proofs.lemmas.List.{append-nil, length-append, take-append-le, take-append-drop}
use Rattle.std.proofs.Math.Seq.{take-append_seam}
use Rattle.std.specs.Io.KnownBytes.{append_known, prepend_known, IsAtEnd}
use Rattle.wb_base.specs.Lines.{lines_of, whole_lines}
use Rattle.wb_base.specs.Streams.{Ends, one_more}
use Rattle.wb_base.proofs.StreamLemmas.{append_known-nil, append_known-two, prepend_known-nil, prepend_known-two}
use Rattle.wb_base.specs.declared.status.Status.TheVariants.{Done, Limit}
use Rattle.session_run.specs.declared.TheConstants.{MAX_INPUT, MAX_PIECE}
use Rattle.session_run.specs.Jobs.{Job}
use Rattle.session_run.specs.Conversation.{answers, limit_line, last_answer, session_answer, silent, heard_all}
use Rattle.session_run.specs.Serving.{settled, IsCutOff, IsShort, HasHeard, IsAtLast, IsPast}
use Rattle.session_run.proofs.TalkLemmas.{heard_all-append, Grows-all}
use Rattle.session_run.proofs.ConversationLemmas.{heard_all-text, heard_all-ended, heard_all-more_bytes, whole_lines-front, Precedes}

-- ---- Fronts ----

-- A list begins with another.
pub record Begins (all front : List ℕ) : Type 0 where
  pub more : List ℕ
  pub parts : all ≡ front ++ more

-- a front of as many as it has
pub take-seam : (n : ℕ) (front more : List ℕ) → length front ≡ n → take n (front ++ more) ≡ front
take-seam n front more is = rw (sym is) (take-append_seam front more)

-- a longer front has a shorter one
take-begins : (n : ℕ) (front more : List ℕ) → length front ≤ n → Begins (take n (front ++ more)) front
take-begins n [] more within = record { more = take n more; parts = refl }
take-begins zero (x ∷ front) more within = absurd (omega arith)
take-begins (suc n) (x ∷ front) more within =
    let rest = take-begins n front more (omega arith) in
    record { more = rest.more; parts = ap (λ z. x ∷ z) rest.parts }

-- what was given for more bytes begins with what was given for a front of them
heard-begins
    : (all front : List ℕ)
    → Begins all front
    → Begins (heard_all silent all).text (heard_all silent front).text
heard-begins all front begins =
    let grows = Grows-all (heard_all silent front) begins.more in
    record {
      more = grows.more;
      parts = ap (λ z. (heard_all silent z).text) begins.parts
          ∙ ap (λ z. z.text) (heard_all-append silent front begins.more)
          ∙ grows.parts;
    }

-- the bytes that are settled are a front of what was heard of them
pub settled-begins
    : (heard piece extra : List ℕ)
    → length piece ≤ MAX_PIECE
    → Begins (heard ++ extra) (settled (heard ++ piece))
settled-begins heard piece extra short =
    let k = length (heard ++ piece) - MAX_PIECE in
    let within : k ≤ length heard = omega (arith, length-append heard piece, short) in
    record {
      more = drop k heard ++ extra;
      parts = ap (λ z. z ++ extra) (sym (take-append-drop k heard))
          ∙ append_assoc (take k heard) (drop k heard) extra
          ∙ ap (λ z. z ++ (drop k heard ++ extra)) (sym (take-append-le k heard piece within));
    }

-- the whole lines of a front were answered
answers-begin
    : (all front : List ℕ)
    → Begins all front
    → Begins (heard_all silent all).text (answers [] (whole_lines front))
answers-begin all front begins =
    let later = heard-begins all front begins in
    record { more = later.more; parts = later.parts ∙ ap (λ z. z ++ later.more) (heard_all-text front) }

-- ---- The answer to a whole input ----

-- within the limit
pub session_answer-within
    : (input : List ℕ)
    → length input ≤ MAX_INPUT
    → session_answer input ≡ record { status = Done; text = answers [] (lines_of input) }
session_answer-within input short = rw (le-ltb MAX_INPUT (length input) short) refl

-- past the limit
pub session_answer-past
    : (input : List ℕ)
    → MAX_INPUT < length input
    → session_answer input
    ≡ record { status = Limit; text = answers [] (whole_lines (take MAX_INPUT input)) ++ limit_line }
session_answer-past input long = rw (lt-ltb MAX_INPUT (length input) long) refl

-- one byte past the limit, whatever follows it
pub past-text
    : (front byte later : List ℕ)
    → length front ≡ MAX_INPUT
    → length byte ≡ 1
    → session_answer ((front ++ byte) ++ later)
    ≡ record { status = Limit; text = (heard_all silent front).text ++ limit_line }
past-text front byte later full one =
    let long : MAX_INPUT < length ((front ++ byte) ++ later) =
    omega (arith, length-append (front ++ byte) later, length-append front byte, full, one) in
    let within : take MAX_INPUT ((front ++ byte) ++ later) ≡ front =
    ap (take MAX_INPUT) (append_assoc front byte later)
    ∙ take-seam MAX_INPUT front (byte ++ later) full in
    session_answer-past ((front ++ byte) ++ later) long
    ∙ ap (λ z. record { status = Limit; text = z ++ limit_line })
    (ap (λ z. answers [] (whole_lines z)) within ∙ sym (heard_all-text front))

-- the answer to a whole input begins with what was given for a front of it
pub answer-begins
    : (front later : List ℕ)
    → length front ≤ MAX_INPUT
    → Begins (session_answer (front ++ later)).text (heard_all silent front).text
answer-begins front later short = elim (cases_lt MAX_INPUT (length (front ++ later))) [
  | inl long ↦
      let begins =
      heard-begins (take MAX_INPUT (front ++ later)) front (take-begins MAX_INPUT front later short) in
      record {
        more = begins.more ++ limit_line;
        parts = ap (λ z. z.text) (session_answer-past (front ++ later) long)
            ∙ ap (λ z. z ++ limit_line)
            (sym (heard_all-text (take MAX_INPUT (front ++ later))) ∙ begins.parts)
            ∙ append_assoc (heard_all silent front).text begins.more limit_line;
      }
  | inr within ↦
      let begins = heard-begins (front ++ later) front (record { more = later; parts = refl }) in
      let all = heard_all silent (front ++ later) in
      record {
        more = begins.more ++ last_answer all.jobs all.rest;
        parts = ap (λ z. z.text) (session_answer-within (front ++ later) within)
            ∙ sym (heard_all-ended (front ++ later))
            ∙ ap (λ z. z ++ last_answer all.jobs all.rest) begins.parts
            ∙ append_assoc (heard_all silent front).text begins.more (last_answer all.jobs all.rest);
      }
]

-- ---- Text that was cut off, lines that weren't answered ----

-- the text stopped while a piece was heard
pub cut_off
    : (heard piece later given text rest : List ℕ)
    → length piece ≤ MAX_PIECE
    → text ≡ given ++ rest
    → Begins (session_answer ((heard ++ piece) ++ later)).text ((heard_all silent heard).text ++ text)
    → IsCutOff (heard ++ piece) later ((heard_all silent heard).text ++ given)
cut_off heard piece later given text rest short cut begins =
    let so_far = (heard_all silent heard).text in
    let start = answers-begin (heard ++ []) (settled (heard ++ piece))
    (settled-begins heard piece [] short) in
    record {
      more = start.more ++ given;
      settles = ap (λ z. z ++ given)
          (ap (λ z. (heard_all silent z).text) (sym (append-nil heard)) ∙ start.parts)
          ∙ append_assoc (answers [] (whole_lines (settled (heard ++ piece)))) start.more given;
      rest = rest ++ begins.more;
      within = begins.parts
          ∙ ap (λ z. (so_far ++ z) ++ begins.more) cut
          ∙ append_assoc so_far (given ++ rest) begins.more
          ∙ ap (λ z. so_far ++ z) (append_assoc given rest begins.more)
          ∙ sym (append_assoc so_far given (rest ++ begins.more));
    }

-- a line wasn't answered that follows the whole lines of some bytes
pub short_of
    : (front heard given : List ℕ)
    → Precedes (lines_of front) (whole_lines heard)
    → Begins heard (settled front)
    → given ≡ answers [] (whole_lines heard)
    → IsShort front given
short_of front heard given before begins is =
    let first = whole_lines heard in
    let follows = whole_lines-front (settled front) begins.more in
    let size : length first ≡ length (whole_lines (settled front)) + length follows.others
    = ap (λ z. length (whole_lines z)) begins.parts ∙ ap length follows.parts
    ∙ length-append (whole_lines (settled front)) follows.others in
    let all : length (lines_of front) ≡ length first + suc (length before.others)
    = ap length before.parts ∙ length-append first (before.next ∷ before.others) in
    record {
      count = length first;
      there = omega (arith, all);
      settles = omega (arith, size);
      exact = is ∙ ap (answers []) (sym
          (ap (take (length first)) before.parts ∙ take-append_seam first (before.next ∷ before.others)));
    }

-- ---- Steps of a session ----

-- a session begins
pub HasHeard-begun : (before : Ends) → HasHeard before before [] [] 0
HasHeard-begun before = record {
  front = [];
  counted = refl;
  short = omega arith;
  bytes = sym (prepend_known-nil before.left);
  open_jobs = refl;
  open_line = refl;
  took = sym (append_known-nil before.taken);
  later_read = omega arith;
  later_write = omega arith;
  calls = omega arith;
  waits = λ none. none;
}

-- a piece was heard
pub HasHeard-more
    : (before now : Ends) (jobs jobs' : List Job) (rest rest' : List ℕ) (count n : ℕ) (piece : List ℕ)
    (left taken : Option (List ℕ)) (reads calls waiting writes : ℕ)
    → HasHeard before now jobs rest count
    → now.left ≡ prepend_known piece left
    → length piece ≡ n
    → 0 < n
    → count + n ≤ MAX_INPUT
    → now.reads ≤ reads
    → calls ≡ one_more now.calls
    → jobs' ≡ (heard_all (record { jobs = jobs; rest = rest; text = [] }) piece).jobs
    → rest' ≡ (heard_all (record { jobs = jobs; rest = rest; text = [] }) piece).rest
    → taken ≡ append_known now.taken (heard_all (record { jobs = jobs; rest = rest; text = [] }) piece).text
    → now.writes ≤ writes
    → (now.waiting ≡ 0 → waiting ≡ 0)
    → HasHeard before
    (record {
      left = left;
      reads = reads;
      calls = calls;
      taken = taken;
      waiting = waiting;
      writes = writes;
    }) jobs' rest' (count + n)
HasHeard-more before now jobs jobs' rest rest' count n piece left taken reads calls waiting writes kept bytes
    size some room later_read counted jobs_are rest_is took later_write passes =
    let more = heard_all-more_bytes kept.front piece in
    let jobs_more = rw (kept.open_jobs, kept.open_line) at jobs_are in
    let rest_more = rw (kept.open_jobs, kept.open_line) at rest_is in
    let took_more = rw (kept.open_jobs, kept.open_line) at took in
    record {
      front = kept.front ++ piece;
      counted = omega (arith, length-append kept.front piece, kept.counted, size);
      short = room;
      bytes = prepend_known-two before.left now.left left kept.front piece kept.bytes bytes;
      open_jobs = jobs_more ∙ sym (ap (λ z. z.jobs) more);
      open_line = rest_more ∙ sym (ap (λ z. z.rest) more);
      took = append_known-two before.taken now.taken taken _ _ kept.took took_more
          ∙ ap (append_known before.taken) (sym (ap (λ z. z.text) more));
      later_read = omega (arith, kept.later_read, later_read);
      later_write = omega (arith, kept.later_write, later_write);
      calls = omega (arith, kept.calls, counted, some);
      waits = λ none. passes (kept.waits none);
    }

-- the source is at its end
pub IsAtLast-now
    : (before now : Ends) (jobs : List Job) (rest : List ℕ) (count n : ℕ) (into : List ℕ)
    (left : Option (List ℕ)) (reads calls : ℕ)
    → HasHeard before now jobs rest count
    → now.left ≡ prepend_known (take n into) left
    → (n ≡ 0 → 0 < length into → IsAtEnd now.left)
    → n ≡ 0
    → 0 < length into
    → now.reads ≤ reads
    → calls ≡ one_more now.calls
    → IsAtLast before
    (record {
      left = left;
      reads = reads;
      calls = calls;
      taken = now.taken;
      waiting = now.waiting;
      writes = now.writes;
    }) jobs rest
IsAtLast-now before now jobs rest count n into left reads calls kept bytes ends none some later counted =
    let same_left : now.left ≡ left =
    bytes ∙ ap (λ z. prepend_known (take z into) left) none ∙ prepend_known-nil left in
    record {
      front = kept.front;
      short = omega (arith, kept.counted, kept.short);
      bytes = kept.bytes ∙ ap (prepend_known kept.front) same_left;
      ended = subst IsAtEnd same_left (ends none some);
      open_jobs = kept.open_jobs;
      open_line = kept.open_line;
      took = kept.took;
      later_read = omega (arith, kept.later_read, later);
      later_write = kept.later_write;
      calls = omega (arith, kept.calls, kept.short, counted);
      waits = kept.waits;
    }

-- a byte past the limit has come
pub IsPast-now
    : (before now : Ends) (jobs : List Job) (rest : List ℕ) (count : ℕ) (piece : List ℕ)
    (left : Option (List ℕ)) (reads calls : ℕ)
    → HasHeard before now jobs rest count
    → count ≡ MAX_INPUT
    → now.left ≡ prepend_known piece left
    → length piece ≡ 1
    → now.reads ≤ reads
    → calls ≡ one_more now.calls
    → IsPast before
    (record {
      left = left;
      reads = reads;
      calls = calls;
      taken = now.taken;
      waiting = now.waiting;
      writes = now.writes;
    })
IsPast-now before now jobs rest count piece left reads calls kept full bytes one later counted = record {
  front = kept.front;
  byte = piece;
  full = kept.counted ∙ full;
  one = one;
  bytes = prepend_known-two before.left now.left left kept.front piece kept.bytes bytes;
  took = kept.took;
  later_read = omega (arith, kept.later_read, later);
  later_write = kept.later_write;
  calls = omega (arith, kept.calls, kept.short, counted);
  waits = kept.waits;
}
