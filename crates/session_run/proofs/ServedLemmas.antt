-- How a session over streams ends: a lemma for each of its ends.
use Rattle.std.proofs.Common.{◌≡◌, ℕ, ◌+◌, ◌<◌, ◌≤◌, List, [], ◌++◌, length, take, drop, Option, Some, None, refl, ap, sym, subst, ◌∙◌, arith, append_assoc}
use Rattle.std.proofs.lemmas.List.{append-nil, length-append, take-append-drop, length-drop}
use Rattle.std.specs.Io.KnownBytes.{append_known, prepend_known, IsAtEnd}
use Rattle.wb_base.specs.Lines.{lines_of, whole_lines}
use Rattle.wb_base.specs.Streams.{Ends, PutsFront, Rose, one_more}
use Rattle.wb_base.proofs.StreamLemmas.{append_known-two, prepend_known-two}
use Rattle.wb_base.specs.declared.status.Status.TheVariants.{Done, Limit, ReadFault, WriteFault, Memory}
use Rattle.session_run.specs.declared.TheConstants.{MAX_INPUT, MAX_PIECE}
use Rattle.session_run.specs.Jobs.{Job}
use Rattle.session_run.specs.Conversation.{answers, limit_line, last_answer, session_answer, silent, heard_all}
use Rattle.session_run.specs.Serving.{settled, told, IsCutOff, HasServed, HasHeard, IsAtLast, IsPast}
use Rattle.session_run.proofs.ConversationLemmas.{heard_all-text, heard_all-ended, heard_all-more_bytes, Precedes, lines_of-front, lines_of-open}
use Rattle.session_run.proofs.ServingLemmas.{Begins, take-seam, settled-begins, session_answer-within, past-text, answer-begins, cut_off, short_of}

-- ---- Ends of a session ----

-- a fault of the source
pub served-read
    : (before now : Ends) (jobs : List Job) (rest : List ℕ) (count : ℕ) (left : Option (List ℕ))
    (reads calls : ℕ)
    → HasHeard before now jobs rest count
    → left ≡ now.left
    → Rose now.reads reads
    → now.reads ≤ reads
    → calls ≡ one_more now.calls
    → HasServed before
    (record {
      left = left;
      reads = reads;
      calls = calls;
      taken = now.taken;
      waiting = now.waiting;
      writes = now.writes;
    }) ReadFault
served-read before now jobs rest count left reads calls kept same_left rose later counted = record {
  front = kept.front;
  short = omega (arith, kept.counted, kept.short);
  bytes = kept.bytes ∙ ap (prepend_known kept.front) (sym same_left);
  given = (heard_all silent kept.front).text;
  took = kept.took;
  leaves = heard_all-text kept.front;
  rises = omega (arith, rose, kept.later_read);
  later_read = omega (arith, kept.later_read, later);
  later_write = kept.later_write;
  calls = omega (arith, kept.calls, kept.short, counted);
  passes = kept.waits;
}

-- the end of the input, where all lines were answered
pub served-done
    : (before now : Ends) (jobs : List Job) (rest line : List ℕ) (taken : Option (List ℕ))
    (waiting writes : ℕ)
    → IsAtLast before now jobs rest
    → line ≡ rest
    → taken ≡ append_known now.taken (last_answer jobs line)
    → now.writes ≤ writes
    → (now.waiting ≡ 0 → waiting ≡ 0)
    → HasServed before
    (record {
      left = now.left;
      reads = now.reads;
      calls = now.calls;
      taken = taken;
      waiting = waiting;
      writes = writes;
    }) Done
served-done before now jobs rest line taken waiting writes kept is took later passes =
    let last = rw (is, kept.open_jobs, kept.open_line) at took in
    record {
      front = kept.front;
      short = omega (arith, kept.short);
      bytes = kept.bytes;
      given = answers [] (lines_of kept.front);
      took = append_known-two before.taken now.taken taken _ _ kept.took last
          ∙ ap (append_known before.taken) (heard_all-ended kept.front);
      leaves = (kept.short, kept.ended, refl);
      rises = _;
      later_read = kept.later_read;
      later_write = omega (arith, kept.later_write, later);
      calls = omega (arith, kept.calls);
      passes = λ none. passes (kept.waits none);
    }

-- at the end no byte is told
told-end : (left : Option (List ℕ)) → IsAtEnd left → told left ≡ []
told-end None ended = refl
told-end (Some xs) ended = ended

-- the end of the input, where the sink met a fault
pub served-cut_last
    : (before now : Ends) (jobs : List Job) (rest line : List ℕ) (taken : Option (List ℕ))
    (waiting writes : ℕ)
    → IsAtLast before now jobs rest
    → line ≡ rest
    → PutsFront now.taken taken (last_answer jobs line)
    → now.writes ≤ writes
    → Rose now.writes writes
    → HasServed before
    (record {
      left = now.left;
      reads = now.reads;
      calls = now.calls;
      taken = taken;
      waiting = waiting;
      writes = writes;
    }) WriteFault
served-cut_last before now jobs rest line taken waiting writes kept is (given, others, cut, took) later rose =
    let last = rw (is, kept.open_jobs, kept.open_line) at cut in
    let all = heard_all silent kept.front in
    let none : (kept.front ++ []) ++ told now.left ≡ kept.front =
    ap (λ z. (kept.front ++ []) ++ z) (told-end now.left kept.ended) ∙ append-nil (kept.front ++ [])
    ∙ append-nil kept.front in
    let answer : (session_answer ((kept.front ++ []) ++ told now.left)).text
    ≡ (all.text ++ last_answer all.jobs all.rest) ++ []
    = ap (λ z. (session_answer z).text) none
    ∙ ap (λ z. z.text) (session_answer-within kept.front kept.short)
    ∙ sym (heard_all-ended kept.front)
    ∙ sym (append-nil (all.text ++ last_answer all.jobs all.rest)) in
    let off = cut_off kept.front [] (told now.left) given (last_answer all.jobs all.rest) others (omega arith)
    last (record { more = []; parts = answer }) in
    record {
      front = kept.front;
      short = omega (arith, kept.short);
      bytes = kept.bytes;
      given = all.text ++ given;
      took = append_known-two before.taken now.taken taken all.text given kept.took took;
      leaves = subst (λ z. IsCutOff z (told now.left) (all.text ++ given)) (append-nil kept.front) off;
      rises = omega (arith, rose, kept.later_write);
      later_read = kept.later_read;
      later_write = omega (arith, kept.later_write, later);
      calls = omega (arith, kept.calls);
      passes = _;
    }

-- the end of the input, where memory ran out
pub served-short_last
    : (before now : Ends) (jobs : List Job) (rest line : List ℕ) (taken : Option (List ℕ))
    (waiting writes : ℕ)
    → IsAtLast before now jobs rest
    → line ≡ rest
    → 0 < length line
    → taken ≡ now.taken
    → now.writes ≤ writes
    → (now.waiting ≡ 0 → waiting ≡ 0)
    → HasServed before
    (record {
      left = now.left;
      reads = now.reads;
      calls = now.calls;
      taken = taken;
      waiting = waiting;
      writes = writes;
    }) Memory
served-short_last before now jobs rest line taken waiting writes kept is some took later passes =
    let open_size : 0 < length (heard_all silent kept.front).rest = rw (is, kept.open_line) at some in
    let begins = settled-begins kept.front [] [] (omega arith) in
    let start : Begins kept.front (settled kept.front) = rw (append-nil kept.front) at begins in
    record {
      front = kept.front;
      short = omega (arith, kept.short);
      bytes = kept.bytes;
      given = (heard_all silent kept.front).text;
      took = took ∙ kept.took;
      leaves = short_of kept.front kept.front _ (lines_of-open kept.front open_size) start
          (heard_all-text kept.front);
      rises = _;
      later_read = kept.later_read;
      later_write = omega (arith, kept.later_write, later);
      calls = omega (arith, kept.calls);
      passes = λ none. passes (kept.waits none);
    }

-- the limit, which was named
pub served-limit
    : (before now : Ends) (taken : Option (List ℕ)) (waiting writes : ℕ)
    → IsPast before now
    → taken ≡ append_known now.taken limit_line
    → now.writes ≤ writes
    → waiting ≡ 0
    → HasServed before
    (record {
      left = now.left;
      reads = now.reads;
      calls = now.calls;
      taken = taken;
      waiting = waiting;
      writes = writes;
    }) Limit
served-limit before now taken waiting writes kept took later passed =
    let within : take MAX_INPUT (kept.front ++ kept.byte) ≡ kept.front =
    take-seam MAX_INPUT kept.front kept.byte kept.full in
    record {
      front = kept.front ++ kept.byte;
      short = omega (arith, length-append kept.front kept.byte, kept.full, kept.one);
      bytes = kept.bytes;
      given = (heard_all silent kept.front).text ++ limit_line;
      took = append_known-two before.taken now.taken taken _ limit_line kept.took took;
      leaves = (
        omega (arith, length-append kept.front kept.byte, kept.full, kept.one),
        ap (λ z. z ++ limit_line)
            (heard_all-text kept.front ∙ ap (λ z. answers [] (whole_lines z)) (sym within)),
      );
      rises = _;
      later_read = kept.later_read;
      later_write = omega (arith, kept.later_write, later);
      calls = omega (arith, kept.calls);
      passes = λ none. passed;
    }

-- the limit, where the sink met a fault
pub served-cut_limit
    : (before now : Ends) (taken : Option (List ℕ)) (waiting writes : ℕ)
    → IsPast before now
    → PutsFront now.taken taken limit_line
    → now.writes ≤ writes
    → Rose now.writes writes
    → HasServed before
    (record {
      left = now.left;
      reads = now.reads;
      calls = now.calls;
      taken = taken;
      waiting = waiting;
      writes = writes;
    }) WriteFault
served-cut_limit before now taken waiting writes kept (given, others, cut, took) later rose =
    let so_far = (heard_all silent kept.front).text in
    let answer =
    ap (λ z. z.text) (past-text kept.front kept.byte (told now.left) kept.full kept.one)
    ∙ sym (append-nil (so_far ++ limit_line)) in
    record {
      front = kept.front ++ kept.byte;
      short = omega (arith, length-append kept.front kept.byte, kept.full, kept.one);
      bytes = kept.bytes;
      given = so_far ++ given;
      took = append_known-two before.taken now.taken taken so_far given kept.took took;
      leaves = cut_off kept.front kept.byte (told now.left) given limit_line others (omega (arith, kept.one))
          cut (record { more = []; parts = answer });
      rises = omega (arith, rose, kept.later_write);
      later_read = kept.later_read;
      later_write = omega (arith, kept.later_write, later);
      calls = omega (arith, kept.calls);
      passes = _;
    }

-- a piece, in which the sink met a fault
pub served-cut
    : (before now : Ends) (jobs : List Job) (rest : List ℕ) (count n : ℕ) (piece : List ℕ)
    (left taken : Option (List ℕ)) (reads calls waiting writes : ℕ)
    → HasHeard before now jobs rest count
    → now.left ≡ prepend_known piece left
    → length piece ≡ n
    → n ≤ MAX_PIECE
    → count + n ≤ MAX_INPUT
    → now.reads ≤ reads
    → calls ≡ one_more now.calls
    → PutsFront now.taken taken (heard_all (record { jobs = jobs; rest = rest; text = [] }) piece).text
    → now.writes ≤ writes
    → Rose now.writes writes
    → HasServed before
    (record {
      left = left;
      reads = reads;
      calls = calls;
      taken = taken;
      waiting = waiting;
      writes = writes;
    }) WriteFault
served-cut before now jobs rest count n piece left taken reads calls waiting writes kept bytes size short room
    later_read counted (given, others, cut, took) later rose =
    let so_far = (heard_all silent kept.front).text in
    let text = (heard_all (record {
      jobs = (heard_all silent kept.front).jobs;
      rest = (heard_all silent kept.front).rest;
      text = [];
    }) piece).text in
    let begins =
    answer-begins (kept.front ++ piece) (told left)
    (omega (arith, length-append kept.front piece, kept.counted, size, room)) in
    let start : Begins (session_answer ((kept.front ++ piece) ++ told left)).text (so_far ++ text) =
    rw (ap (λ z. z.text) (heard_all-more_bytes kept.front piece)) at begins in
    record {
      front = kept.front ++ piece;
      short = omega (arith, length-append kept.front piece, kept.counted, size, room);
      bytes = prepend_known-two before.left now.left left kept.front piece kept.bytes bytes;
      given = so_far ++ given;
      took = append_known-two before.taken now.taken taken so_far given kept.took took;
      leaves = cut_off kept.front piece (told left) given text others (omega (arith, size, short))
          (rw (kept.open_jobs, kept.open_line) at cut) start;
      rises = omega (arith, rose, kept.later_write);
      later_read = omega (arith, kept.later_read, later_read);
      later_write = omega (arith, kept.later_write, later);
      calls = omega (arith, kept.calls, kept.short, counted);
      passes = _;
    }

-- a piece, in which memory ran out
--
-- The bytes of the piece before the one at which memory ran out were heard as all bytes are, so what was
-- given are the answers to their whole lines (`heard_all-text`). Those lines are a front of the lines of all
-- bytes, whatever comes after them (`lines_of-front`).
pub served-short
    : (before now : Ends) (jobs : List Job) (rest : List ℕ) (count n : ℕ) (piece : List ℕ)
    (left taken : Option (List ℕ)) (reads calls waiting writes : ℕ)
    → HasHeard before now jobs rest count
    → now.left ≡ prepend_known piece left
    → length piece ≡ n
    → n ≤ MAX_PIECE
    → count + n ≤ MAX_INPUT
    → now.reads ≤ reads
    → calls ≡ one_more now.calls
    → (i : ℕ) × (i < length piece)
    × (taken ≡ append_known now.taken
    (heard_all (record { jobs = jobs; rest = rest; text = [] }) (take i piece)).text)
    → now.writes ≤ writes
    → (now.waiting ≡ 0 → waiting ≡ 0)
    → HasServed before
    (record {
      left = left;
      reads = reads;
      calls = calls;
      taken = taken;
      waiting = waiting;
      writes = writes;
    }) Memory
served-short before now jobs rest count n piece left taken reads calls waiting writes kept bytes size short
    room later_read counted (i, inside, took) later passes =
    let heard = kept.front ++ take i piece in
    let took_more = rw (kept.open_jobs, kept.open_line) at took in
    let whole : kept.front ++ piece ≡ heard ++ drop i piece
    = ap (λ z. kept.front ++ z) (sym (take-append-drop i piece))
    ∙ sym (append_assoc kept.front (take i piece) (drop i piece)) in
    let before_it = lines_of-front heard (drop i piece) (omega (arith, inside, length-drop i piece)) in
    let precedes : Precedes (lines_of (kept.front ++ piece)) (whole_lines heard) = rw whole before_it in
    record {
      front = kept.front ++ piece;
      short = omega (arith, length-append kept.front piece, kept.counted, size, room);
      bytes = prepend_known-two before.left now.left left kept.front piece kept.bytes bytes;
      given = (heard_all silent heard).text;
      took = append_known-two before.taken now.taken taken _ _ kept.took took_more
          ∙ ap (append_known before.taken)
          (sym (ap (λ z. z.text) (heard_all-more_bytes kept.front (take i piece))));
      leaves = short_of (kept.front ++ piece) heard _ precedes
          (settled-begins kept.front piece (take i piece) (omega (arith, size, short)))
          (heard_all-text heard);
      rises = _;
      later_read = omega (arith, kept.later_read, later_read);
      later_write = omega (arith, kept.later_write, later);
      calls = omega (arith, kept.calls, kept.short, counted);
      passes = λ none. passes (kept.waits none);
    }
