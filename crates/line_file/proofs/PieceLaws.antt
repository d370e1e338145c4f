-- Laws of files whose bytes come in pieces.
--
-- What is held of the bytes that came is fed by a piece to what is held of both (`fed-held_of`), and the end
-- of what is held is the check of the file (`finished-held_of`). So the pieces don't matter. What was refused
-- stays so, whatever follows (`held_of-refused`), and is the file's first refusal (`checked_of-refused`). At
-- most as many bytes are held as a line may have (`length-held_of`).
use Rattle.std.proofs.Common.{◌≡◌, ℕ, ◌<◌, ◌≤◌, Bool, true, false, cond, ltb, List, [], ◌∷◌, ◌++◌, length, length-append, Option, Some, None, Result, Ok, Err, inl, inr, refl, sym, ap, ◌∙◌, subst, arith}
use Rattle.std.proofs.lemmas.Bool.{ltb-true, ltb-false, lt-ltb, le-ltb}
use Rattle.wb_base.specs.Streams.{one_more}
use Rattle.wb_base.specs.Lines.{cut}
use Rattle.wb_base.proofs.PartLemmas.{Some-injective}
use Rattle.line_file.specs.Formats.{Format, kept_line, at_end, at_line, walk_on, walked, ended_behind, checked_of}
use Rattle.line_file.specs.Pieces.{Held, is_reading, was_refused, ran_out, held_behind, held_by, held_of, onto_front, held_from, fed, finished, length_held, Comes, StandsFor}
use Rattle.line_file.specs.Keeping.{Gives, told, Ends}
use Rattle.line_file.specs.declared.format.FileErr.{FileErr}
use Rattle.line_file.specs.declared.format.FileErr.TheVariants as errors
use Rattle.line_file.proofs.CutLemmas.{rest-no_lf, onto_front-none, cut-onto_front, onto_lines, cut-append}
use Rattle.line_file.proofs.WalkLemmas.{walked_more, walked-append}

-- ---- Early refusals ----

-- a line that is refused before its LF comes is refused where more follows
held_from-extra
    : {D W C : Type 0} (f : Format D W C) (k : ℕ) (now : D) (claim : C) (byte : ℕ) (rest : List ℕ)
    (parts : List (List ℕ) × List ℕ)
    → f.passed now ≡ Some claim
    → held_from f k now (onto_front (byte ∷ rest) parts) ≡ was_refused k f.extra
held_from-extra f k now claim byte rest ([], more) passed =
    ap (λ o. held_behind f o k now (byte ∷ rest ++ more)) passed
held_from-extra f k now claim byte rest (l ∷ ls, more) passed = rw passed refl

held_from-long
    : {D W C : Type 0} (f : Format D W C) (k : ℕ) (now : D) (rest : List ℕ) (parts : List (List ℕ) × List ℕ)
    → f.passed now ≡ None
    → f.most < length rest
    → held_from f k now (onto_front rest parts) ≡ was_refused k f.long
held_from-long f k now rest ([], more) none long =
    let longer : ltb f.most (length (rest ++ more)) ≡ true = lt-ltb _ _ (rw length-append (omega arith)) in
    rw (none, longer) refl
held_from-long f k now rest (l ∷ ls, more) none long =
    let longer : ltb f.most (length (rest ++ l)) ≡ true = lt-ltb _ _ (rw length-append (omega arith)) in
    rw (none, longer) refl

-- ---- Pieces ----

-- what is held where all lines were kept is fed as the bytes behind them go on
fed-held_behind
    : {D W C : Type 0} (f : Format D W C) (k : ℕ) (now : D) (rest piece : List ℕ)
    → fed f (held_behind f (f.passed now) k now rest) piece ≡ held_from f k now (onto_front rest (cut piece))
fed-held_behind {C = C} f k now rest piece = go (f.passed now) refl rest
  where
    by_length
        : (long : Bool) (rest : List ℕ)
        → f.passed now ≡ None
        → ltb f.most (length rest) ≡ long
        → fed f (cond long (was_refused k f.long) (is_reading k now rest)) piece
        ≡ held_from f k now (onto_front rest (cut piece))
    by_length true rest none test = sym (held_from-long f k now rest (cut piece) none (ltb-true _ _ test))
    by_length false rest none test = refl

    go
        : (o : Option C)
        → f.passed now ≡ o
        → (rest : List ℕ)
        → fed f (held_behind f o k now rest) piece ≡ held_from f k now (onto_front rest (cut piece))
    go (Some claim) passed [] = refl
    go (Some claim) passed (byte ∷ rest) = sym (held_from-extra f k now claim byte rest (cut piece) passed)
    go None none rest = by_length (ltb f.most (length rest)) rest none refl

-- what is held of some bytes is fed by a piece to what is held of both
pub fed-held_of
    : {D W C : Type 0} (f : Format D W C) (bytes piece : List ℕ)
    → fed f (held_of f bytes) piece ≡ held_of f (bytes ++ piece)
unfolding held_of
fed-held_of {D} {W} f bytes piece =
    go (walked f 1 f.start (cut bytes).0)
    ∙ ap (λ w. held_by f w (onto_front (cut bytes).1 (cut piece)).1)
    (sym (walked-append f 1 f.start (cut bytes).0 (onto_front (cut bytes).1 (cut piece)).0))
    ∙ ap (held_from f 1 f.start)
    (sym (cut-append bytes piece
    ∙ ap (onto_lines (cut bytes).0) (cut-onto_front (cut bytes).1 piece (rest-no_lf bytes))))
  where
    go
        : (w : Result (ℕ × D) (ℕ × W))
        → fed f (held_by f w (cut bytes).1) piece
        ≡ held_by f (walked_more f w (onto_front (cut bytes).1 (cut piece)).0)
        (onto_front (cut bytes).1 (cut piece)).1
    go (Ok (k, now)) = fed-held_behind f k now (cut bytes).1 piece
    go (Err (k, why)) = refl

-- before any byte the first line is due
pub held_of-none
    : {D W C : Type 0} (f : Format D W C)
    → held_of f [] ≡ is_reading 1 f.start []
unfolding held_of
held_of-none {C = C} f = go (f.passed f.start)
  where
    go : (o : Option C) → held_behind f o 1 f.start [] ≡ is_reading 1 f.start []
    go (Some claim) = refl
    go None = rw (le-ltb f.most 0 (omega arith)) refl

-- ---- One line of a piece ----

-- a line of a piece that is kept leads to what follows it
pub fed-line
    : {D W C : Type 0} (f : Format D W C) (k : ℕ) (now next : D) (rest piece end behind : List ℕ)
    → cut piece ≡ (end ∷ (cut behind).0, (cut behind).1)
    → kept_line f now (rest ++ end) ≡ Ok next
    → fed f (is_reading k now rest) piece ≡ fed f (is_reading (one_more k) next []) behind
fed-line f k now next rest piece end behind is kept =
    ap (λ parts. held_from f k now (onto_front rest parts)) is
    ∙ ap
    (λ after. held_by f (walk_on k after (λ next. walked f (one_more k) next (cut behind).0)) (cut behind).1)
    kept
    ∙ ap (held_from f (one_more k) next) (sym (onto_front-none (cut behind)))

-- one that isn't kept is the refusal
pub fed-refused
    : {D W C : Type 0} (f : Format D W C) (k : ℕ) (now : D) (why : W) (rest piece end behind : List ℕ)
    → cut piece ≡ (end ∷ (cut behind).0, (cut behind).1)
    → kept_line f now (rest ++ end) ≡ Err why
    → fed f (is_reading k now rest) piece ≡ was_refused k why
fed-refused f k now why rest piece end behind is kept =
    ap (λ parts. held_from f k now (onto_front rest parts)) is
    ∙ ap
    (λ after. held_by f (walk_on k after (λ next. walked f (one_more k) next (cut behind).0)) (cut behind).1)
    kept

-- and where no line ends, the line that is held goes on
pub fed-rest
    : {D W C : Type 0} (f : Format D W C) (k : ℕ) (now : D) (rest piece : List ℕ)
    → cut piece ≡ ([], piece)
    → fed f (is_reading k now rest) piece ≡ held_behind f (f.passed now) k now (rest ++ piece)
fed-rest f k now rest piece is = ap (λ parts. held_from f k now (onto_front rest parts)) is

-- ---- The end ----

-- the end of what is held where all lines were kept is their end
finished-held_behind
    : {D W C : Type 0} (f : Format D W C) (k : ℕ) (now : D) (rest : List ℕ)
    → finished f (held_behind f (f.passed now) k now rest) ≡ Some (at_line k (at_end f now rest))
finished-held_behind {C = C} f k now rest = go (f.passed now) refl rest
  where
    by_length
        : (long : Bool) (rest : List ℕ)
        → f.passed now ≡ None
        → ltb f.most (length rest) ≡ long
        → finished f (cond long (was_refused k f.long) (is_reading k now rest))
        ≡ Some (at_line k (cond (ltb f.most (length rest)) (Err f.long) (Err f.truncated)))
    by_length true rest none test = rw test refl
    by_length false rest none test = rw none refl

    go
        : (o : Option C)
        → f.passed now ≡ o
        → (rest : List ℕ)
        → finished f (held_behind f o k now rest) ≡ Some (at_line k (at_end f now rest))
    go (Some claim) passed [] = rw passed refl
    go (Some claim) passed (byte ∷ rest) = rw passed refl
    go None none rest = rw none (by_length (ltb f.most (length rest)) rest none refl)

-- the end of what is held is the check of the file
pub finished-held_of
    : {D W C : Type 0} (f : Format D W C) (bytes : List ℕ)
    → finished f (held_of f bytes) ≡ Some (checked_of f bytes)
unfolding held_of checked_of
finished-held_of {D} {W} f bytes = go (walked f 1 f.start (cut bytes).0)
  where
    go
        : (w : Result (ℕ × D) (ℕ × W))
        → finished f (held_by f w (cut bytes).1) ≡ Some (ended_behind f w (cut bytes).1)
    go (Ok (k, now)) = finished-held_behind f k now (cut bytes).1
    go (Err (k, why)) = refl

-- ---- What was refused ----

-- a refusal stays, whatever follows
pub held_of-refused
    : {D W C : Type 0} (f : Format D W C) (bytes more : List ℕ) (k : ℕ) (why : W)
    → held_of f bytes ≡ was_refused k why
    → held_of f (bytes ++ more) ≡ was_refused k why
held_of-refused f bytes more k why is = sym (fed-held_of f bytes more) ∙ ap (λ held. fed f held more) is

-- it is the first of the file
pub checked_of-refused
    : {D W C : Type 0} (f : Format D W C) (bytes more : List ℕ) (k : ℕ) (why : W)
    → held_of f bytes ≡ was_refused k why
    → checked_of f (bytes ++ more) ≡ Err (k, why)
checked_of-refused f bytes more k why is =
    Some-injective (sym (finished-held_of f (bytes ++ more))
    ∙ ap (finished f) (held_of-refused f bytes more k why is))

-- ---- How many bytes are held ----

-- at most as many as a line may have
length-held_from
    : {D W C : Type 0} (f : Format D W C) (k : ℕ) (now : D) (cutting : List (List ℕ) × List ℕ)
    → length_held (held_from f k now cutting) ≤ f.most
length-held_from {D} {W} {C} f k now (ls, rest) = go (walked f k now ls)
  where
    by_length
        : (long : Bool) (k : ℕ) (now : D)
        → ltb f.most (length rest) ≡ long
        → length_held (cond long (was_refused k f.long) (is_reading k now rest)) ≤ f.most
    by_length true k now test = omega arith
    by_length false k now test = ltb-false _ _ test

    behind
        : (o : Option C) (k : ℕ) (now : D) (ends : List ℕ)
        → ends ≡ rest
        → length_held (held_behind f o k now ends) ≤ f.most
    behind (Some claim) k now [] is = omega arith
    behind (Some claim) k now (byte ∷ ends) is = omega arith
    behind None k now ends is = rw is (by_length (ltb f.most (length rest)) k now refl)

    go : (w : Result (ℕ × D) (ℕ × W)) → length_held (held_by f w rest) ≤ f.most
    go (Ok (k, now)) = behind (f.passed now) k now rest refl
    go (Err (k, why)) = omega arith

-- of any bytes
pub length-held_of
    : {D W C : Type 0} (f : Format D W C) (bytes : List ℕ)
    → length_held (held_of f bytes) ≤ f.most
unfolding held_of
length-held_of f bytes = length-held_from f 1 f.start (cut bytes)

-- and behind a piece
pub length-fed
    : {D W C : Type 0} (f : Format D W C) (old new : Held D W) (piece : List ℕ)
    → length_held old ≤ f.most
    → Comes new (fed f old piece)
    → length_held new ≤ f.most
length-fed f (is_reading k now rest) new piece short (inl is) =
    rw is (length-held_from f k now (onto_front rest (cut piece)))
length-fed f (was_refused k why) new piece short (inl is) = rw is (omega arith)
length-fed f ran_out new piece short (inl is) = rw is (omega arith)
length-fed f old new piece short (inr is) = rw is (omega arith)

-- ---- What a checker answers ----

-- what is held after a piece is what is held of all bytes
pub Comes-stands
    : {D W C : Type 0} (f : Format D W C) (old new : Held D W) (bytes piece : List ℕ)
    → Comes new (fed f old piece)
    → StandsFor f old bytes
    → Comes new (held_of f (bytes ++ piece))
Comes-stands f old new bytes piece comes stands =
    subst (Comes new) (ap (λ held. fed f held piece) stands ∙ fed-held_of f bytes piece) comes

-- the end of what stands for a file is what the file is
pub Ends-stands
    : {D W C : Type 0} (f : Format D W C) (held : Held D W) (bytes : List ℕ) (result : Result C (FileErr W))
    → Ends result (finished f held)
    → StandsFor f held bytes
    → Ends result (Some (checked_of f bytes))
Ends-stands f held bytes result ends stands =
    subst (Ends result) (ap (finished f) stands ∙ finished-held_of f bytes) ends

-- what is answered at the end is given of the file
Gives-Ends
    : {C W : Type 0} (result : Result C (FileErr W)) (file : Result C (ℕ × W))
    → Ends result (Some file)
    → Gives result file
Gives-Ends (Ok claim) file ends = Some-injective ends
Gives-Ends (Err errors.Memory) file ends = tt
Gives-Ends (Err (errors.Refused line why)) file ends = Some-injective ends

-- one error is one value
Err-injective : {X E : Type 0} (d e : E) → ◌≡◌ {A = Result X E} (Err d) (Err e) → d ≡ e
Err-injective d e is = cc

-- an error before the end is given of the file
pub Gives-told
    : {D W C : Type 0} (f : Format D W C) (held : Held D W) (bytes : List ℕ) (e : FileErr W)
    → Comes held (held_of f bytes)
    → told held ≡ Err e
    → Gives {C = C} (Err e) (checked_of f bytes)
Gives-told f (is_reading k now rest) bytes e comes is = absurd (cc)
Gives-told {C = C} f (was_refused k why) bytes e (inl stands) is =
    Gives-Ends (Err e) (checked_of f bytes)
    (Ends-stands f (was_refused k why) bytes (Err e) (refused (Err-injective _ _ is)) stands)
  where
    refused : errors.Refused k why ≡ e → Ends {C = C} (Err e) (Some (Err (k, why)))
    refused same = subst (λ r. Ends {C = C} (Err r) (Some (Err (k, why)))) same refl
Gives-told f (was_refused k why) bytes e (inr out) is = absurd (cc)
Gives-told {C = C} f ran_out bytes e comes is =
    subst (λ r. Gives {C = C} (Err r) (checked_of f bytes)) (Err-injective _ _ is) tt

-- the end, where no error came before it, is given of the file
pub Gives-finished
    : {D W C : Type 0} (f : Format D W C) (held : Held D W) (bytes : List ℕ) (result : Result C (FileErr W))
    (u : Unit)
    → Comes held (held_of f bytes)
    → told held ≡ Ok u
    → Ends result (finished f held)
    → Gives result (checked_of f bytes)
Gives-finished f held bytes result u (inl stands) is ends =
    Gives-Ends result (checked_of f bytes) (Ends-stands f held bytes result ends stands)
Gives-finished f held bytes result u (inr out) is ends = absurd (cc)
