use Rattle.std.proofs.Common.{◌≡◌, take, ap, sym, ◌∙◌, arith}
use Rattle.std.proofs.lemmas.List.{take_all}
use Rattle.std.specs.List.{flat_map}
use Rattle.std.specs.Io.KnownBytes.{append_known}
use Rattle.wb_base.proofs.StreamLemmas.{Puts-stopped_part, append_known-part}
use Rattle.wb_base.proofs.WaitingLemmas.{waits-stopped_part, waits-part}
use Rattle.braid_word.specs.Notation.{next_text}
use Rattle.braid_word.proofs.FieldLemmas.{word_field-flat_map}
use Rattle.word_reverse.specs.Written.{side_of}
use Rattle.word_reverse.proofs.text.put_letters.Goals as goal

pub returns-in_err-put_some_letters-clause-took : goal.returns-in_err-put_some_letters-clause-took
returns-in_err-put_some_letters-clause-took g c =
    rw (word_field-flat_map (side_of c.args.side c.args.run.now.run.present))
    (Puts-stopped_part _ _ _ _ next_text _ c.putting.put _ c.from_residual.ensures.0
    c.putting.invariant.took c.in_err-put_some_letters.ensures.took)

pub putting-preserved : goal.putting-preserved
putting-preserved g c =
    record {
      within = omega (arith, c.min-count.ensures, c.side_len-in-putting.ensures);
      took = append_known-part _ _ _ next_text _ c.putting.put _ c.putting.invariant.took
          c.in_ok-put_some_letters.ensures.took;
      waits = waits-part _ _ _ next_text _ c.putting.put _ c.putting.invariant.waits
          c.in_ok-put_some_letters.ensures.waits;
      later = omega (arith, c.putting.invariant.later, c.in_ok-put_some_letters.ensures.cause.later);
    }

pub returns-clause-took : goal.returns-clause-took
returns-clause-took g c =
    let letters = side_of c.args.side c.args.run.now.run.present in
    let all : take c.putting.put letters ≡ letters = take_all c.putting.put letters
    (omega (arith, c.side_len.ensures)) in
    c.putting.invariant.took
    ∙ ap (append_known _) (ap (flat_map next_text) all ∙ sym (word_field-flat_map letters))

pub returns-in_err-put_some_letters-clause-waits : goal.returns-in_err-put_some_letters-clause-waits
returns-in_err-put_some_letters-clause-waits g c =
    rw (word_field-flat_map (side_of c.args.side c.args.run.now.run.present))
    (waits-stopped_part _ _ _ next_text _ c.putting.put _ c.putting.invariant.waits
    c.in_err-put_some_letters.ensures.waits)

pub returns-clause-waits : goal.returns-clause-waits
returns-clause-waits g c =
    let letters = side_of c.args.side c.args.run.now.run.present in
    let all : take c.putting.put letters ≡ letters = take_all c.putting.put letters
    (omega (arith, c.side_len.ensures)) in
    rw (word_field-flat_map letters) (rw all at c.putting.invariant.waits)
