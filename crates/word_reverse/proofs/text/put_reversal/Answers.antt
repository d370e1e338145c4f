-- The word is cut behind its positive front.
use Rattle.std.proofs.Common.{◌++◌, append_assoc}
use Rattle.std.specs.List.{flat_map}
use Rattle.wb_base.proofs.StreamLemmas.{Puts-stopped, Puts-more}
use Rattle.wb_base.proofs.WaitingLemmas.{waits-stopped, waits-more}
use Rattle.braid_word.specs.Words.{inverse}
use Rattle.word_reverse.specs.Fractions.{positive_front, behind_front}
use Rattle.word_reverse.specs.ReverseText.{step_line, head_text, tail_text, reverse_text}
use Rattle.word_reverse.proofs.TextLemmas.{tail_cut, cut_within}
use Rattle.word_reverse.proofs.text.put_reversal.Goals as goal

pub put_body-requires : goal.put_body-requires
put_body-requires g c = cut_within _ _ c.in-Some.ensures.front

pub returns-in_err-put_head-clause-took : goal.returns-in_err-put_head-clause-took
unfolding reverse_text
returns-in_err-put_head-clause-took g c =
    let head = head_text c.args.word.now in
    let steps = flat_map step_line c.args.run.now.run.places in
    let last = c.args.run.now.run.present in
    let tail = tail_text (positive_front last) (inverse (behind_front last)) in
    Puts-stopped _ _ _ _ head (steps ++ tail) (append_assoc head steps tail) c.from_residual.ensures.0
    c.in_err-put_head.ensures.took

pub returns-clause-took : goal.returns-clause-took
unfolding reverse_text
returns-clause-took g c =
    let head = head_text c.args.word.now in
    let steps = flat_map step_line c.args.run.now.run.places in
    let last = c.args.run.now.run.present in
    let tail = tail_text (positive_front last) (inverse (behind_front last)) in
    Puts-more _ _ _ _ _ head (steps ++ tail) (append_assoc head steps tail) c.in_ok-put_head.ensures.took
    (rw (tail_cut last c.in-Some.cut c.in-Some.ensures.front) at c.put_body.ensures.took)

pub returns-in_err-put_head-clause-waits : goal.returns-in_err-put_head-clause-waits
unfolding reverse_text
returns-in_err-put_head-clause-waits g c =
    let head = head_text c.args.word.now in
    let steps = flat_map step_line c.args.run.now.run.places in
    let last = c.args.run.now.run.present in
    let tail = tail_text (positive_front last) (inverse (behind_front last)) in
    waits-stopped _ _ _ head (steps ++ tail) (append_assoc head steps tail) c.in_err-put_head.ensures.waits

pub returns-clause-waits : goal.returns-clause-waits
unfolding reverse_text
returns-clause-waits g c =
    let head = head_text c.args.word.now in
    let steps = flat_map step_line c.args.run.now.run.places in
    let last = c.args.run.now.run.present in
    let tail = tail_text (positive_front last) (inverse (behind_front last)) in
    waits-more _ _ _ _ head (steps ++ tail) (append_assoc head steps tail) c.in_ok-put_head.ensures.waits
    (rw (tail_cut last c.in-Some.cut c.in-Some.ensures.front) at c.put_body.ensures.waits)
