use Rattle.std.proofs.Common.{◌++◌, codes, take, drop, append_assoc, refl}
use Rattle.wb_base.proofs.StreamLemmas.{Puts-stopped, Puts-stopped_after, Puts-more, append_known-two}
use Rattle.wb_base.proofs.WaitingLemmas.{waits-stopped, waits-more, waits-stopped_after}
use Rattle.wb_base.specs.Lines.{line}
use Rattle.braid_word.specs.Words.{inverse}
use Rattle.braid_word.specs.Notation.{word_field}
use Rattle.word_reverse.proofs.text.put_tail.Goals as goal

pub returns-in_err-put_side_line-clause-took : goal.returns-in_err-put_side_line-clause-took
returns-in_err-put_side_line-clause-took g c =
    let left = line (codes "left" ++ word_field (take c.args.cut c.args.run.now.run.present)) in
    let right = line (codes "right" ++ word_field (inverse (drop c.args.cut c.args.run.now.run.present))) in
    Puts-stopped _ _ _ _ left (right ++ line (codes "end")) (append_assoc left right (line (codes "end")))
    c.from_residual.ensures.0 c.in_err-put_side_line.ensures.took

pub returns-in_err-put_side_line-2-clause-took : goal.returns-in_err-put_side_line-2-clause-took
returns-in_err-put_side_line-2-clause-took g c =
    let left = line (codes "left" ++ word_field (take c.args.cut c.args.run.now.run.present)) in
    let right = line (codes "right" ++ word_field (inverse (drop c.args.cut c.args.run.now.run.present))) in
    Puts-stopped_after _ _ _ _ _ left right (line (codes "end")) refl
    c.from_residual-in_err-put_side_line-2.ensures.0 c.in_ok-put_side_line.ensures.took
    c.in_err-put_side_line-2.ensures.took

pub returns-clause-took : goal.returns-clause-took
returns-clause-took g c =
    let left = line (codes "left" ++ word_field (take c.args.cut c.args.run.now.run.present)) in
    let right = line (codes "right" ++ word_field (inverse (drop c.args.cut c.args.run.now.run.present))) in
    Puts-more _ _ _ _ _ (left ++ right) (line (codes "end")) refl
    (append_known-two _ _ _ left right c.in_ok-put_side_line.ensures.took
    c.in_ok-put_side_line-2.ensures.took) c.put_line.ensures.took

pub returns-in_err-put_side_line-clause-waits : goal.returns-in_err-put_side_line-clause-waits
returns-in_err-put_side_line-clause-waits g c =
    let left = line (codes "left" ++ word_field (take c.args.cut c.args.run.now.run.present)) in
    let right = line (codes "right" ++ word_field (inverse (drop c.args.cut c.args.run.now.run.present))) in
    waits-stopped _ _ _ left (right ++ line (codes "end")) (append_assoc left right (line (codes "end")))
    c.in_err-put_side_line.ensures.waits

pub returns-in_err-put_side_line-2-clause-waits : goal.returns-in_err-put_side_line-2-clause-waits
returns-in_err-put_side_line-2-clause-waits g c =
    let left = line (codes "left" ++ word_field (take c.args.cut c.args.run.now.run.present)) in
    let right = line (codes "right" ++ word_field (inverse (drop c.args.cut c.args.run.now.run.present))) in
    waits-stopped_after _ _ _ _ left right (line (codes "end")) refl c.in_ok-put_side_line.ensures.waits
    c.in_err-put_side_line-2.ensures.waits

pub returns-clause-waits : goal.returns-clause-waits
returns-clause-waits g c =
    let left = line (codes "left" ++ word_field (take c.args.cut c.args.run.now.run.present)) in
    let right = line (codes "right" ++ word_field (inverse (drop c.args.cut c.args.run.now.run.present))) in
    let both = waits-more _ _ _ _ left right refl c.in_ok-put_side_line.ensures.waits
    c.in_ok-put_side_line-2.ensures.waits in
    waits-more _ _ _ _ (left ++ right) (line (codes "end")) refl both c.put_line.ensures.waits
