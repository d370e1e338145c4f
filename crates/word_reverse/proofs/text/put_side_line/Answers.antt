use Rattle.std.proofs.Common.{[], ◌∷◌, append_assoc, refl}
use Rattle.wb_base.proofs.StreamLemmas.{Puts-stopped, Puts-stopped_after, Puts-more, append_known-two}
use Rattle.wb_base.proofs.WaitingLemmas.{waits-stopped, waits-more, waits-stopped_after}
use Rattle.braid_word.specs.Notation.{word_field}
use Rattle.word_reverse.specs.Written.{side_of}
use Rattle.word_reverse.proofs.text.put_side_line.Goals as goal

pub returns-in_err-give_all-clause-took : goal.returns-in_err-give_all-clause-took
returns-in_err-give_all-clause-took g c =
    let letters = word_field (side_of c.args.side c.args.run.now.run.present) in
    Puts-stopped _ _ _ _ c.args.keyword.now _
    (append_assoc c.args.keyword.now letters (10 ∷ [])) c.from_residual.ensures.0
    c.in_err-give_all.ensures.took

pub returns-in_err-put_letters-clause-took : goal.returns-in_err-put_letters-clause-took
returns-in_err-put_letters-clause-took g c =
    let letters = word_field (side_of c.args.side c.args.run.now.run.present) in
    Puts-stopped_after _ _ _ _ _ c.args.keyword.now letters (10 ∷ []) refl
    c.from_residual-in_err-put_letters.ensures.0 c.in_ok-give_all.ensures.took
    c.in_err-put_letters.ensures.took

pub returns-clause-took : goal.returns-clause-took
returns-clause-took g c =
    Puts-more _ _ _ _ _ _ (10 ∷ []) refl
    (append_known-two _ _ _ _ _ c.in_ok-give_all.ensures.took c.in_ok-put_letters.ensures.took)
    c.give_all-2.ensures.took

pub returns-in_err-give_all-clause-waits : goal.returns-in_err-give_all-clause-waits
returns-in_err-give_all-clause-waits g c =
    let letters = word_field (side_of c.args.side c.args.run.now.run.present) in
    waits-stopped _ _ _ c.args.keyword.now _
    (append_assoc c.args.keyword.now letters (10 ∷ []))
    c.in_err-give_all.ensures.waits

pub returns-in_err-put_letters-clause-waits : goal.returns-in_err-put_letters-clause-waits
returns-in_err-put_letters-clause-waits g c =
    let letters = word_field (side_of c.args.side c.args.run.now.run.present) in
    waits-stopped_after _ _ _ _ c.args.keyword.now letters (10 ∷ []) refl
    c.in_ok-give_all.ensures.waits c.in_err-put_letters.ensures.waits

pub returns-clause-waits : goal.returns-clause-waits
returns-clause-waits g c =
    let letters = word_field (side_of c.args.side c.args.run.now.run.present) in
    let both = waits-more _ _ _ _ c.args.keyword.now letters refl
    c.in_ok-give_all.ensures.waits c.in_ok-put_letters.ensures.waits in
    waits-more _ _ _ _ _ (10 ∷ []) refl both c.give_all-2.ensures.waits
