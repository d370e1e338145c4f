use Rattle.std.proofs.Common.{[], ◌∷◌, append_assoc, refl}
use Rattle.wb_base.proofs.StreamLemmas.{Puts-stopped, Puts-stopped_after, Puts-more, append_known-two}
use Rattle.wb_base.proofs.WaitingLemmas.{waits-stopped, waits-more, waits-stopped_after}
use Rattle.braid_word.specs.Notation.{word_field}
use Rattle.braid_word.proofs.writer.put_word_line.Goals as goal

pub returns-in_err-give_all-clause-took : goal.returns-in_err-give_all-clause-took
returns-in_err-give_all-clause-took g c =
    Puts-stopped _ _ _ _ c.args.keyword.now _
    (append_assoc c.args.keyword.now (word_field c.args.word.now) (10 ∷ [])) c.from_residual.ensures.0
    c.in_err-give_all.ensures.took

pub returns-in_err-put_word_field-clause-took : goal.returns-in_err-put_word_field-clause-took
returns-in_err-put_word_field-clause-took g c =
    Puts-stopped_after _ _ _ _ _ c.args.keyword.now (word_field c.args.word.now) (10 ∷ []) refl
    c.from_residual-in_err-put_word_field.ensures.0 c.in_ok-give_all.ensures.took
    c.in_err-put_word_field.ensures.took

pub returns-clause-took : goal.returns-clause-took
returns-clause-took g c =
    Puts-more _ _ _ _ _ _ (10 ∷ []) refl
    (append_known-two _ _ _ _ _ c.in_ok-give_all.ensures.took c.in_ok-put_word_field.ensures.took)
    c.give_all-2.ensures.took

pub returns-in_err-give_all-clause-waits : goal.returns-in_err-give_all-clause-waits
returns-in_err-give_all-clause-waits g c =
    waits-stopped _ _ _ c.args.keyword.now _
    (append_assoc c.args.keyword.now (word_field c.args.word.now) (10 ∷ []))
    c.in_err-give_all.ensures.waits

pub returns-in_err-put_word_field-clause-waits : goal.returns-in_err-put_word_field-clause-waits
returns-in_err-put_word_field-clause-waits g c =
    waits-stopped_after _ _ _ _ c.args.keyword.now (word_field c.args.word.now) (10 ∷ []) refl
    c.in_ok-give_all.ensures.waits c.in_err-put_word_field.ensures.waits

pub returns-clause-waits : goal.returns-clause-waits
returns-clause-waits g c =
    let both = waits-more _ _ _ _ c.args.keyword.now (word_field c.args.word.now) refl
    c.in_ok-give_all.ensures.waits c.in_ok-put_word_field.ensures.waits in
    waits-more _ _ _ _ _ (10 ∷ []) refl both c.give_all-2.ensures.waits
