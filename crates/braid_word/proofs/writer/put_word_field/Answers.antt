use Rattle.std.proofs.Common.{[], ◌∷◌, sym, arith}
use Rattle.wb_base.proofs.StreamLemmas.{Puts-stopped, Puts-more, append_known-nil}
use Rattle.wb_base.proofs.WaitingLemmas.{waits-stopped, waits-more}
use Rattle.braid_word.proofs.FieldLemmas.{word_field-some, word_field-none}
use Rattle.braid_word.proofs.writer.put_word_field.Goals as goal

pub returns-in-empty-clause-took : goal.returns-in-empty-clause-took
returns-in-empty-clause-took g c =
    rw (word_field-none c.args.word.now (omega (arith, c.in-empty.len_below))) (sym (append_known-nil _))

pub returns-in_err-give_all-in-len1-up-clause-took : goal.returns-in_err-give_all-in-len1-up-clause-took
returns-in_err-give_all-in-len1-up-clause-took g c =
    Puts-stopped _ _ _ _ (32 ∷ []) _ (word_field-some c.args.word.now c.in-len1-up.len_at_least)
    c.from_residual.ensures.0 c.in_err-give_all-in-len1-up.ensures.took

pub returns-in_ok-give_all-in-len1-up-clause-took : goal.returns-in_ok-give_all-in-len1-up-clause-took
returns-in_ok-give_all-in-len1-up-clause-took g c =
    Puts-more _ _ _ _ _ (32 ∷ []) _ (word_field-some c.args.word.now c.in-len1-up.len_at_least)
    c.in_ok-give_all-in-len1-up.ensures.took c.put_word.ensures.took

pub returns-in_err-give_all-in-len1-up-clause-waits :
    goal.returns-in_err-give_all-in-len1-up-clause-waits
returns-in_err-give_all-in-len1-up-clause-waits g c =
    waits-stopped _ _ _ (32 ∷ []) _ (word_field-some c.args.word.now c.in-len1-up.len_at_least)
    c.in_err-give_all-in-len1-up.ensures.waits

pub returns-in_ok-give_all-in-len1-up-clause-waits :
    goal.returns-in_ok-give_all-in-len1-up-clause-waits
returns-in_ok-give_all-in-len1-up-clause-waits g c =
    waits-more _ _ _ _ (32 ∷ []) _ (word_field-some c.args.word.now c.in-len1-up.len_at_least)
    c.in_ok-give_all-in-len1-up.ensures.waits c.put_word.ensures.waits
