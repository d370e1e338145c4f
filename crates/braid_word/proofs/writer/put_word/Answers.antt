use Rattle.std.proofs.Common.{sym}
use Rattle.wb_base.proofs.StreamLemmas.{Puts-stopped, Puts-more, append_known-nil}
use Rattle.wb_base.proofs.WaitingLemmas.{waits-stopped, waits-more}
use Rattle.braid_word.proofs.NotationLemmas.{word_text-first, word_text-empty}
use Rattle.braid_word.proofs.writer.put_word.Goals as goal

pub returns-in_err-put_letter-in-len1-up-clause-took : goal.returns-in_err-put_letter-in-len1-up-clause-took
returns-in_err-put_letter-in-len1-up-clause-took g c =
    Puts-stopped _ _ _ _ _ _ (word_text-first _ _ c.in-len1-up.len_at_least c.first-item.is)
    c.from_residual.ensures.0 c.in_err-put_letter-in-len1-up.ensures.took

pub returns-in_ok-put_letter-in-len1-up-clause-took : goal.returns-in_ok-put_letter-in-len1-up-clause-took
returns-in_ok-put_letter-in-len1-up-clause-took g c =
    Puts-more _ _ _ _ _ _ _ (word_text-first _ _ c.in-len1-up.len_at_least c.first-item.is)
    c.in_ok-put_letter-in-len1-up.ensures.took c.put_letters.ensures.took

pub returns-in-empty-clause-took : goal.returns-in-empty-clause-took
returns-in-empty-clause-took g c = rw (word_text-empty _ c.in-empty.len_below) (sym (append_known-nil _))

pub returns-in_err-put_letter-in-len1-up-clause-waits :
    goal.returns-in_err-put_letter-in-len1-up-clause-waits
returns-in_err-put_letter-in-len1-up-clause-waits g c =
    waits-stopped _ _ _ _ _ (word_text-first _ _ c.in-len1-up.len_at_least c.first-item.is)
    c.in_err-put_letter-in-len1-up.ensures.waits

pub returns-in_ok-put_letter-in-len1-up-clause-waits :
    goal.returns-in_ok-put_letter-in-len1-up-clause-waits
returns-in_ok-put_letter-in-len1-up-clause-waits g c =
    waits-more _ _ _ _ _ _ (word_text-first _ _ c.in-len1-up.len_at_least c.first-item.is)
    c.in_ok-put_letter-in-len1-up.ensures.waits c.put_letters.ensures.waits
