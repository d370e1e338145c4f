use Rattle.std.proofs.Common.{sym}
use Rattle.wb_base.proofs.StreamLemmas.{Puts-stopped, Puts-more, append_known-nil}
use Rattle.wb_base.proofs.WaitingLemmas.{waits-stopped, waits-more}
use Rattle.free_word.proofs.TextLemmas.{free_text-first, free_text-empty}
use Rattle.free_word.proofs.writer.put_free.Goals as goal

pub returns-in_err-put_gen-in-len1-up-clause-took :
    goal.returns-in_err-put_gen-in-len1-up-clause-took
returns-in_err-put_gen-in-len1-up-clause-took g c =
    let some = c.in-len1-up.len_at_least in
    let parts = free_text-first _ _ _ c.letters.ensures.value some c.first-item.is in
    let front = c.in_err-put_gen-in-len1-up.ensures.took in
    Puts-stopped _ _ _ _ _ _ parts c.from_residual.ensures.0 front

pub returns-in_ok-put_gen-in-len1-up-clause-took :
    goal.returns-in_ok-put_gen-in-len1-up-clause-took
returns-in_ok-put_gen-in-len1-up-clause-took g c =
    let some = c.in-len1-up.len_at_least in
    let parts = free_text-first _ _ _ c.letters.ensures.value some c.first-item.is in
    Puts-more _ _ _ _ _ _ _ parts c.in_ok-put_gen-in-len1-up.ensures.took c.put_rest.ensures.took

pub returns-in-empty-clause-took : goal.returns-in-empty-clause-took
returns-in-empty-clause-took g c =
    rw (free_text-empty _ _ c.letters.ensures.value c.in-empty.len_below) (sym (append_known-nil _))

pub returns-in_err-put_gen-in-len1-up-clause-waits :
    goal.returns-in_err-put_gen-in-len1-up-clause-waits
returns-in_err-put_gen-in-len1-up-clause-waits g c =
    let some = c.in-len1-up.len_at_least in
    let parts = free_text-first _ _ _ c.letters.ensures.value some c.first-item.is in
    waits-stopped _ _ _ _ _ parts c.in_err-put_gen-in-len1-up.ensures.waits

pub returns-in_ok-put_gen-in-len1-up-clause-waits :
    goal.returns-in_ok-put_gen-in-len1-up-clause-waits
returns-in_ok-put_gen-in-len1-up-clause-waits g c =
    let some = c.in-len1-up.len_at_least in
    let parts = free_text-first _ _ _ c.letters.ensures.value some c.first-item.is in
    waits-more _ _ _ _ _ _ parts c.in_ok-put_gen-in-len1-up.ensures.waits c.put_rest.ensures.waits
