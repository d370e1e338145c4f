use Rattle.std.proofs.Common.{◌++◌, codes, append_assoc, refl}
use Rattle.wb_base.proofs.StreamLemmas.{Puts-stopped, Puts-stopped_after, Puts-more, append_known-two}
use Rattle.wb_base.proofs.WaitingLemmas.{waits-stopped, waits-more, waits-stopped_after}
use Rattle.wb_base.specs.Lines.{line}
use Rattle.braid_word.specs.Notation.{word_field}
use Rattle.trace_format.specs.TraceText.{verdict_word}
use Rattle.trace_format.proofs.trace.put_tail.Goals as goal

pub returns-in_err-put_verdict-clause-took : goal.returns-in_err-put_verdict-clause-took
returns-in_err-put_verdict-clause-took g c =
    let verdict = line (codes "verdict " ++ verdict_word c.args.verdict) in
    let witness = line (codes "witness" ++ word_field (g.A.Account.current c.args.account.now)) in
    Puts-stopped _ _ _ _ verdict (witness ++ line (codes "end"))
    (append_assoc verdict witness (line (codes "end"))) c.from_residual.ensures.0
    c.in_err-put_verdict.ensures.took

pub returns-in_err-put_witness-clause-took : goal.returns-in_err-put_witness-clause-took
returns-in_err-put_witness-clause-took g c =
    let verdict = line (codes "verdict " ++ verdict_word c.args.verdict) in
    let witness = line (codes "witness" ++ word_field (g.A.Account.current c.args.account.now)) in
    Puts-stopped_after _ _ _ _ _ verdict witness (line (codes "end")) refl
    c.from_residual-in_err-put_witness.ensures.0 c.in_ok-put_verdict.ensures.took
    c.in_err-put_witness.ensures.took

pub returns-clause-took : goal.returns-clause-took
returns-clause-took g c =
    let verdict = line (codes "verdict " ++ verdict_word c.args.verdict) in
    let witness = line (codes "witness" ++ word_field (g.A.Account.current c.args.account.now)) in
    Puts-more _ _ _ _ _ (verdict ++ witness) (line (codes "end")) refl
    (append_known-two _ _ _ verdict witness c.in_ok-put_verdict.ensures.took
    c.in_ok-put_witness.ensures.took) c.put_line.ensures.took

pub returns-in_err-put_verdict-clause-waits : goal.returns-in_err-put_verdict-clause-waits
returns-in_err-put_verdict-clause-waits g c =
    let verdict = line (codes "verdict " ++ verdict_word c.args.verdict) in
    let witness = line (codes "witness" ++ word_field (g.A.Account.current c.args.account.now)) in
    waits-stopped _ _ _ verdict (witness ++ line (codes "end"))
    (append_assoc verdict witness (line (codes "end"))) c.in_err-put_verdict.ensures.waits

pub returns-in_err-put_witness-clause-waits : goal.returns-in_err-put_witness-clause-waits
returns-in_err-put_witness-clause-waits g c =
    let verdict = line (codes "verdict " ++ verdict_word c.args.verdict) in
    let witness = line (codes "witness" ++ word_field (g.A.Account.current c.args.account.now)) in
    waits-stopped_after _ _ _ _ verdict witness (line (codes "end")) refl
    c.in_ok-put_verdict.ensures.waits c.in_err-put_witness.ensures.waits

pub returns-clause-waits : goal.returns-clause-waits
returns-clause-waits g c =
    let verdict = line (codes "verdict " ++ verdict_word c.args.verdict) in
    let witness = line (codes "witness" ++ word_field (g.A.Account.current c.args.account.now)) in
    let both = waits-more _ _ _ _ verdict witness refl c.in_ok-put_verdict.ensures.waits
    c.in_ok-put_witness.ensures.waits in
    waits-more _ _ _ _ (verdict ++ witness) (line (codes "end")) refl both c.put_line.ensures.waits
