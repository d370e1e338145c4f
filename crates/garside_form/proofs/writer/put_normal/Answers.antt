use Rattle.std.proofs.Common.{◌++◌, codes, flat_map}
use Rattle.wb_base.specs.Lines.{line}
use Rattle.wb_base.specs.Numbers.{signed_text}
use Rattle.wb_base.proofs.StreamLemmas.{Puts-stopped, Puts-more}
use Rattle.wb_base.proofs.WaitingLemmas.{waits-stopped, waits-more}
use Rattle.garside_form.specs.NormalText.{factor_line}
use Rattle.garside_form.proofs.NormalTextLemmas.{normal_text-signed}
use Rattle.garside_form.proofs.writer.put_normal.Goals as goal

pub returns-in_err-put_delta-clause-took : goal.returns-in_err-put_delta-clause-took
returns-in_err-put_delta-clause-took g c =
    let f = c.args.normal.now in
    let (negative, size) = c.signed_delta-negative.result in
    Puts-stopped _ _ _ _ (line (codes "delta " ++ signed_text negative size)) (flat_map factor_line f.factors)
    (normal_text-signed f negative size c.signed_delta-negative.ensures) c.from_residual.ensures.0
    c.in_err-put_delta.ensures.took

pub returns-in_err-put_delta-clause-waits : goal.returns-in_err-put_delta-clause-waits
returns-in_err-put_delta-clause-waits g c =
    let f = c.args.normal.now in
    let (negative, size) = c.signed_delta-negative.result in
    waits-stopped _ _ _ (line (codes "delta " ++ signed_text negative size)) (flat_map factor_line f.factors)
    (normal_text-signed f negative size c.signed_delta-negative.ensures) c.in_err-put_delta.ensures.waits

pub returns-clause-took : goal.returns-clause-took
returns-clause-took g c =
    let f = c.args.normal.now in
    let (negative, size) = c.signed_delta-negative.result in
    Puts-more _ _ _ _ _ (line (codes "delta " ++ signed_text negative size)) (flat_map factor_line f.factors)
    (normal_text-signed f negative size c.signed_delta-negative.ensures) c.in_ok-put_delta.ensures.took
    (rw c.factors.ensures at c.put_factors.ensures.took)

pub returns-clause-waits : goal.returns-clause-waits
returns-clause-waits g c =
    let f = c.args.normal.now in
    let (negative, size) = c.signed_delta-negative.result in
    waits-more _ _ _ _ (line (codes "delta " ++ signed_text negative size)) (flat_map factor_line f.factors)
    (normal_text-signed f negative size c.signed_delta-negative.ensures) c.in_ok-put_delta.ensures.waits
    (rw c.factors.ensures at c.put_factors.ensures.waits)
