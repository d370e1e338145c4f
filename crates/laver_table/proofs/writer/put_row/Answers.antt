use Rattle.std.proofs.Common.{◌++◌, [], ◌∷◌, drop, decimal, flat_map, append_assoc, refl, ◌∙◌}
use Rattle.wb_base.proofs.StreamLemmas.{Puts-stopped, Puts-stopped_after, Puts-more, append_known-two}
use Rattle.wb_base.proofs.WaitingLemmas.{waits-stopped, waits-stopped_after, waits-more}
use Rattle.laver_table.specs.Table.{row_of}
use Rattle.wb_base.specs.Numbers.{spaced_number}
use Rattle.laver_table.proofs.TextLemmas.{row_line-parts, first_entry}
use Rattle.laver_table.proofs.writer.put_row.Goals as goal

pub returns-in_err-put_number-clause-took : goal.returns-in_err-put_number-clause-took
returns-in_err-put_number-clause-took g c =
    let row = row_of c.args.table.now c.args.p in
    let x = c.product-first.result in
    let first = c.product-first.ensures.entry in
    let parts = row_line-parts row x (first_entry row x first c.product-first.ensures.up_to.0) first in
    let rest = flat_map spaced_number (drop 1 row) in
    Puts-stopped _ _ _ _ (decimal x) (rest ++ 10 ∷ []) (parts ∙ append_assoc (decimal x) rest (10 ∷ []))
    c.from_residual.ensures.0 (rw c.from.ensures at c.in_err-put_number.ensures.took)

pub returns-in_err-put_number-clause-waits : goal.returns-in_err-put_number-clause-waits
returns-in_err-put_number-clause-waits g c =
    let row = row_of c.args.table.now c.args.p in
    let x = c.product-first.result in
    let first = c.product-first.ensures.entry in
    let parts = row_line-parts row x (first_entry row x first c.product-first.ensures.up_to.0) first in
    let rest = flat_map spaced_number (drop 1 row) in
    waits-stopped _ _ _ (decimal x) (rest ++ 10 ∷ []) (parts ∙ append_assoc (decimal x) rest (10 ∷ []))
    (rw c.from.ensures at c.in_err-put_number.ensures.waits)

pub returns-in_err-put_rest-clause-took : goal.returns-in_err-put_rest-clause-took
returns-in_err-put_rest-clause-took g c =
    let row = row_of c.args.table.now c.args.p in
    let x = c.product-first.result in
    let first = c.product-first.ensures.entry in
    let parts = row_line-parts row x (first_entry row x first c.product-first.ensures.up_to.0) first in
    Puts-stopped_after _ _ _ _ _ (decimal x) (flat_map spaced_number (drop 1 row)) (10 ∷ []) parts
    c.from_residual-in_err-put_rest.ensures.0
    (rw c.from.ensures at c.in_ok-put_number.ensures.took) c.in_err-put_rest.ensures.took

pub returns-in_err-put_rest-clause-waits : goal.returns-in_err-put_rest-clause-waits
returns-in_err-put_rest-clause-waits g c =
    let row = row_of c.args.table.now c.args.p in
    let x = c.product-first.result in
    let first = c.product-first.ensures.entry in
    let parts = row_line-parts row x (first_entry row x first c.product-first.ensures.up_to.0) first in
    let rest = flat_map spaced_number (drop 1 row) in
    waits-stopped_after _ _ _ _ (decimal x) rest (10 ∷ []) parts
    (rw c.from.ensures at c.in_ok-put_number.ensures.waits) c.in_err-put_rest.ensures.waits

pub returns-clause-took : goal.returns-clause-took
returns-clause-took g c =
    let row = row_of c.args.table.now c.args.p in
    let x = c.product-first.result in
    let first = c.product-first.ensures.entry in
    let parts = row_line-parts row x (first_entry row x first c.product-first.ensures.up_to.0) first in
    let rest = flat_map spaced_number (drop 1 row) in
    Puts-more _ _ _ _ _ (decimal x ++ rest) (10 ∷ []) parts
    (append_known-two _ _ _ (decimal x) rest
    (rw c.from.ensures at c.in_ok-put_number.ensures.took) c.in_ok-put_rest.ensures.took)
    c.give_all.ensures.took

pub returns-clause-waits : goal.returns-clause-waits
returns-clause-waits g c =
    let row = row_of c.args.table.now c.args.p in
    let x = c.product-first.result in
    let first = c.product-first.ensures.entry in
    let parts = row_line-parts row x (first_entry row x first c.product-first.ensures.up_to.0) first in
    let rest = flat_map spaced_number (drop 1 row) in
    waits-more _ _ _ _ (decimal x ++ rest) (10 ∷ []) parts
    (waits-more _ _ _ _ (decimal x) rest refl
    (rw c.from.ensures at c.in_ok-put_number.ensures.waits) c.in_ok-put_rest.ensures.waits)
    c.give_all.ensures.waits
