-- The three parts of the reduct fit and are the reduct.
use Rattle.std.proofs.Common.{length, ap, arith, length-take, length-drop, length-append}
use Rattle.braid_word.specs.Words.{Letter}
use Rattle.handle_find.proofs.ReductLength.{length-reduct, reduct-written}
use Rattle.handle_find.proofs.rewrite.write_reduct.Goals as goal

pub append-requires : goal.append-requires
append-requires c =
    let parts = length-reduct _ _ _ _ c.requires.handle c.index-word-p.is in
    let none = ap length c.clear.ensures.items in
    omega (arith, length-take {A = Letter})

pub append_replaced-requires : goal.append_replaced-requires
append_replaced-requires c =
    let parts = length-reduct _ _ _ _ c.requires.handle c.index-word-p.is in
    let none = ap length c.clear.ensures.items in
    let front = ap length c.append.ensures.items in
    omega (arith, length-append {A = Letter}, length-take {A = Letter})

pub append-requires-2 : goal.append-requires-2
append-requires-2 c =
    let parts = length-reduct _ _ _ _ c.requires.handle c.index-word-p.is in
    let none = ap length c.clear.ensures.items in
    let front = ap length c.append.ensures.items in
    let middle = ap length c.append_replaced.ensures.items in
    omega (arith, length-append {A = Letter}, length-take {A = Letter}, length-drop {A = Letter})

pub returns-clause-items : goal.returns-clause-items
returns-clause-items c =
    let h = c.requires.handle in
    reduct-written _ _ _ c.index-word-p.result _ _ _ _
    (omega arith)
    c.index-word-p.is
    c.clear.ensures.items
    c.append.ensures.items
    c.append_replaced.ensures.items
    c.append-2.ensures.items
