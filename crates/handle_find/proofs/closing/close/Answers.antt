-- The letters that are taken back and those that stay are the reduct.
use Rattle.std.proofs.Common.{◌++◌, List, length, take, drop, flat_map, ap, refl, ◌∙◌, arith}
use Rattle.std.proofs.lemmas.List.Edits.{length-remove}
use Rattle.braid_word.specs.Words.{Letter}
use Rattle.gap_word.specs.Gap.{room}
use Rattle.handle_find.specs.Handles.{replaced}
use Rattle.handle_find.proofs.ReduceLemmas.{room-first, room-second, reduct-stay, reduct-back, IsBarred-start}
use Rattle.handle_find.proofs.closing.close.Goals as goal

pub shorten-requires-clause-room : goal.shorten-requires-clause-room
shorten-requires-clause-room c =
    let pops = c.in-Some.ensures.item in
    let left = ap length pops.left in
    let right = ap length pops.right in
    let fits = room-first _ _ c.pop_right.new.self.right _ c.args.first c.args.start _ c.args.found.now.from _
    c.requires.handle pops.right c.requires.first c.requires.found
    (room c.args.letters.now) c.requires.room in
    rw pops.left (omega (arith, pops.spare))

pub remove_at-requires-clause-barred : goal.remove_at-requires-clause-barred
remove_at-requires-clause-barred c =
    let pops = c.in-Some.ensures.item in (
      c.args.found.now.low,
      IsBarred-start _ _ c.args.first c.args.start _ c.args.found.now.from _
          c.requires.found c.requires.first
          (c.shorten.ensures.left ∙ ap (take c.args.found.now.from) pops.left)
          (c.is_barred.ensures c.if-is_barred.true),
    )

pub shorten-requires-else-is_barred-clause-room : goal.shorten-requires-else-is_barred-clause-room
shorten-requires-else-is_barred-clause-room c =
    let pops = c.in-Some.ensures.item in
    let left = ap length pops.left in
    let right = ap length pops.right in
    let same = c.shorten.ensures.room in
    let put = c.shorten.ensures.right ∙ ap
    (λ (w : List Letter). flat_map (replaced c.args.first.index c.args.first.negative)
    (drop c.args.found.now.from w) ++ c.pop_right.new.self.right) pops.left in
    let fits = room-second _ _ c.pop_right.new.self.right _ c.args.first c.args.start _
    c.args.found.now.from _
    c.requires.handle pops.right c.requires.first c.requires.found
    c.shorten.new.letters.left c.shorten.new.letters.right (room c.args.letters.now)
    c.requires.room
    (c.shorten.ensures.left ∙ ap (take c.args.found.now.from) pops.left)
    put in
    omega (arith, pops.spare)

pub returns-then-is_barred-clause-reduct : goal.returns-then-is_barred-clause-reduct
returns-then-is_barred-clause-reduct c =
    let pops = c.in-Some.ensures.item in
    let put = c.shorten.ensures.right ∙ ap
    (λ (w : List Letter). flat_map (replaced c.args.first.index c.args.first.negative)
    (drop c.args.found.now.from w) ++ c.pop_right.new.self.right) pops.left in
    rw (c.remove_at.ensures.letters, put)
    (reduct-stay _ _ c.pop_right.new.self.right _ c.args.first c.args.start _ c.args.found.now.from _
    c.requires.handle pops.right c.requires.first c.requires.found
    c.shorten.new.letters.left _
    (c.shorten.ensures.left ∙ ap (take c.args.found.now.from) pops.left)
    refl)

pub returns-then-is_barred-clause-room : goal.returns-then-is_barred-clause-room
returns-then-is_barred-clause-room c =
    let pops = c.in-Some.ensures.item in
    let left = ap length pops.left in
    let right = ap length pops.right in
    let same = c.shorten.ensures.room in
    let bar = IsBarred-start _ _ c.args.first c.args.start _ c.args.found.now.from _
    c.requires.found c.requires.first
    (c.shorten.ensures.left ∙ ap (take c.args.found.now.from) pops.left)
    (c.is_barred.ensures c.if-is_barred.true) in
    let less = length-remove c.shorten.new.letters.left c.args.start bar.within in
    rw c.remove_at.ensures.letters (omega (arith, pops.spare))

pub returns-else-is_barred-clause-reduct : goal.returns-else-is_barred-clause-reduct
returns-else-is_barred-clause-reduct c =
    let pops = c.in-Some.ensures.item in
    let put = c.shorten.ensures.right ∙ ap
    (λ (w : List Letter). flat_map (replaced c.args.first.index c.args.first.negative)
    (drop c.args.found.now.from w) ++ c.pop_right.new.self.right) pops.left in
    rw (c.drop_last.ensures.letters, c.shorten-else-is_barred.ensures.right, put)
    (reduct-back _ _ c.pop_right.new.self.right _ c.args.first c.args.start _ c.args.found.now.from _
    c.requires.handle pops.right c.requires.first c.requires.found
    c.shorten.new.letters.left c.shorten-else-is_barred.new.letters.left _
    (c.shorten.ensures.left ∙ ap (take c.args.found.now.from) pops.left)
    c.shorten-else-is_barred.ensures.left
    refl)
