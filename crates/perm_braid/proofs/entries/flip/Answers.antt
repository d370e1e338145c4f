use Rattle.std.proofs.Common.{arith, ◌∙◌}
use Rattle.std.proofs.lemmas.List.{length-set}
use Rattle.perm_braid.proofs.ScanLemmas.{turn_room, turn_more, turn_rest, turn_all}
use Rattle.perm_braid.proofs.entries.flip.Goals as goal

pub overflow_sub-numbers : goal.overflow_sub-numbers
overflow_sub-numbers c =
    turn_room c.args.numbers.now c.reverse.new.self c.loop-k.numbers c.loop-k.k c.requires.order
    c.reverse.ensures.after
    (omega (arith, c.loop-k-test.true, c.loop-k.auto.k-end, c.loop-k.invariant.long)) c.loop-k.invariant.rest

pub loop-k-preserved : goal.loop-k-preserved
loop-k-preserved c = record {
  long = length-set _ c.loop-k.k _ ∙ c.loop-k.invariant.long;
  turned = turn_more c.reverse.new.self c.loop-k.numbers c.loop-k.k _
      (omega (arith, c.loop-k-test.true, c.loop-k.auto.k-end, c.loop-k.invariant.long))
      c.loop-k.invariant.turned
      c.loop-k.invariant.rest;
  rest = turn_rest c.reverse.new.self c.loop-k.numbers c.loop-k.k _ c.loop-k.invariant.rest;
}

pub returns : goal.returns
returns c =
    turn_all c.args.numbers.now c.reverse.new.self c.loop-k.numbers c.loop-k.k c.reverse.ensures.after
    c.loop-k.invariant.long (omega (arith, c.loop-k-test.false, c.loop-k.auto.k-end, c.loop-k.invariant.long))
    c.loop-k.invariant.turned
