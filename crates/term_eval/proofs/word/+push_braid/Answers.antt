-- A product's word comes in four pieces.
use Rattle.std.proofs.Common.{arith}
use Rattle.braid_word.specs.declared.TheConstants.{MAX_INDEX}
use Rattle.term_eval.proofs.PlacedLemmas.{parts_low, pieces-variable, pieces-forward, pieces-inverted}
use Rattle.term_eval.proofs.word.+push_braid.Goals as goal

pub returns-in_default : goal.returns-in_default
returns-in_default t c = pieces-variable c.args.shift c.args.inverted _ _ c.in_default.ensures

pub push_braid-requires : goal.push_braid-requires
push_braid-requires t c =
    let low = parts_low _ MAX_INDEX _ _ _ c.in-Some.ensures.2 c.requires.low in
    (omega (arith, c.in-Some.ensures.0), (omega (arith, c.in-Some.ensures.0, c.requires.there), low.0))

pub push_braid-requires-then-inverted : goal.push_braid-requires-then-inverted
push_braid-requires-then-inverted t c =
    let low = parts_low _ MAX_INDEX _ _ _ c.in-Some.ensures.2 c.requires.low in
    (omega (arith, c.in-Some.ensures.1), (omega (arith, c.in-Some.ensures.1, c.requires.there), low.1))

pub push_braid-requires-then-inverted-2 : goal.push_braid-requires-then-inverted-2
push_braid-requires-then-inverted-2 t c =
    let low = parts_low _ MAX_INDEX _ _ _ c.in-Some.ensures.2 c.requires.low in (
      omega (arith, c.in-Some.ensures.0),
      (omega (arith, c.in-Some.ensures.0, c.requires.there), omega (arith, low.0)),
    )

pub push_braid-requires-else-inverted : goal.push_braid-requires-else-inverted
push_braid-requires-else-inverted t c =
    let low = parts_low _ MAX_INDEX _ _ _ c.in-Some.ensures.2 c.requires.low in (
      omega (arith, c.in-Some.ensures.0),
      (omega (arith, c.in-Some.ensures.0, c.requires.there), omega (arith, low.0)),
    )

pub push_braid-requires-else-inverted-2 : goal.push_braid-requires-else-inverted-2
push_braid-requires-else-inverted-2 t c =
    let low = parts_low _ MAX_INDEX _ _ _ c.in-Some.ensures.2 c.requires.low in
    (omega (arith, c.in-Some.ensures.1), (omega (arith, c.in-Some.ensures.1, c.requires.there), low.1))

pub push_braid-requires-else-inverted-3 : goal.push_braid-requires-else-inverted-3
push_braid-requires-else-inverted-3 t c =
    let low = parts_low _ MAX_INDEX _ _ _ c.in-Some.ensures.2 c.requires.low in
    (omega (arith, c.in-Some.ensures.0), (omega (arith, c.in-Some.ensures.0, c.requires.there), low.0))

pub returns-in_ok-push_braid-2 : goal.returns-in_ok-push_braid-2
returns-in_ok-push_braid-2 t c =
    pieces-inverted c.push_braid-then-inverted-2.result c.args.shift _ _ _ _ c.args.letters.now.items
    c.push_braid.new.letters.items c.push.new.self.items c.push_braid-then-inverted.new.letters.items
    c.push_braid-then-inverted-2.new.letters.items _ c.if-inverted.true c.in-Some.ensures.2
    c.in_ok-push_braid.ensures
    c.new.ensures c.in_ok-push.ensures.items c.in_ok-push_braid-2.ensures c.push_braid-then-inverted-2.ensures

pub returns-in_ok-push-2 : goal.returns-in_ok-push-2
returns-in_ok-push-2 t c =
    pieces-forward c.push_braid-else-inverted-3.result c.args.shift _ _ _ _ c.args.letters.now.items
    c.push_braid-else-inverted.new.letters.items c.push_braid-else-inverted-2.new.letters.items
    c.push-else-inverted.new.self.items c.push_braid-else-inverted-3.new.letters.items _ c.if-inverted.false
    c.in-Some.ensures.2 c.in_ok-push_braid-3.ensures c.in_ok-push_braid-4.ensures
    c.new-else-inverted.ensures c.in_ok-push-2.ensures.items
    c.push_braid-else-inverted-3.ensures
