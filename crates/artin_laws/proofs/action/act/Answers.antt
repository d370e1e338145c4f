use Rattle.artin_laws.proofs.ImageLemmas.{act-start, act-back, ImagesFit-start, ImagesFit-back, ImagesFit-exceeded}
use Rattle.artin_laws.proofs.action.act.Goals as goal

pub loop-k-init : goal.loop-k-init
loop-k-init c = record {
  is = act-start c.args.word.now _ _ c.in_ok-image.ensures.value;
  fit = ImagesFit-start c.args.limit c.args.word.now c.args.start.now c.requires.short;
}

pub returns-then-letters-limit-clause-too_long : goal.returns-then-letters-limit-clause-too_long
returns-then-letters-limit-clause-too_long c _ =
    let image = act-back c.args.word.now c.loop-k.k c.index-word-k.result c.args.start.now _ _ _
    c.loop-k-test.true c.loop-k.auto.k c.index-word-k.is c.loop-k.invariant.is
    c.letters.ensures.value c.in_ok-image-2.ensures in
    ImagesFit-exceeded c.args.limit c.args.word.now _ c.args.start.now _ _ image
    c.letters-in-loop-k.ensures.value c.if-letters-limit.true

pub loop-k-preserved : goal.loop-k-preserved
loop-k-preserved c =
    let image = act-back c.args.word.now c.loop-k.k c.index-word-k.result c.args.start.now _ _ _
    c.loop-k-test.true c.loop-k.auto.k c.index-word-k.is c.loop-k.invariant.is
    c.letters.ensures.value c.in_ok-image-2.ensures in
    let fit = ImagesFit-back c.args.limit c.args.word.now c.loop-k.k c.index-word-k.result
    c.args.start.now _ _ c.loop-k-test.true c.loop-k.auto.k c.index-word-k.is
    c.loop-k.invariant.fit image c.letters-in-loop-k.ensures.value c.if-letters-limit.false in
    record { is = image; fit = fit }
