use Rattle.std.proofs.Common.{arith}
use Rattle.word_reverse.specs.Cursors.{whole}
use Rattle.word_reverse.proofs.FractionLemmas.{length-positive_front}
use Rattle.word_reverse.proofs.PresentLemmas.{front-tested, front-other}
use Rattle.word_reverse.proofs.present.Present.has_front.Goals as goal

pub begins_with-requires : goal.begins_with-requires
begins_with-requires c =
    let short = length-positive_front (whole c.self.inside.letters) in
    omega (arith, short, c.front_len.ensures, c.if-front_len-u.true)

pub returns-then-front_len-u : goal.returns-then-front_len-u
returns-then-front_len-u c =
    front-tested c.args.u.now c.args.self.now (whole c.self.inside.letters) _ _ c.self.view_is
    c.front_len.ensures (omega (arith, c.if-front_len-u.true)) c.begins_with.ensures

pub returns-else-front_len-u : goal.returns-else-front_len-u
returns-else-front_len-u c =
    front-other c.args.u.now c.args.self.now (whole c.self.inside.letters) _ c.self.view_is
    c.front_len.ensures (λ same. omega (arith, same, c.if-front_len-u.false))
