-- A run that is done has no corner, so its word is cut behind its positive front.
use Rattle.std.proofs.Common.{arith}
use Rattle.word_reverse.specs.Cursors.{whole}
use Rattle.word_reverse.proofs.FractionLemmas.{IsSplit-cut, length-positive_front}
use Rattle.word_reverse.proofs.RevRunEquivalence.{IsRevAfter-fraction}
use Rattle.word_reverse.proofs.ReverserLemmas.{done_seen}
use Rattle.word_reverse.proofs.reverser.Reverser.split.Goals as goal

pub overflow_cast-result : goal.overflow_cast-result
overflow_cast-result c =
    let within = length-positive_front (whole c.self.inside.word) in
    record { fits = omega (arith, within, c.front_len.ensures, c.self.invariant.short_word) }

pub returns-in-Done-clause-fraction : goal.returns-in-Done-clause-fraction
returns-in-Done-clause-fraction c =
    let (none, front) = done_seen _ _ _ _ _ _ _ c.self.view_is c.self.invariant.done c.in-Done.is
    c.front_len.ensures in
    IsSplit-cut _ _ none front

pub returns-in-Done-clause-equivalent : goal.returns-in-Done-clause-equivalent
returns-in-Done-clause-equivalent c = λ w steps limit t is.
    let (none, front) = done_seen _ _ _ _ _ _ _ c.self.view_is c.self.invariant.done c.in-Done.is
    c.front_len.ensures in
    IsRevAfter-fraction w steps limit t _ _ is none front
