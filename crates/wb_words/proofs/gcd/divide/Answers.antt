use Rattle.std.proofs.Common.{Err, ap}
use Rattle.wb_words.proofs.GcdLemmas.{outside_never, negative_never, IsDividedOr-found, IsDividedOr-long}
use Rattle.wb_words.proofs.gcd.divide.Goals as goal

pub returns-in-Ok : goal.returns-in-Ok
returns-in-Ok c =
    IsDividedOr-found c.args.strands c.args.first.now c.args.second.now _ c.in-Ok.found c.requires.first_on
    c.requires.second_on c.requires.first_positive c.requires.second_positive c.in-Ok.ensures.long
    c.in-Ok.ensures.answer

pub returns-in-Err-TooLong : goal.returns-in-Err-TooLong
returns-in-Err-TooLong c =
    let (to, from) = c.in-Err-TooLong.ensures.long c.in-Err-TooLong.field-0-0 c.in-Err-TooLong.field-0-1 in
    let (on, positive, long) = to (ap Err c.in-Err-TooLong.field-0-is) in
    IsDividedOr-long c.args.strands c.args.first.now c.args.second.now _ _ long

pub unreachable-requires : goal.unreachable-requires
unreachable-requires c =
    let (to, from) = c.in-Err-Strands.ensures.strands c.in-Err-Strands.field-0-0 c.in-Err-Strands.field-0-1 in
    outside_never c.args.strands c.args.first.now c.args.second.now _ _ c.requires.first_on
    c.requires.second_on (to (ap Err c.in-Err-Strands.field-0-is))

pub unreachable-requires-in-Err-Negative : goal.unreachable-requires-in-Err-Negative
unreachable-requires-in-Err-Negative c =
    let (to, from) =
    c.in-Err-Negative.ensures.negative c.in-Err-Negative.field-0-0 c.in-Err-Negative.field-0-1 in
    let (on, found) = to (ap Err c.in-Err-Negative.field-0-is) in
    negative_never c.args.first.now c.args.second.now _ _ c.requires.first_positive
    c.requires.second_positive found
