use Rattle.std.proofs.Common.{sym, subst}
use Rattle.braid_gcd.specs.NormalWords.{Answer, IsAnswerOf}
use Rattle.braid_gcd.specs.Rounds.{IsSpelledWord}
use Rattle.braid_gcd.proofs.CommonLemmas.{divided_begins, divided_letters, first_short, second_short, answer_made}
use Rattle.braid_gcd.proofs.divide.common_divisor.Goals as goal

pub take_all-requires-clause-divided : goal.take_all-requires-clause-divided
take_all-requires-clause-divided c =
    (c.args.n, divided_begins c.in_ok-first.ensures c.in_ok-second.ensures)

pub normal_word-requires-clause-most : goal.normal_word-requires-clause-most
normal_word-requires-clause-most c =
    let divided = c.in_ok-letters.ensures.divided c.args.n
    (divided_begins c.in_ok-first.ensures c.in_ok-second.ensures) in
    (divided_letters _ _ _ _ _ _ _ c.requires.first_positive c.requires.first_most divided
    c.as_slice.ensures.value).most

pub normal_word-requires-clause-on : goal.normal_word-requires-clause-on
normal_word-requires-clause-on c =
    let divided = c.in_ok-letters.ensures.divided c.args.n
    (divided_begins c.in_ok-first.ensures c.in_ok-second.ensures) in
    (divided_letters _ _ _ _ _ _ _ c.requires.first_positive c.requires.first_most divided
    c.as_slice.ensures.value).on

pub normal_word-requires-clause-positive : goal.normal_word-requires-clause-positive
normal_word-requires-clause-positive c =
    let divided = c.in_ok-letters.ensures.divided c.args.n
    (divided_begins c.in_ok-first.ensures c.in_ok-second.ensures) in
    (divided_letters _ _ _ _ _ _ _ c.requires.first_positive c.requires.first_most divided
    c.as_slice.ensures.value).positive

pub list_word-requires-clause-orders : goal.list_word-requires-clause-orders
list_word-requires-clause-orders c =
    let divided = c.in_ok-letters.ensures.divided c.args.n
    (divided_begins c.in_ok-first.ensures c.in_ok-second.ensures) in
    divided.taken.first_orders

pub list_word-requires-clause-most : goal.list_word-requires-clause-most
list_word-requires-clause-most c = λ w product.
    let divided = c.in_ok-letters.ensures.divided c.args.n
    (divided_begins c.in_ok-first.ensures c.in_ok-second.ensures) in
    first_short _ _ _ _ w _ _ c.requires.first_positive c.requires.first_most divided product

pub list_word-requires-2-clause-orders : goal.list_word-requires-2-clause-orders
list_word-requires-2-clause-orders c =
    let divided = c.in_ok-letters.ensures.divided c.args.n
    (divided_begins c.in_ok-first.ensures c.in_ok-second.ensures) in
    divided.taken.second_orders

pub list_word-requires-2-clause-most : goal.list_word-requires-2-clause-most
list_word-requires-2-clause-most c = λ w product.
    let divided = c.in_ok-letters.ensures.divided c.args.n
    (divided_begins c.in_ok-first.ensures c.in_ok-second.ensures) in
    second_short _ _ _ _ w _ _ c.requires.second_positive c.requires.second_most divided product

pub returns : goal.returns
returns c =
    let divided = c.in_ok-letters.ensures.divided c.args.n
    (divided_begins c.in_ok-first.ensures c.in_ok-second.ensures) in
    let none = c.in_ok-letters.ensures.none c.args.n
    (divided_begins c.in_ok-first.ensures c.in_ok-second.ensures) in
    let divisor : IsSpelledWord c.args.n c.in_ok-letters.letters.items c.in_ok-divisor.divisor.items =
    subst (λ g. IsSpelledWord c.args.n g c.in_ok-divisor.divisor.items) c.as_slice.ensures.value
    c.in_ok-divisor.ensures in
    subst (λ (r : Answer). IsAnswerOf c.args.n c.args.u.now c.args.v.now r.divisor r.left r.right)
    (sym c.of.ensures)
    (answer_made _ _ _ _ _ _ _ _ _ c.requires.first_positive c.requires.second_positive divided none divisor
    c.in_ok-left.ensures c.in_ok-right.ensures)
