use Rattle.std.proofs.Common.{◌∙◌, reverse, sym, ap}
use Rattle.std.proofs.lemmas.List.{nil_from_length}
use Rattle.braid_gcd.proofs.RoundLemmas.{round_from, round_first, round_second, round_divided, round_none, none_first, none_second}
use Rattle.braid_gcd.proofs.common.take_round.Goals as goal

pub returns-in_default-clause-none : goal.returns-in_default-clause-none
returns-in_default-clause-none c = λ n u v divided took.
    none_first n _ _
    (ap reverse (nil_from_length c.pop.new.self.items
    (sym c.pop.new.self.ok.0 ∙ c.in_default.ensures.cases.1)))

pub returns-in_default-pop-clause-none : goal.returns-in_default-pop-clause-none
returns-in_default-pop-clause-none c = λ n u v divided took.
    none_second n _ _
    (ap reverse (nil_from_length c.pop-2.new.self.items
    (sym c.pop-2.new.self.ok.0 ∙ c.in_default-pop.ensures.cases.1)))

pub put_in-requires-clause-orders : goal.put_in-requires-clause-orders
put_in-requires-clause-orders c =
    let (n, u, v, divided) = c.requires.divided in
    (round_first (round_from n u v _ _ _ _ _ _ _ _ _ _ c.in-Some.ensures.items c.in-Some-pop.ensures.items
    c.in_ok-took.ensures.taken divided)).0

pub put_in-requires-clause-greedy : goal.put_in-requires-clause-greedy
put_in-requires-clause-greedy c =
    let (n, u, v, divided) = c.requires.divided in
    (round_first (round_from n u v _ _ _ _ _ _ _ _ _ _ c.in-Some.ensures.items c.in-Some-pop.ensures.items
    c.in_ok-took.ensures.taken divided)).1

pub put_in-requires-2-clause-orders : goal.put_in-requires-2-clause-orders
put_in-requires-2-clause-orders c =
    let (n, u, v, divided) = c.requires.divided in
    (round_second (round_from n u v _ _ _ _ _ _ _ _ _ _ c.in-Some.ensures.items c.in-Some-pop.ensures.items
    c.in_ok-took.ensures.taken divided)).0

pub put_in-requires-2-clause-greedy : goal.put_in-requires-2-clause-greedy
put_in-requires-2-clause-greedy c =
    let (n, u, v, divided) = c.requires.divided in
    (round_second (round_from n u v _ _ _ _ _ _ _ _ _ _ c.in-Some.ensures.items c.in-Some-pop.ensures.items
    c.in_ok-took.ensures.taken divided)).1

pub returns-clause-divided : goal.returns-clause-divided
returns-clause-divided c = λ n u v divided.
    round_divided (round_from n u v _ _ _ _ _ _ _ _ _ _ c.in-Some.ensures.items c.in-Some-pop.ensures.items
    c.in_ok-took.ensures.taken divided) c.in_ok-put_in.ensures.put c.in_ok-put_in-2.ensures.put

pub returns-clause-none : goal.returns-clause-none
returns-clause-none c = λ n u v divided took.
    round_none (round_from n u v _ _ _ _ _ _ _ _ _ _ c.in-Some.ensures.items c.in-Some-pop.ensures.items
    c.in_ok-took.ensures.taken divided) c.in_ok-took.ensures.none (c.in_ok-took.ensures.same took)
    c.in_ok-put_in.ensures.put c.in_ok-put_in-2.ensures.put
