use Rattle.std.proofs.Common.{arith}
use Rattle.braid_gcd.proofs.RoundLemmas.{divided_short}
use Rattle.braid_gcd.proofs.common.take_all.Goals as goal

pub take_round-requires-clause-divided : goal.take_round-requires-clause-divided
take_round-requires-clause-divided c =
    let (n, divided) = c.requires.divided in
    (n, c.args.u.now, c.args.v.now, c.rounds.invariant.divided n divided)

pub returns-then-not-took-clause-divided : goal.returns-then-not-took-clause-divided
returns-then-not-took-clause-divided c = λ n divided.
    c.in_ok-took.ensures.divided n c.args.u.now c.args.v.now (c.rounds.invariant.divided n divided)

pub returns-then-not-took-clause-none : goal.returns-then-not-took-clause-none
returns-then-not-took-clause-none c = λ n divided.
    c.in_ok-took.ensures.none n c.args.u.now c.args.v.now (c.rounds.invariant.divided n divided)
    c.if-not-took.true

pub rounds-smaller : goal.rounds-smaller
rounds-smaller c =
    let (n, divided) = c.requires.divided in
    let now = c.in_ok-took.ensures.divided n c.args.u.now c.args.v.now
    (c.rounds.invariant.divided n divided) in
    let short = divided_short n _ _ _ _ _ c.requires.positive now in
    let more = c.in_ok-took.ensures.longer c.if-not-took.false in
    omega (arith, short, more)

pub rounds-preserved : goal.rounds-preserved
rounds-preserved c = record {
  empty = c.in_ok-took.ensures.empty;
  divided = λ n divided.
      c.in_ok-took.ensures.divided n c.args.u.now c.args.v.now (c.rounds.invariant.divided n divided);
}
