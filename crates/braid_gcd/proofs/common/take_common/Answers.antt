use Rattle.std.proofs.Common.{◌∙◌, ◌++◌, [], ◌∷◌, length, refl, sym, ap, arith}
use Rattle.std.proofs.lemmas.Bool.{true≢false, false≢true}
use Rattle.std.proofs.lemmas.List.{length_push}
use Rattle.braid_gcd.proofs.TakeLemmas.{taken_step, taken_lowers, order_step}
use Rattle.braid_gcd.proofs.common.take_common.Goals as goal

pub loop-i-init : goal.loop-i-init
loop-i-init c = record {
  first = c.requires.first;
  second = c.requires.second;
  taken = λ n u v ps qs taken. taken;
  longer = λ took. absurd (false≢true took);
  same = λ took. (refl, refl);
  least = omega arith;
}

pub common_descent-requires : goal.common_descent-requires
common_descent-requires c = record {
  equal = c.loop-i.invariant.first.size ∙ sym c.loop-i.invariant.second.size;
}

pub before-requires-in-Some-clause-high : goal.before-requires-in-Some-clause-high
before-requires-in-Some-clause-high c =
    omega (arith, c.in-Some.ensures.some, c.loop-i.invariant.first.size, c.loop-i.invariant.second.size)

pub loop-i-smaller : goal.loop-i-smaller
loop-i-smaller c =
    taken_lowers c.in-Some.i c.loop-i.invariant.first c.in-Some.ensures.some.0
    (omega (arith, c.in-Some.ensures.some, c.loop-i.invariant.first.size)) c.in-Some.ensures.some.2
    c.before-in-Some.ensures

pub loop-i-preserved : goal.loop-i-preserved
loop-i-preserved c = record {
  first = order_step c.in-Some.i c.loop-i.invariant.first c.in-Some.ensures.some.0
      (omega (arith, c.in-Some.ensures.some, c.loop-i.invariant.first.size)) c.before-in-Some.ensures;
  second = order_step c.in-Some.i c.loop-i.invariant.second c.in-Some.ensures.some.0
      (omega (arith, c.in-Some.ensures.some, c.loop-i.invariant.first.size)) c.before-in-Some-2.ensures;
  taken = λ n u v ps qs taken.
      taken_step n u v c.loop-i.divisor.items _ c.loop-i.first c.loop-i.second _ _ ps qs c.in-Some.i
      c.in-Some.ensures.some.0 c.in-Some.ensures.some.1 c.in-Some.ensures.some.2 c.in-Some.ensures.some.3
      (c.in_ok-push.ensures.items ∙ ap (λ x. c.loop-i.divisor.items ++ x ∷ []) c.new.ensures)
      c.before-in-Some.ensures c.before-in-Some-2.ensures (c.loop-i.invariant.taken n u v ps qs taken);
  longer = λ took. omega (
    arith,
    c.loop-i.invariant.least,
    ap length c.in_ok-push.ensures.items,
    length_push c.loop-i.divisor.items c.new.result,
  );
  same = λ took. absurd (true≢false took);
  least = omega (
    arith,
    c.loop-i.invariant.least,
    ap length c.in_ok-push.ensures.items,
    length_push c.loop-i.divisor.items c.new.result,
  );
}

pub returns-clause-taken : goal.returns-clause-taken
returns-clause-taken c = c.loop-i.invariant.taken

pub returns-clause-none : goal.returns-clause-none
returns-clause-none c =
    λ i low high. c.in_default.ensures.none i low (omega (arith, high, c.loop-i.invariant.first.size))

pub returns-clause-longer : goal.returns-clause-longer
returns-clause-longer c = c.loop-i.invariant.longer

pub returns-clause-same : goal.returns-clause-same
returns-clause-same c = c.loop-i.invariant.same
