use Rattle.std.proofs.Common.{ap, ◌∙◌, sym, arith}
use Rattle.braid_word.specs.Words.{Letter}
use Rattle.garside_form.specs.FactorLists.{turned_index}
use Rattle.garside_form.proofs.TurnLemmas.{count_most}
use Rattle.garside_form.proofs.LetterLemmas.{read_begins, read_next, take_asks}
use Rattle.garside_form.proofs.letters.take_letters.Goals as goal

pub loop-k-init : goal.loop-k-init
loop-k-init c = record {
  read = read_begins c.args.n c.args.word.now _ c.requires.empty;
  empty = c.new-stack.ensures.items;
  made = omega arith;
  inverse = omega arith;
}

pub take_in-requires-clause-ready : goal.take_in-requires-clause-ready
take_in-requires-clause-ready c =
    (take_asks _ c.loop-k.k c.turned_index-i.result c.args.word.now c.index-word-k.result _ c.loop-k.odd _ _ _
    c.requires.on c.loop-k-test.true c.index-word-k.is
    (c.turned_index-i.ensures
    ∙ ap (turned_index c.args.n c.loop-k.odd) (c.from.ensures ∙ c.index.ensures.value))
    c.in_ok-factor.ensures c.loop-k.invariant.read.ready).0

pub take_in-requires-clause-order : goal.take_in-requires-clause-order
take_in-requires-clause-order c =
    (take_asks _ c.loop-k.k c.turned_index-i.result c.args.word.now c.index-word-k.result _ c.loop-k.odd _ _ _
    c.requires.on c.loop-k-test.true c.index-word-k.is
    (c.turned_index-i.ensures
    ∙ ap (turned_index c.args.n c.loop-k.odd) (c.from.ensures ∙ c.index.ensures.value))
    c.in_ok-factor.ensures c.loop-k.invariant.read.ready).1

pub loop-k-preserved : goal.loop-k-preserved
loop-k-preserved c =
    let inv = c.loop-k.invariant in
    let drops = c.in_ok-drop_identities.ensures in
    record {
      read = read_next _ c.loop-k.k c.loop-k.made c.loop-k.inverse c.from-inverse.result c.from-made.result
          c.turned_index-i.result c.args.word.now c.index-word-k.result _ c.loop-k.odd
          c.letter.inside.negative
          c.in_ok-turned.turned c.loop-k.list.items c.take_in.new.list.items c.drop_identities.new.list.items
          c.in_ok-factor.factor c.requires.on c.loop-k-test.true c.index-word-k.is
          (sym (ap (λ (z : Letter). z.negative) c.letter.view_is))
          (c.turned_index-i.ensures
          ∙ ap (turned_index c.args.n c.loop-k.odd) (c.from.ensures ∙ c.index.ensures.value))
          c.in_ok-factor.ensures inv.read c.in_ok-turned.ensures.taken drops.ready drops.keeps
          c.from-inverse.ensures c.from-made.ensures;
      empty = c.in_ok-turned.ensures.empty;
      made = omega (arith, count_most _ _ c.from-made.ensures, inv.made);
      inverse = omega (arith, count_most _ _ c.from-inverse.ensures, inv.inverse);
    }
