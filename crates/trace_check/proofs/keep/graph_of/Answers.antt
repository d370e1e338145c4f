use Rattle.ld_term.specs.TreeTexts.{written}
use Rattle.trace_check.proofs.TermLemmas.{first_unknown-nameless, refused-Memory, number-as_term}
use Rattle.trace_check.proofs.keep.graph_of.Goals as goal

pub insert-requires-clause-known : goal.insert-requires-clause-known
insert-requires-clause-known c = first_unknown-nameless _ (written c.args.tree.now) c.requires.nameless

pub unreachable-requires : goal.unreachable-requires
unreachable-requires c =
    let memory = refused-Memory _ _ (written c.args.tree.now) c.in-Err-TooDeep.field-0 c.in_ok-graph.ensures
    c.new-2.ensures c.requires.small c.in-Err-TooDeep.ensures.refused in
    let is = c.in-Err-TooDeep.field-0-is in
    absurd (cc)

pub unreachable-requires-in-Err-Full : goal.unreachable-requires-in-Err-Full
unreachable-requires-in-Err-Full c =
    let memory = refused-Memory _ _ (written c.args.tree.now) c.in-Err-Full.field-0 c.in_ok-graph.ensures
    c.new-2.ensures c.requires.small c.in-Err-Full.ensures.refused in
    let is = c.in-Err-Full.field-0-is in
    absurd (cc)

pub returns-in-Ok : goal.returns-in-Ok
returns-in-Ok c = (
  c.in-Ok.ensures.number.0,
  number-as_term _ _ _ (written c.args.tree.now) c.in-Ok.number c.new-2.ensures c.in-Ok.ensures.number.1,
)
