use Rattle.std.proofs.Common.{◌<◌, ◌≤◌, sym, ◌∙◌, arith, true≢false}
use Rattle.ld_term.specs.Terms.{height, multiply}
use Rattle.ld_term.specs.declared.TheConstants.{MAX_HEIGHT}
use Rattle.term_graph.specs.TermLists.{term_at, product_count}
use Rattle.term_graph.specs.declared.TheConstants.{MAX_NODES}
use Rattle.term_graph.proofs.AskLemmas.{Stands-has_term, ask-there, ask-deep, ask-full}
use Rattle.term_graph.proofs.graph.TermGraph.product.Goals as goal

pub returns-in-Some-clause-asked : goal.returns-in-Some-clause-asked
returns-in-Some-clause-asked c =
    let t = multiply (term_at c.args.self.now c.args.a) (term_at c.args.self.now c.args.b) in
    ask-there c.args.self.now t
    (Stands-has_term t c.args.self.now
    (record { number = c.in-Some.number; within = c.in-Some.ensures.0; is = c.in-Some.ensures.1 }))

pub returns-in-Some-clause-deep : goal.returns-in-Some-clause-deep
returns-in-Some-clause-deep c =
    let t = multiply (term_at c.args.self.now c.args.a) (term_at c.args.self.now c.args.b) in
    let there = ask-there c.args.self.now t
    (Stands-has_term t c.args.self.now
    (record { number = c.in-Some.number; within = c.in-Some.ensures.0; is = c.in-Some.ensures.1 })) in
    λ is. let none = sym there ∙ is in absurd cc

pub returns-in-Some-clause-full : goal.returns-in-Some-clause-full
returns-in-Some-clause-full c =
    let t = multiply (term_at c.args.self.now c.args.a) (term_at c.args.self.now c.args.b) in
    let there = ask-there c.args.self.now t
    (Stands-has_term t c.args.self.now
    (record { number = c.in-Some.number; within = c.in-Some.ensures.0; is = c.in-Some.ensures.1 })) in
    λ is. let none = sym there ∙ is in absurd cc

pub returns-then-height-gt-MAX_HEIGHT-clause-refused :
    goal.returns-then-height-gt-MAX_HEIGHT-clause-refused
returns-then-height-gt-MAX_HEIGHT-clause-refused c =
    let t = multiply (term_at c.args.self.now c.args.a) (term_at c.args.self.now c.args.b) in
    let high : MAX_HEIGHT < height t =
    omega (
      arith,
      c.if-height-gt-MAX_HEIGHT.true,
      c.max-height.ensures,
      c.height.ensures.height,
      c.height-2.ensures.height,
    ) in
    ask-deep c.args.self.now t c.in_default.ensures high

pub returns-then-height-gt-MAX_HEIGHT-clause-there :
    goal.returns-then-height-gt-MAX_HEIGHT-clause-there
returns-then-height-gt-MAX_HEIGHT-clause-there c =
    λ there. absurd (true≢false (sym there ∙ c.in_default.ensures))

pub returns-then-nodes-ge-MAX_NODES-clause-refused : goal.returns-then-nodes-ge-MAX_NODES-clause-refused
returns-then-nodes-ge-MAX_NODES-clause-refused c =
    let t = multiply (term_at c.args.self.now c.args.a) (term_at c.args.self.now c.args.b) in
    let low : height t ≤ MAX_HEIGHT =
    omega (
      arith,
      c.if-height-gt-MAX_HEIGHT.false,
      c.max-height.ensures,
      c.height.ensures.height,
      c.height-2.ensures.height,
    ) in
    let many : MAX_NODES ≤ product_count c.args.self.now =
    omega (arith, c.nodes.ensures.count, c.if-nodes-ge-MAX_NODES.true) in
    ask-full c.args.self.now t c.in_default.ensures low many

pub returns-then-nodes-ge-MAX_NODES-clause-there : goal.returns-then-nodes-ge-MAX_NODES-clause-there
returns-then-nodes-ge-MAX_NODES-clause-there c =
    λ there. absurd (true≢false (sym there ∙ c.in_default.ensures))
