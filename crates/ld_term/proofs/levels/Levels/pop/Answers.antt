use Rattle.std.proofs.Common.{sym, ◌∙◌}
use Rattle.ld_term.proofs.LevelLemmas.{off-none, off-some, off-never}
use Rattle.ld_term.proofs.levels.Levels.pop.Goals as goal

pub invariant_of-self-then-not-branch : goal.invariant_of-self-then-not-branch
invariant_of-self-then-not-branch c =
    (off-none _ _ _ _ (rw c.if-not-branch.true at c.in_ok-pop.ensures.items) c.self.invariant c.self.view_is).0

pub returns-then-not-branch : goal.returns-then-not-branch
returns-then-not-branch c =
    (off-none _ _ _ _ (rw c.if-not-branch.true at c.in_ok-pop.ensures.items) c.self.invariant c.self.view_is).1

pub unreachable-requires : goal.unreachable-requires
unreachable-requires c =
    off-never _ _ _ (rw c.if-not-branch.false at c.in_ok-pop.ensures.items)
    (sym c.self.inside.heights.ok.0 ∙ c.in-None.ensures.cases.0) c.self.invariant

pub invariant_of-self-2 : goal.invariant_of-self-2
invariant_of-self-2 c =
    (off-some _ _ _ _ _ c.in-Some.height (rw c.if-not-branch.false at c.in_ok-pop.ensures.items)
    c.in-Some.ensures.items c.self.invariant c.self.view_is).0

pub returns : goal.returns
returns c =
    (off-some _ _ _ _ _ c.in-Some.height (rw c.if-not-branch.false at c.in_ok-pop.ensures.items)
    c.in-Some.ensures.items c.self.invariant c.self.view_is).1
