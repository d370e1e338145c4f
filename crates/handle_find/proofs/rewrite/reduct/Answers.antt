-- What holds of the reduct holds of the word that was written.
use Rattle.std.proofs.Common.{sym, subst, ◌∙◌}
use Rattle.braid_word.specs.Equivalence.{EquivalentOn}
use Rattle.handle_find.specs.Handles.{HasIndicesOf}
use Rattle.handle_find.proofs.ReductLemmas.{EquivalentOn-reduct, HasIndicesOf-reduct}
use Rattle.handle_find.proofs.rewrite.reduct.Goals as goal

pub returns-clause-equivalent : goal.returns-clause-equivalent
returns-clause-equivalent c = λ n on.
    subst (EquivalentOn n c.args.word.now) (sym (c.of.ensures ∙ c.write_reduct.ensures.items))
    (EquivalentOn-reduct n _ _ _ c.requires on)

pub returns-clause-indices : goal.returns-clause-indices
returns-clause-indices c =
    subst (HasIndicesOf c.args.word.now) (sym (c.of.ensures ∙ c.write_reduct.ensures.items))
    (HasIndicesOf-reduct _ _ _ c.requires)
