use Rattle.std.proofs.Common.{◌∙◌}
use Rattle.term_expand.proofs.MemoLemmas.{IsMemo-found}
use Rattle.term_expand.proofs.memo.Memo.find.Goals as goal

pub returns : goal.returns
returns c = λ terms. IsMemo-found terms c.args.self.now _ _ (c.copied.ensures ∙ c.get.ensures.value)
