use Rattle.term_expand.proofs.MemoLemmas.{IsMemo-remembered}
use Rattle.term_expand.proofs.memo.Memo.remember.Goals as goal

pub returns : goal.returns
returns c = λ terms. IsMemo-remembered terms c.args.self.now (record { numbers = c.insert.new.self }) _ _
    c.in-Ok.ensures.entries
