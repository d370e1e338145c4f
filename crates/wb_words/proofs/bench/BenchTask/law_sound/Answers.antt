use Rattle.wb_words.proofs.TallyLemmas.{IsSound-bench}
use Rattle.wb_words.proofs.bench.BenchTask.law_sound.Goals as goal

pub returns : goal.returns
returns c = IsSound-bench c.args.self.now
