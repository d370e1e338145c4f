use Rattle.ld_term.proofs.LevelLemmas.{none_open}
use Rattle.ld_term.proofs.levels.Levels.is_empty.Goals as goal

pub returns : goal.returns
returns c = none_open _ _ _ _ _ c.is_empty.ensures (c.self.inside.known.ok.0) c.self.view_is
