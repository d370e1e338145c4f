use Rattle.artin_laws.proofs.RelationLemmas.{ActAlike-equivalent}
use Rattle.artin_laws.proofs.laws.law_relations.Goals as goal

pub returns : goal.returns
returns c = ActAlike-equivalent
