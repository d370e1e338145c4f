use Rattle.std.proofs.Common.{ap, ◌∙◌}
use Rattle.term_graph.specs.NameLists.{number_of}
use Rattle.term_graph.proofs.NameListLemmas.{number_of-lookup}
use Rattle.term_graph.proofs.names.Names.find.Goals as goal

pub returns : goal.returns
returns c =
    c.copied.ensures ∙ c.get.ensures.value ∙ number_of-lookup c.args.name.now c.self.inside.numbers.entries
    ∙ ap (number_of c.args.name.now) c.self.view_is
