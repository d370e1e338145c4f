use Rattle.std.proofs.Common.{ap, sym, ◌∙◌, is_some, true≢false, ◌++◌, ◌∷◌, [], refl}
use Rattle.term_graph.specs.NameLists.{number_of}
use Rattle.wb_base.proofs.PartLemmas.{is_some-None}
use Rattle.term_graph.proofs.NameListLemmas.{number_of-lookup}
use Rattle.indexmap.proofs.CallerLemmas.{insert_entry-new}
use Rattle.term_graph.proofs.names.Names.define.Goals as goal

pub returns-then-contains_key-clause-twice : goal.returns-then-contains_key-clause-twice
returns-then-contains_key-clause-twice c =
    let found = sym (ap (number_of c.args.name) c.self.view_is)
    ∙ sym (number_of-lookup c.args.name c.self.inside.numbers.entries) in
    (λ is. ap is_some found ∙ sym c.if-contains_key.ensures, λ there. refl)

pub returns-in_default-clause-twice : goal.returns-in_default-clause-twice
returns-in_default-clause-twice c =
    let found = sym (ap (number_of c.args.name) c.self.view_is)
    ∙ sym (number_of-lookup c.args.name c.self.inside.numbers.entries) in (
      λ is. absurd cc,
      λ there. absurd (true≢false (sym there ∙ ap is_some found ∙ sym c.if-contains_key.ensures)),
    )

pub returns-clause-added : goal.returns-clause-added
returns-clause-added c =
    c.in-Ok.ensures.entries
    ∙ insert_entry-new _ c.self.inside.numbers c.args.name c.args.node
    (is_some-None _ (sym c.if-contains_key.ensures))
    ∙ ap (λ z. z ++ (c.args.name, c.args.node) ∷ []) c.self.view_is

pub returns-clause-twice : goal.returns-clause-twice
returns-clause-twice c =
    let found = sym (ap (number_of c.args.name) c.self.view_is)
    ∙ sym (number_of-lookup c.args.name c.self.inside.numbers.entries) in (
      λ is. absurd cc,
      λ there. absurd (true≢false (sym there ∙ ap is_some found ∙ sym c.if-contains_key.ensures)),
    )
