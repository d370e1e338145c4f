-- The term is entered, and its name gets its number.
use Rattle.std.proofs.Common.{◌≡◌, ℕ, List, [], ◌∷◌, ◌++◌, sym, ap, ◌∙◌, subst}
use Rattle.ld_term.specs.TreeTexts.{written}
use Rattle.term_graph.specs.TermFiles.{definition}
use Rattle.term_graph.specs.Readings.{Keeps, Defines}
use Rattle.term_graph.proofs.KeepLineLemmas.{Keeps-definition}
use Rattle.term_graph.proofs.term_file.Reading.define.Goals as goal

pub returns-in-Ok-clause-sound : goal.returns-in-Ok-clause-sound
returns-in-Ok-clause-sound c =
    let d = c.in_ok-definition.definition in
    let t = written d.term in
    let own : List ℕ × ℕ = (d.name, c.in_ok-number.number) in
    let names : c.define.new.self ≡ c.args.self.now.names ++ (own ∷ []) =
    c.in-Ok.ensures.added ∙ ap (λ z. z ++ (own ∷ [])) c.enter.ensures.names in
    let defines : Defines c.args.k c.args.line.now c.args.self.now
    (record { graph = c.enter.new.self.graph; names = c.define.new.self; limit = c.enter.new.self.limit })
    (definition d.name d.place t) =
    record {
      sound = c.in_ok-definition.ensures.sound;
      holds = λ read numbers keeps.
          subst (λ z. Keeps c.enter.new.self.graph z c.enter.new.self.limit
          (read ++ (definition d.name d.place t ∷ [])) numbers) (sym names)
          (Keeps-definition _ _ _ _ _ read numbers d.name d.place _ t keeps c.in_ok-number.ensures.entered);
    } in
    (definition d.name d.place t, defines)
