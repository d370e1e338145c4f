use Rattle.std.proofs.Common.{not, ap, sym, ◌∙◌}
use Rattle.wb_base.proofs.PartLemmas.{is_some-None}
use Rattle.word_reverse.specs.Cursors.{whole}
use Rattle.word_reverse.proofs.PresentLemmas.{is_split-tested}
use Rattle.word_reverse.proofs.present.Present.is_split.Goals as goal

pub returns-then-is_none : goal.returns-then-is_none
returns-then-is_none c =
    let none = is_some-None _ (c.is_none.ensures ∙ ap not c.if-is_none.true) in
    is_split-tested c.args.self.now c.args.u.now c.args.v.now (whole c.self.inside.letters) _ c.self.view_is
    (sym c.first_negative.ensures.place ∙ none) c.is_fraction.ensures
