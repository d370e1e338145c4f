use Rattle.std.proofs.Common.{Some, sym, subst, ◌∙◌}
use Rattle.ld_term.specs.Held.{IsHeld}
use Rattle.std.proofs.lemmas.Bool.{false≢true}
use Rattle.ld_term.proofs.HeldLemmas.{moves-star}
use Rattle.ld_term.proofs.reader.Reader.star.Goals.{else-strict-via-then-strict+else-is_empty, else-strict-via-else-strict}
use Rattle.ld_term.proofs.reader.Reader.star.Goals as goal

pub returns : goal.returns
returns c = λ s held.
    let old = c.args.self.now in
    moves-star c.args.strict s c.in-Some.height old.outer
    (subst (λ l. IsHeld (Some c.in-Some.height) l old.outer s) c.in-None.is
    (subst (λ h. IsHeld h old.left old.outer s) c.in-Some.is held))
    (λ on none. elim c.else-strict.branch [
      | else-strict-via-then-strict+else-is_empty w ↦
          false≢true (w.if-is_empty.ensures.1 none)
      | else-strict-via-else-strict w ↦ false≢true (sym w.if-strict.false ∙ on)
    ])
