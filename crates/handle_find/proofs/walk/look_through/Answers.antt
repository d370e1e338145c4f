-- A letter that isn't counted is higher, and so are those of its run.
use Rattle.std.proofs.Common.{◌≡◌, ◌+◌, ◌-◌, ◌<◌, ap, ◌∙◌, arith}
use Rattle.braid_word.specs.Words.{Letter}
use Rattle.handle_find.specs.Handles.{at}
use Rattle.handle_find.proofs.SurveyLemmas.{Surveyed-skip, hop-start}
use Rattle.handle_find.proofs.walk.look_through.Goals as goal

pub passing-preserved : goal.passing-preserved
passing-preserved c =
    let seen = c.passing.invariant.surveyed in
    let start = c.passing.invariant.from_start in
    let below = seen.below in
    let within = seen.within in
    let some : c.args.start + 1 < c.passing.k = omega arith in
    let read : c.index-found.result ≡ (at c.args.letters.now.left (c.passing.k - 1)).index
    = c.index-found.ensures.value ∙ ap (λ (x : Letter). x.index) c.letter_at.ensures in
    let least = c.requires.higher (c.passing.k - 1) (omega arith) (omega arith) in
    let lower = c.requires.lower in
    let above : c.args.index < c.index-found.result = omega arith in
    record {
      from_start = hop-start _ _ c.args.start c.passing.k _ c.requires.runs
          (omega arith) some c.run_at.ensures (omega arith);
      surveyed = Surveyed-skip _ _ c.args.index c.passing.k _ _ _ _ c.index-found.result c.min-low.result
          c.requires.runs seen (omega arith) c.run_at.ensures read above (omega arith) (omega arith);
    }
