use Rattle.std.proofs.Common.{◌++◌, ap, sym, ◌∙◌, arith}
use Rattle.wb_base.proofs.StreamLemmas.{flat_map-part_more}
use Rattle.word_reverse.specs.ReverseText.{step_line}
use Rattle.word_reverse.proofs.text.put_some_steps.Goals as goal

pub loop-k-preserved : goal.loop-k-preserved
loop-k-preserved g c =
    record {
      text = c.push_step.ensures.text
          ∙ ap (λ text. text ++ step_line c.step_at.result) c.loop-k.invariant.text
          ∙ sym (flat_map-part_more step_line _ c.args.from c.loop-k.k _ c.step_at.ensures);
      size = omega (arith, c.loop-k.invariant.size, c.push_step.ensures.size);
    }
