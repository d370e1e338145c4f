use Rattle.std.proofs.Common.{◌++◌, ap, sym, ◌∙◌, arith}
use Rattle.wb_base.proofs.StreamLemmas.{flat_map-part_more}
use Rattle.braid_word.specs.Notation.{next_text}
use Rattle.word_reverse.proofs.text.put_some_letters.Goals as goal

pub loop-k-preserved : goal.loop-k-preserved
loop-k-preserved g c =
    record {
      text = c.push_next_letter.ensures.text
          ∙ ap (λ text. text ++ next_text c.side_at.result) c.loop-k.invariant.text
          ∙ sym (flat_map-part_more next_text _ c.args.from c.loop-k.k _ c.side_at.ensures);
      size = omega (arith, c.loop-k.invariant.size, c.push_next_letter.ensures.size);
    }
