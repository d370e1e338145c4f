use Rattle.std.proofs.Common.{ℕ, ◌-◌, ◌≤◌, arith, ◌∙◌}
use Rattle.std.proofs.lemmas.List.{take-take, length-take}
use Rattle.wb_base.proofs.WriterLemmas.{Appends-more}
use Rattle.wb_base.proofs.standard.write_out.Goals as goal

pub loop-written-preserved : goal.loop-written-preserved
loop-written-preserved g c =
    let wrote = c.in-Ok.ensures in
    let before = c.loop-written.invariant in
    let within : c.in-Ok.n ≤ c.args.len - c.loop-written.written =
    omega (arith, wrote.within, length-take {A = ℕ}) in
    record {
      within = omega arith;
      wrote = Appends-more _ _ _ _ _ _ _ before.wrote wrote.written (take-take _ _ _ within);
      unfailed = wrote.errors ∙ before.unfailed;
    }
