-- The chunk has the lines of the steps before this one.
use Rattle.std.proofs.Common.{◌≡◌, ◌*◌, ◌≤◌, length, take, drop}
use Rattle.std.specs.List.{flat_map}
use Rattle.trace_format.specs.TraceText.{handle_line}
use Rattle.trace_format.proofs.trace.put_some_steps.Given as goal

abbrev pub invariant-loop-k : goal.invariant-loop-k
invariant-loop-k g l =
    record {
      text : l.text ≡ flat_map handle_line (take l.k (drop l.from (g.A.Account.steps l.account)));
      size : length l.text ≤ 44 * l.k;
    }
