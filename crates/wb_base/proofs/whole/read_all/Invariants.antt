use Rattle.std.proofs.Common.{◌≡◌, ◌+◌, ◌-◌, ◌≤◌, vec_len, length}
use Rattle.std.specs.Io.KnownBytes.{prepend_known}
use Rattle.wb_base.proofs.whole.read_all.Given as goal

abbrev pub invariant-loop-chunk : goal.invariant-loop-chunk
invariant-loop-chunk g l =
    let source = g.S.Source in
    record {
      buffer : length l.chunk ≡ 8192;
      within : vec_len l.bytes ≤ l.limit + 1;
      took : source.left l.fn.source ≡ prepend_known l.bytes.items (source.left l.source);
      later : source.faults l.fn.source ≤ source.faults l.source;
      counted : source.calls l.source ≤ source.calls l.fn.source + vec_len l.bytes;
    }

abbrev pub decreases-loop-chunk : goal.decreases-loop-chunk
decreases-loop-chunk g l = l.limit + 1 - vec_len l.bytes
