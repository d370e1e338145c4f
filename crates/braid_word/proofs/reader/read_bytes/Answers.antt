use Rattle.std.proofs.Common.{sym, arith}
use Rattle.std.proofs.lemmas.Result.{err_from_is_err_and}
use Rattle.braid_word.proofs.ByteLemmas.{IsReadTo-none, IsReadTo-space, IsReadTo-letter, Fails-byte, Gives-bytes}
use Rattle.braid_word.proofs.reader.read_bytes.Goals as goal
use Rattle.braid_word.proofs.reader.read_bytes.Goals.{then-byte-ne32+in_ok-letter+in_ok-keep, else-byte-ne32}

pub loop-byte-init : goal.loop-byte-init
loop-byte-init c =
    let none = c.new-letters.ensures.items in rw none (IsReadTo-none c.args.bytes.now)

pub returns-in_err-letter : goal.returns-in_err-letter
returns-in_err-letter c =
    let (e, is, same) = err_from_is_err_and c.from_residual.result c.from_residual.ensures.1 in
    let other = c.if-byte-ne32.true in
    rw (is, same) (Fails-byte c.loop-byte.invariant (omega arith) other (sym c.in_err-letter.ensures))

pub loop-byte-preserved : goal.loop-byte-preserved
loop-byte-preserved c =
    let so_far = c.loop-byte.invariant in
    elim c.if-byte-ne32.branch [
      | then-byte-ne32+in_ok-letter+in_ok-keep w ↦
          rw (w.letters-is, w.count-is)
          (IsReadTo-letter so_far (omega arith) w.if-byte-ne32.true (sym w.in_ok-letter.ensures)
          w.in_ok-keep.ensures)
      | else-byte-ne32 w ↦
          rw (w.letters-is, w.count-is)
          (IsReadTo-space so_far (omega arith) (omega (arith, w.if-byte-ne32.false)))
    ]

pub returns : goal.returns
returns c = Gives-bytes _ c.loop-byte.invariant (omega arith) c.finish.ensures
