use Rattle.std.proofs.Common.{[], sym}
use Rattle.std.proofs.lemmas.Result.{err_from_is_err_and}
use Rattle.line_file.proofs.PieceLaws.{Gives-told}
use Rattle.line_file.proofs.file.check_file.Goals as goal

pub returns-in_err-feed : goal.returns-in_err-feed
returns-in_err-feed g c =
    let failed = err_from_is_err_and c.from_residual.result c.from_residual.ensures.1 in
    rw (failed.1, failed.2)
    (Gives-told g.F.LineFormat.format _ c.args.bytes.now _ (c.in_err-feed.ensures.stands [] c.in-Ok.ensures)
    (sym c.in_err-feed.ensures.told))
