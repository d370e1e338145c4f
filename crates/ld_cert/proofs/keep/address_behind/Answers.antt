use Rattle.ld_cert.proofs.KeepLemmas.{address_behind-read}
use Rattle.ld_cert.proofs.keep.address_behind.Goals as goal

pub returns-then-is_address : goal.returns-then-is_address
returns-then-is_address c =
    address_behind-read c.args.front.now c.args.line.now c.in_ok-address.address.now
    c.in_ok-address.ensures.cases.0 c.in_ok-address.ensures.cases.1
    (c.is_address.ensures.0 c.if-is_address.true)
