use Rattle.wb_base.proofs.NumberLemmas.{AllDigits-digits_in_front}
use Rattle.wb_base.proofs.number.read_number.Goals as goal

pub value_of-requires : goal.value_of-requires
value_of-requires c = rw c.digits_in_front-digits.ensures (AllDigits-digits_in_front c.args.bytes.now)
