-- A number's digits: those in front of the last, which are the digits of a tenth of it, then the last.
use Rattle.std.proofs.Common.{arith}
use Rattle.byte_slices.specs.Put.{puts_same, puts_then}
use Rattle.byte_slices.proofs.Laws.{one_digit, more_digits}
use Rattle.byte_slices.proofs.+put_number.Goals as goal

pub returns-then-n-lt-TEN : goal.returns-then-n-lt-TEN
returns-then-n-lt-TEN t c = puts_same (one_digit c.args.n (omega arith)) c.put_byte.ensures

pub returns : goal.returns
returns t c =
    puts_same (more_digits c.args.n (omega arith)) (puts_then c.put_number-place.ensures c.put_byte-2.ensures)
