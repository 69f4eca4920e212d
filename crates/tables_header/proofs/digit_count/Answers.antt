-- digit_count counts the digits: k and the digits of the rest are one more than those of n.
use native.Mathlib.Omega.{arith}
use Rattle.byte_slices.specs.DecimalLaws.{decimal_length, length_one}
use Rattle.tables_header.proofs.Laws.{decimal_few}
use Rattle.tables_header.proofs.digit_count.Goals as goal

pub loop-rest-init : goal.loop-rest-init
loop-rest-init c = (omega arith, omega arith)

pub overflow_add-k : goal.overflow_add-k
overflow_add-k c =
    let args = c.args in
    omega (arith, decimal_few args.n)

pub loop-rest-preserved : goal.loop-rest-preserved
loop-rest-preserved c =
    let loop = c.loop-rest in
    (omega arith, omega (arith, decimal_length loop.rest c.loop-rest-test.true))

pub returns : goal.returns
returns c =
    let loop = c.loop-rest in
    omega (arith, length_one loop.rest (omega arith))
