-- digit_at takes digits off at the right until digit i is the last: digit i of the rest is that of n.
use Rattle.std.proofs.Common.{arith, sym, ◌∙◌}
use Rattle.byte_slices.specs.Decimal.{digit}
use Rattle.byte_slices.specs.DecimalLaws.{decimal_length}
use Rattle.tables_header.proofs.Laws.{decimal_few, decimal_long, decimal_last, decimal_front}
use Rattle.tables_header.proofs.digit_at.Goals as goal

pub overflow_step : goal.overflow_step
overflow_step c = omega (arith, decimal_few c.args.n)

pub loop-preserved : goal.loop-preserved
loop-preserved c =
    let loop = c.loop in
    let long = decimal_long loop.rest (omega arith) in
    let size = decimal_length loop.rest long in (
      omega arith,
      (omega arith, sym (decimal_front loop.rest c.args.i long (omega arith)) ∙ loop.invariant.1.1),
    )

pub returns : goal.returns
unfolding digit
returns c = sym (decimal_last c.loop.rest c.args.i (omega arith)) ∙ c.loop.invariant.1.1
