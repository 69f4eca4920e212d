-- `with_digit` is a digit more, clamped.
use native.Mathlib.Omega.{arith}
use mathlib.Core.Path.{sym}
use Rattle.reader_tokens.specs.Clamped.{clamped_low, clamped_high}
use Rattle.reader_tokens.proofs.Scan.{digit_low}
use Rattle.reader_tokens.proofs.with_digit.Goals as goal

pub overflow_mul-n : goal.overflow_mul-n
overflow_mul-n c = record { fits = omega arith }

pub overflow_sub-n : goal.overflow_sub-n
overflow_sub-n c = omega (arith, digit_low c.args.b c.requires.1, c.wide-d.ensures)

pub overflow_add-n : goal.overflow_add-n
overflow_add-n c = record { fits = omega (arith, digit_low c.args.b c.requires.1, c.wide-d.ensures) }

pub returns-then-n-le-LARGEST_NUMERAL : goal.returns-then-n-le-LARGEST_NUMERAL
returns-then-n-le-LARGEST_NUMERAL c =
    let wide-call = c.wide-d in
    rw wide-call.ensures (sym (clamped_low _ (rw wide-call.ensures at c.if-n-le-LARGEST_NUMERAL.true)))

pub returns : goal.returns
returns c = sym (clamped_high _ (rw c.wide-d.ensures at c.if-n-le-LARGEST_NUMERAL.false))
