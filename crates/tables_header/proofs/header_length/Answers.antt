-- header_length adds the digits of both numbers to the bytes of the first line, the space and the end of the line.
use native.Mathlib.Omega.{arith}
use Rattle.tables_header.proofs.Laws.{decimal_few, header_size}
use Rattle.tables_header.proofs.header_length.Goals as goal

pub overflow_add-result : goal.overflow_add-result
overflow_add-result c =
    let args = c.args in
    omega (arith, decimal_few args.w)

pub overflow_add-result-2 : goal.overflow_add-result-2
overflow_add-result-2 c =
    let args = c.args in
    omega (arith, decimal_few args.w)

pub overflow_add-result-3 : goal.overflow_add-result-3
overflow_add-result-3 c =
    let args = c.args in
    omega (arith, decimal_few args.w, decimal_few args.h)

pub overflow_add-result-4 : goal.overflow_add-result-4
overflow_add-result-4 c =
    let args = c.args in
    omega (arith, decimal_few args.w, decimal_few args.h)

pub returns : goal.returns
returns c =
    let args = c.args in
    omega (arith, header_size args.w args.h)
