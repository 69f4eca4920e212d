-- The line of the widest table's answer, with slices of zeros.
use mathlib.Core.Path.{◌∙◌}
use Rattle.byte_slices.specs.Put.{puts_same}
use Rattle.printed.proofs.Laws.{counted_line, widest_made, widest_refused, short_as}
use Rattle.printed.proofs.put_yes.Goals as goal

pub returns-in-Ok : goal.returns-in-Ok
returns-in-Ok c =
    let args = c.args in
    let line = widest_made c.in-Ok.is
    ∙ counted_line args.left.now args.right.now c.widest-answer.ensures
    c.no_bytes-keep.ensures.0 c.no_bytes-table.ensures.0 in
    let put = c.put_yes.ensures in
    record { puts = puts_same line put.puts; short = short_as line put.short }

pub returns-in-Err : goal.returns-in-Err
returns-in-Err c =
    let args = c.args in
    let line = widest_refused c.in-Err.is
    ∙ counted_line args.left.now args.right.now c.widest-answer.ensures
    c.no_bytes-keep.ensures.0 c.no_bytes-table.ensures.0 in
    let put = c.put_refusal.ensures in
    record { puts = puts_same line put.puts; short = short_as line put.short }
