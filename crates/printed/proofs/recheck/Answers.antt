-- The line of the check's answer, with a keep of zeros.
use mathlib.Core.Path.{◌∙◌}
use Rattle.byte_slices.specs.Put.{puts_same, puts_laid}
use Rattle.printed.proofs.Laws.{recheck_line, check_accepted, check_refused, short_as}
use Rattle.printed.proofs.recheck.Goals as goal

pub returns-in-Ok : goal.returns-in-Ok
returns-in-Ok c =
    let args = c.args in
    let line = check_accepted c.in-Ok.is
    ∙ recheck_line args.left.now args.right.now args.table.now c.check-answer.ensures
    c.no_bytes-keep.ensures.0 in
    let put = c.put_accepted.ensures in
    record { prints = puts_laid (puts_same line put.puts); short = short_as line put.short }

pub returns-in-Err : goal.returns-in-Err
returns-in-Err c =
    let args = c.args in
    let line = check_refused c.in-Err.is
    ∙ recheck_line args.left.now args.right.now args.table.now c.check-answer.ensures
    c.no_bytes-keep.ensures.0 in
    let put = c.put_refusal.ensures in
    record { prints = puts_laid (puts_same line put.puts); short = short_as line put.short }
