-- The line of the implementation check's answer.
use mathlib.Core.Path.{◌∙◌}
use Rattle.byte_slices.specs.Put.{puts_same, puts_laid}
use Rattle.printed.proofs.Laws.{implementation_line, verdict_passed, verdict_refused, short_as}
use Rattle.printed.proofs.implementation.Goals as goal

pub returns-in-Ok : goal.returns-in-Ok
returns-in-Ok c =
    let args = c.args in
    let line = verdict_passed c.in-Ok.is
    ∙ implementation_line args.left.now c.implementation-answer.ensures
    in
    let put = c.put_passed.ensures in
    record { prints = puts_laid (puts_same line put.puts); short = short_as line put.short }

pub returns-in-Err : goal.returns-in-Err
returns-in-Err c =
    let args = c.args in
    let line = verdict_refused c.in-Err.is
    ∙ implementation_line args.left.now
    c.implementation-answer.ensures in
    let put = c.put_refusal.ensures in
    record { prints = puts_laid (puts_same line put.puts); short = short_as line put.short }
