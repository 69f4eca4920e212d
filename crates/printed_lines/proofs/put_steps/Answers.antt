-- The steps done are put, one by one.
use Rattle.std.proofs.Common.{arith, ap, take_all}
use Rattle.byte_slices.specs.Put.{puts_none, puts_then, puts_same}
use Rattle.printed_lines.specs.Lines.{step_lines}
use Rattle.printed_lines.proofs.Laws.{step_more}
use Rattle.printed_lines.proofs.put_steps.Goals as goal

pub loop-entry-init : goal.loop-entry-init
unfolding step_lines
loop-entry-init c = puts_none

pub loop-entry-preserved : goal.loop-entry-preserved
loop-entry-preserved c =
    let loop = c.loop-entry in
    let args = c.args in
    puts_same (step_more args.text.now args.channels args.run.now loop.entry-index c.of_written-step.result.number
    c.loop-entry-test.true c.of_written-step.ensures) (puts_then loop.invariant c.put_step-place.ensures)

pub returns : goal.returns
returns c =
    let loop = c.loop-entry in
    let args = c.args in
    puts_same (ap (step_lines args.text.now args.channels) (take_all loop.entry-index args.run.now (omega arith)))
    loop.invariant
