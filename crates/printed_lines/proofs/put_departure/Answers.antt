-- The first line, then the first n steps, as far as the run goes.
use borrow.Author.Rules.{rules}
use mathlib.Core.Path.{sym, ap}
use native.Mathlib.Omega.{arith}
use lib.Seq.{length-take-le}
use Rattle.byte_slices.specs.Put.{puts_then, puts_same}
use Rattle.printed_lines.specs.Lines.{step_lines, departure_lines}
use Rattle.printed_lines.proofs.Laws.{front_of}
use Rattle.printed_lines.proofs.put_departure.Goals as goal

pub slice_bounds-put_steps-end : goal.slice_bounds-put_steps-end
slice_bounds-put_steps-end c =
    let run = c.args.run.now in
    let end = c.min-end in
    sym (length-take-le end.result run (omega (arith, end.ensures)))

pub returns : goal.returns
unfolding departure_lines
returns c =
    let args = c.args in
    let end = c.min-end in
    let steps = step_lines args.text.now args.channels in
    let head = c.put_count-head.ensures in record {
      puts = puts_then head.puts
          (puts_same (ap steps (front_of args.n args.run.now end.ensures)) c.put_steps.ensures);
      short = omega (arith, head.short);
    }
