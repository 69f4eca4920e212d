-- The lines of the search's answer, with slices of zeros.
use native.Mathlib.Omega.{arith}
use Rattle.printed.proofs.Fits.{departure_short}
use mathlib.Core.Path.{◌∙◌}
use Rattle.byte_slices.specs.Put.{puts_same, puts_laid}
use Rattle.printed.proofs.Laws.{megzhoi_lines, no_departure, a_departure, search_refused, short_as}
use Rattle.printed.proofs.megzhoi.Goals as goal

pub returns-then-n-eq0 : goal.returns-then-n-eq0
returns-then-n-eq0 c =
    let args = c.args in
    let lines = no_departure args.left.now args.right.now _ c.in-Ok.is c.if-n-eq0.true
    ∙ megzhoi_lines args.left.now args.right.now c.search-answer.ensures.0
    c.no_bytes-keep.ensures.0 c.no_entries-back.ensures.1
    c.no_entries-line.ensures.1 c.no_entries-run.ensures.0 in
    let put = c.put_yes.ensures in
    record { prints = puts_laid (puts_same lines put.puts); short = short_as lines (omega (arith, put.short)) }

pub returns-else-n-eq0 : goal.returns-else-n-eq0
returns-else-n-eq0 c =
    let args = c.args in
    let lines = a_departure args.left.now args.right.now _ c.in-Ok.is c.if-n-eq0.false
    ∙ megzhoi_lines args.left.now args.right.now c.search-answer.ensures.0
    c.no_bytes-keep.ensures.0 c.no_entries-back.ensures.1
    c.no_entries-line.ensures.1 c.no_entries-run.ensures.0 in
    let put = c.put_no.ensures in record {
      prints = puts_laid (puts_same lines put.puts);
      short = short_as lines (departure_short args.left.now args.right.now c.search-answer.ensures.0
          c.no_bytes-keep.ensures.0 c.no_entries-back.ensures.1
          c.no_entries-line.ensures.1 c.no_entries-run.ensures.0 c.in-Ok.is put.short);
    }

pub returns-in-Err : goal.returns-in-Err
returns-in-Err c =
    let args = c.args in
    let lines = search_refused args.left.now args.right.now _ c.in-Err.is
    ∙ megzhoi_lines args.left.now args.right.now c.search-answer.ensures.0
    c.no_bytes-keep.ensures.0 c.no_entries-back.ensures.1
    c.no_entries-line.ensures.1 c.no_entries-run.ensures.0 in
    let put = c.put_refusal.ensures in
    record { prints = puts_laid (puts_same lines put.puts); short = short_as lines (omega (arith, put.short)) }
