-- span_of takes whole bytes, and none behind the row.
use Rattle.std.proofs.Common.{arith, subst}
use Rattle.tables_runs.specs.Runs.{Blank}
use Rattle.tables_cut.proofs.Laws.{span_within}
use Rattle.tables_cut.proofs.span_of.Goals as goal

pub returns : goal.returns
returns c =
    let row = c.args.row.now in
    let first = c.first_byte-first in
    let end = c.end_byte-end in
    span_within c.args.w row first.result end.result c.min-from.result c.min-to.result end.ensures.0
    (omega arith) (omega arith) (omega arith) (λ i h l. omega arith) first.ensures.1.1
    (subst (Blank row end.result) c.bytes_for-b.ensures end.ensures.1.1)
