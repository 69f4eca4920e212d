-- The mask leaves the bits beside the range alone.
use native.Mathlib.Omega.{arith}
use Rattle.tables_ranges.proofs.Laws.{cut_masked}
use Rattle.tables_ranges.proofs.cut_part.Goals as goal

pub returns : goal.returns
returns c =
    let args = c.args in
    let before = c.bits_from in
    let after = c.bits_from-2 in
    cut_masked args.row.now args.a args.e args.y before.result after.result (omega arith) (omega arith)
    (omega arith) before.ensures after.ensures
