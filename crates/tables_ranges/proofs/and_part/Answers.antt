-- The source's bits are shifted to the bits of the row's byte that they meet.
use native.Mathlib.Omega.{arith}
use mathlib.Core.Path.{◌≡◌}
use Rattle.tables_ranges.specs.CutLaws.{cut_none, cut_same}
use Rattle.tables_ranges.proofs.Laws.{part_bit}
use Rattle.tables_ranges.proofs.and_part.Goals as goal

pub returns-then-a-e : goal.returns-then-a-e
returns-then-a-e c =
    let args = c.args in
    let bits = c.eight_bits in
    cut_same
    (λ i l h. part_bit args.source.now args.a args.v bits.result i bits.ensures l (omega arith))
    c.cut_part.ensures

pub returns-else-a-e : goal.returns-else-a-e
returns-else-a-e c = let args = c.args in
    let e : args.e ≡ args.a = omega arith in
    rw e (cut_none args.a _ args.row.now)
