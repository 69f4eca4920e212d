-- visit leaves an empty row as it is, and cuts a copy of any other.
use Rattle.std.proofs.Common.{arith}
use Rattle.tables_visit.proofs.Laws.{fewer, visited, visited_empty}
use Rattle.tables_visit.proofs.visit.Goals as goal

pub returns-then-span : goal.returns-then-span
returns-then-span c = visited_empty c.load.ensures c.span_of-span.ensures (omega (arith, c.if-span.true))

pub put_back-requires : goal.put_back-requires
put_back-requires c =
    let args = c.args in
    let pre = c.requires in (
      pre.0.left.few,
      (
        pre.0.right.few,
        (
          pre.1.0,
          (
            pre.1.1.1.0,
            (
              omega arith,
              fewer args.lm.now args.rm.now args.stamps.now args.sides.right_states args.sides.steps args.s args.seen
                  args.raster.now c.cut_row.ensures,
            ),
          ),
        ),
      ),
    )

pub returns : goal.returns
returns c = visited c.cut_row.ensures c.put_back.ensures
