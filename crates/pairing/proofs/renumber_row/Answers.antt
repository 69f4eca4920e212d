-- `renumber_row` writes a row entry by entry, out of the copy of the row: the first c are those of the row.
use Rattle.pairing.proofs.Turns.{row_more}
use Rattle.pairing.proofs.renumber_row.Goals as goal

pub loop-c-preserved : goal.loop-c-preserved
loop-c-preserved c =
    let a = c.args in
    row_more a.moves.now a.map a.from c.loop-c.c a.width _ _ c.row_at-row.result c.loop-c-test.true
    c.requires.1 c.row_at-row.ensures c.loop-c.invariant
