-- has_header compares byte by byte: from byte i on the answer is still open.
use Rattle.std.proofs.Common.{arith, sym, ◌∙◌}
use Rattle.tables_header.specs.Header.{header, header_bytes}
use Rattle.tables_header.proofs.Laws.{begins_here, begins_not, begins_all, begins_short}
use Rattle.tables_header.proofs.has_header.Goals as goal

pub returns-then-table-size : goal.returns-then-table-size
unfolding header_bytes
returns-then-table-size c = sym (begins_short (header c.args.w c.args.h) c.args.table.now (omega arith))

pub returns-then-table-i : goal.returns-then-table-i
unfolding header_bytes
returns-then-table-i c =
    sym (c.loop-i.invariant ∙ begins_not (header c.args.w c.args.h) c.args.table.now c.loop-i.i (omega arith)
    (omega arith) (λ e. c.if-table-i.true (e ∙ sym c.header_byte.ensures)))

pub loop-i-preserved : goal.loop-i-preserved
unfolding header_bytes
loop-i-preserved c =
    c.loop-i.invariant ∙ begins_here (header c.args.w c.args.h) c.args.table.now c.loop-i.i (omega arith)
    (omega arith) (c.if-table-i.false ∙ c.header_byte.ensures)

pub returns : goal.returns
unfolding header_bytes
returns c =
    sym (c.loop-i.invariant ∙ begins_all (header c.args.w c.args.h) c.args.table.now c.loop-i.i (omega arith))
