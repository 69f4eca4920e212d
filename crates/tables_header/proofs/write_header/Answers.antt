-- write_header writes the header byte by byte: the first i bytes are the header's.
use Rattle.std.specs.Prelude.{◌≡◌, ℕ, length, get_or}
use Rattle.std.proofs.Common.{arith, sym, ◌∙◌}
use Rattle.bitmaps.specs.BitLaws.{written_none, written_more}
use Rattle.tables_header.specs.Header.{header, header_bytes}
use Rattle.tables_header.proofs.Laws.{written_list}
use Rattle.tables_header.proofs.write_header.Goals as goal

pub loop-i-init : goal.loop-i-init
loop-i-init c = sym (written_none _ _)

pub loop-i-preserved : goal.loop-i-preserved
loop-i-preserved c =
    let args = c.args in
    rw c.loop-i.invariant
    (written_more (λ (j : ℕ). get_or (header args.w args.h) j 0) c.loop-i.i args.table.now
    c.header_byte.result (omega arith) c.header_byte.ensures)

pub returns : goal.returns
unfolding header_bytes
returns c =
    let args = c.args in
    let e : c.loop-i.i ≡ length (header args.w args.h) = omega arith in
    (rw e at c.loop-i.invariant) ∙ written_list (header args.w args.h) args.table.now (omega arith)
