-- make_widest writes the header, then the raster into the part behind it.
use native.Mathlib.Omega.{arith}
use Prim.Native.Nat.{◌≤◌}
use lib.ListN.{length}
use Rattle.tables_header.specs.Header.{table_bytes}
use Rattle.tables_whole.specs.Parts.{raster_room}
use Rattle.tables_whole.proofs.Laws.{made_done}
use Rattle.tables_whole.proofs.make_widest.Goals as goal
use Rattle.tables_whole.proofs.make_widest.Goals.{After-header_length-a}

pub write_header-requires : goal.write_header-requires
unfolding table_bytes
write_header-requires c =
    let pre = c.requires in
    (pre.0.right.few, (pre.0.left.few, omega (arith, pre.1)))

-- the header is within the table
header_in : (c : After-header_length-a) → c.header_length-a.result ≤ length
    c.write_header.new.table
unfolding table_bytes
header_in c =
    let pre = c.requires in
    omega (arith, c.header_length-a.ensures, pre.1, c.write_header.auto.table)

pub slice_bounds-widest-count : goal.slice_bounds-widest-count
slice_bounds-widest-count c = omega (arith, header_in c)

pub slice_bounds-widest-start : goal.slice_bounds-widest-start
slice_bounds-widest-start c = omega (arith, header_in c)

pub widest-requires : goal.widest-requires
widest-requires c =
    let args = c.args in
    let pre = c.requires in
    let written = c.write_header in
    let start = c.header_length-a in (
      pre.0,
      raster_room args.sides.right_states args.sides.left_states start.result written.new.table
          start.ensures
          (omega (arith, pre.1, written.auto.table)),
    )

pub returns : goal.returns
returns c =
    let args = c.args in
    let pre = c.requires in
    let written = c.write_header in
    let start = c.header_length-a in
    let widest = c.widest in
    made_done args.sides args.table.now args.keep.now args.holds.now args.lm.now args.rm.now
    start.result written.new.table widest.new.raster widest.result.count widest.result.start pre.1
    start.ensures written.ensures widest.ensures
