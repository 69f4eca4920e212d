use borrow.Author.Rules.{rules}
use mathlib.Core.Path.{◌≡◌}
use Rattle.tables.specs.Found.{check_of}
use Rattle.tables.proofs.Broken.{raster_in}
use Rattle.tables.proofs.Paths.{raster_rest, header_in, raster_long, check_keep_short, check_other, check_not_safe, check_scanned}
use Rattle.tables.proofs.check.Goals as goal

pub returns-then-keep-needed : goal.returns-then-keep-needed
returns-then-keep-needed c = check_keep_short _ c.bytes_for-needed.ensures c.if-keep-needed.true

pub returns-then-not-is_table : goal.returns-then-not-is_table
returns-then-not-is_table c =
    check_other _ c.bytes_for-needed.ensures c.if-keep-needed.false c.is_table.ensures c.if-not-is_table.true

pub returns-then-not-prepare : goal.returns-then-not-prepare
returns-then-not-prepare c =
    check_not_safe _ c.bytes_for-needed.ensures c.if-keep-needed.false c.is_table.ensures c.if-not-is_table.false
    c.prepare.ensures c.if-not-prepare.true

pub slice_bounds-check_raster-count : goal.slice_bounds-check_raster-count
slice_bounds-check_raster-count c =
    let args = c.args in
    header_in args.sides.right_states args.sides.left_states c.header_length-a.result args.table.now
    c.header_length-a.ensures c.is_table.result c.is_table.ensures c.if-not-is_table.false

pub slice_bounds-check_raster-start : goal.slice_bounds-check_raster-start
slice_bounds-check_raster-start c =
    let args = c.args in
    header_in args.sides.right_states args.sides.left_states c.header_length-a.result args.table.now
    c.header_length-a.ensures c.is_table.result c.is_table.ensures c.if-not-is_table.false

pub check_raster-requires : goal.check_raster-requires
check_raster-requires c =
    let args = c.args in
    let pre = c.requires in (
      record {
        left = c.prepare.ensures.bounded;
        right = pre.0.right;
        left_start = pre.0.left.start;
        right_start = pre.0.right_start;
        safe_room = search rules;
        true_bits = pre.1;
      },
      raster_long args.sides.right_states args.sides.left_states c.header_length-a.result args.table.now
          c.header_length-a.ensures c.is_table.result c.is_table.ensures c.if-not-is_table.false,
    )

pub map_err-requires : goal.map_err-requires
map_err-requires c =
    let known = raster_in _ _ _ _ _ _ _ c.check_raster.ensures in
    λ fault e. let inside = known fault e in search (rules, inside, c.requires.0.left.bounded.few, c.requires.0.right.few)

pub returns : goal.returns
returns c =
    let args = c.args in
    let answered : c.map_err.result ≡ check_of args.sides.right_states args.sides.left_start args.sides.right_start
    c.check_raster.result = search rules in
    rw answered (check_scanned _ c.bytes_for-needed.ensures c.if-keep-needed.false c.is_table.ensures
    c.if-not-is_table.false c.prepare.ensures c.if-not-prepare.false
    (raster_rest args.sides.right_states args.sides.left_states c.header_length-a.result args.table.now c.header_length-a.ensures)
    c.check_raster.ensures)
