-- `megzhoi_c::megzhoi_table_bytes`: possible counts are small enough for the length of their table.
use Rattle.megzhoi_c.specs.Sizes.{table_needed}
use Rattle.megzhoi_c.proofs.SizeLaws.{denied, granted, left_few, right_few}
use Rattle.megzhoi_c.proofs.megzhoi_table_bytes.Goals as goal

pub returns-then-not-both_possible : goal.returns-then-not-both_possible
unfolding table_needed
returns-then-not-both_possible c = rw (denied c.both_possible.result c.both_possible.ensures c.if-not-both_possible.true)

pub table_length-requires : goal.table_length-requires
table_length-requires c =
    let args = c.args in
    let asked = c.both_possible in
    let both = granted asked.result asked.ensures c.if-not-both_possible.false in
    (right_few args.left args.right both, left_few args.left args.right both)

pub returns : goal.returns
unfolding table_needed
returns c =
    let asked = c.both_possible in
    rw (granted asked.result asked.ensures c.if-not-both_possible.false) c.table_length.ensures
