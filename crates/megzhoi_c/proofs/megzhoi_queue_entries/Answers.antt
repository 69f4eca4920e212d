-- `megzhoi_c::megzhoi_queue_entries`: possible counts are small enough for the number of their pairs.
use native.Mathlib.Omega.{arith}
use Rattle.megzhoi_c.specs.Sizes.{queue_needed}
use Rattle.megzhoi_c.proofs.SizeLaws.{denied, granted, pairs_few}
use Rattle.megzhoi_c.proofs.megzhoi_queue_entries.Goals as goal

pub returns-then-not-both_possible : goal.returns-then-not-both_possible
unfolding queue_needed
returns-then-not-both_possible c = rw (denied c.both_possible.result c.both_possible.ensures c.if-not-both_possible.true)

pub overflow_mul-result : goal.overflow_mul-result
overflow_mul-result c =
    let args = c.args in
    let asked = c.both_possible in
    let both = granted asked.result asked.ensures c.if-not-both_possible.false in
    omega (arith, pairs_few args.left args.right both)

pub returns : goal.returns
unfolding queue_needed
returns c =
    let asked = c.both_possible in
    rw (granted asked.result asked.ensures c.if-not-both_possible.false)
