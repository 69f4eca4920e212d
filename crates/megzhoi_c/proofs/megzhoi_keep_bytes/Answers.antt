-- `megzhoi_c::megzhoi_keep_bytes`: a possible count is small enough for the bytes of its bits.
use native.Mathlib.Omega.{arith}
use Rattle.megzhoi_c.specs.Sizes.{keep_needed}
use Rattle.megzhoi_c.proofs.SizeLaws.{denied, granted, few}
use Rattle.megzhoi_c.proofs.megzhoi_keep_bytes.Goals as goal

pub returns-then-not-possible : goal.returns-then-not-possible
unfolding keep_needed
returns-then-not-possible c = rw (denied c.possible.result c.possible.ensures c.if-not-possible.true)

pub bytes_for-requires : goal.bytes_for-requires
bytes_for-requires c =
    let asked = c.possible in
    omega (arith, few c.args.states (granted asked.result asked.ensures c.if-not-possible.false))

pub returns : goal.returns
unfolding keep_needed
returns c =
    let asked = c.possible in
    rw (granted asked.result asked.ensures c.if-not-possible.false) c.bytes_for.ensures
