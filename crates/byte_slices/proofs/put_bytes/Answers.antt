-- The first bytes are put, one by one.
use Rattle.std.proofs.Common.{arith, add-one, sym, take-suc, take_all}
use Rattle.byte_slices.specs.Put.{puts_none, puts_then, puts_same}
use Rattle.byte_slices.proofs.put_bytes.Goals as goal

pub loop-b-init : goal.loop-b-init
loop-b-init c = puts_none

pub loop-b-preserved : goal.loop-b-preserved
loop-b-preserved c =
    let loop = c.loop-b in
    let bytes = c.args.bytes.now in
    let here = c.loop-b-test.true in
    rw add-one (puts_same (sym (take-suc bytes loop.b-index 0 here))
    (puts_then loop.invariant c.put_byte-place.ensures))

pub returns : goal.returns
returns c =
    let loop = c.loop-b in
    puts_same (take_all loop.b-index c.args.bytes.now (omega arith)) loop.invariant
