use Rattle.std.proofs.Common.{◌≡◌, ◌∙◌, arith}
use Rattle.std.proofs.Math.Path.{ap}
use Rattle.systems.specs.Tests.{at}
use Rattle.bitmaps.specs.Bits.{num, bit_at}
use Rattle.bitmaps.specs.BitLaws.{num_le}
use Rattle.bitmaps.specs.PackedLaws.{packed_bit, ones_drop, ones_past}
use Rattle.bitmaps.proofs.count.Goals as goal

pub loop-i-init : goal.loop-i-init
loop-i-init c = (omega arith, λ X d P. omega arith)

pub overflow_add-r : goal.overflow_add-r
overflow_add-r c = omega (arith, num_le (bit_at c.args.s.now c.loop-i.i))

pub loop-i-preserved : goal.loop-i-preserved
loop-i-preserved c =
    let loop = c.loop-i in (
      omega (arith, num_le (bit_at c.args.s.now loop.i)),
      λ X d P.
          let e : c.bit-r.result ≡ num (at X loop.i) = c.bit-r.ensures ∙ ap num (packed_bit P loop.i (omega arith)) in
          omega (arith, ones_drop X loop.i (omega (arith, P.long)), loop.invariant.1 X d P),
    )

pub returns : goal.returns
returns c =
    let loop = c.loop-i in
    λ X d P. omega (arith, ones_past X loop.i (omega (arith, P.long)), loop.invariant.1 X d P)
