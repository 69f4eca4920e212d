use Rattle.bitmaps.specs.Bits.{bit_at}
use Rattle.bitmaps.specs.BitLaws.{clear_one, bit_ge}
use borrow.Author.Tests.{eqb-true}
use Prim.Native.Nat.{◌-◌, ◌%◌}
use native.Mathlib.Omega.{arith}
use Rattle.bitmaps.proofs.clear.Goals as goal

pub overflow_sub-s : goal.overflow_sub-s
unfolding bit_at
overflow_sub-s c =
    let args = c.args in
    rw (clear_one (7 - args.i % 8) (omega arith))
    (bit_ge _ (7 - args.i % 8) (omega arith) (eqb-true _ 1 c.requires.1))

pub returns : goal.returns
returns c = rw (clear_one (7 - c.args.i % 8) (omega arith))
