use native.Mathlib.Omega.{arith}
use Prim.Native.Nat.{◌-◌, ◌/◌, ◌%◌}
use borrow.Author.Tests.{eqb-false}
use lib.ListN.{get_or}
use Rattle.bitmaps.specs.Bits.{bit_at}
use Rattle.bitmaps.specs.BitLaws.{clear_one}
use Rattle.bitmaps.specs.PutLaws.{put_off, put_on, bit_room}
use Rattle.bitmaps.proofs.put.Goals as goal

pub overflow_add-s : goal.overflow_add-s
unfolding bit_at
overflow_add-s c =
    let args = c.args in
    rw (clear_one (7 - args.i % 8) (omega arith))
    (omega (
      arith,
      bit_room (get_or args.s.now (args.i / 8) 0) (7 - args.i % 8) (omega arith)
          (omega (arith, c.slice_known-1.given (args.i / 8))) (eqb-false _ 1 c.requires.1),
    ))

pub returns-then-b : goal.returns-then-b
returns-then-b c =
    let args = c.args in
    rw (clear_one (7 - args.i % 8) (omega arith)) (put_on args.s.now args.i args.b c.if-b.true)

pub returns-else-b : goal.returns-else-b
returns-else-b c =
    let args = c.args in
    put_off args.s.now args.i args.b c.if-b.false
