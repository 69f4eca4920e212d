-- A byte is put where the slice has the place.
use native.Mathlib.Omega.{arith}
use Rattle.byte_slices.specs.Put.{puts_here, puts_dropped}
use Rattle.byte_slices.proofs.put_byte.Goals as goal

pub returns-then-out-at : goal.returns-then-out-at
returns-then-out-at c = let args = c.args in puts_dropped args.out.now args.at args.b c.if-out-at.true

pub returns : goal.returns
returns c =
    let args = c.args in
    puts_here args.out.now args.at args.b (omega arith)
