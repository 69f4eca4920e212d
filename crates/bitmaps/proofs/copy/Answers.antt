-- The first i bytes are written, one by one.
use Rattle.std.proofs.Common.{◌≡◌, arith, refl, sym, ℕ, length, get_or, length-set}
use Rattle.bitmaps.specs.BitLaws.{written_none, written_more}
use Rattle.bitmaps.proofs.copy.Goals as goal

pub loop-i-init : goal.loop-i-init
loop-i-init c = (refl, sym (written_none _ _))

pub loop-i-preserved : goal.loop-i-preserved
loop-i-preserved c =
    let args = c.args in
    let loop = c.loop-i in (
      simp length-set (omega arith),
      rw loop.invariant.1
          (written_more (λ (j : ℕ). get_or args.k.now j 0) loop.i args.s.now _ (omega arith) refl),
    )

pub returns : goal.returns
returns c =
    let loop = c.loop-i in
    let e : loop.i ≡ c.args.m = omega arith in rw e at loop.invariant.1
