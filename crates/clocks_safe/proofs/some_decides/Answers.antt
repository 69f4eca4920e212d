-- None of the first c steps decides.
use native.Mathlib.Omega.{arith}
use mathlib.Core.Path.{◌≡◌, sym, ◌∙◌, ap}
use Prim.Native.Nat.{ℕ, ◌+◌, ◌*◌}
use Rattle.systems.specs.Tests.{any}
use Rattle.bitmaps.specs.Bits.{bit_at}
use Rattle.move_tables.specs.MoveLaws.{target, reach, base_few}
use Rattle.clocks_safe.specs.Test.{some_decides, decides_at}
use Rattle.clocks_safe.proofs.TestLaws.{any_none, any_more, any_hits}
use Rattle.clocks_safe.proofs.some_decides.Goals as goal

pub overflow_mul-base : goal.overflow_mul-base
overflow_mul-base c =
    let args = c.args in
    let pre = c.requires in
    omega (arith, base_few pre.0 args.s pre.1.1.0)

pub loop-c-init : goal.loop-c-init
loop-c-init c = any_none _

pub overflow_add-t : goal.overflow_add-t
overflow_add-t c =
    let args = c.args in
    let pre = c.requires in
    omega (arith, base_few pre.0 args.s pre.1.1.0, pre.0.short)

pub offset_bounds-moves-base : goal.offset_bounds-moves-base
offset_bounds-moves-base c =
    let args = c.args in
    let pre = c.requires in
    omega (arith, base_few pre.0 args.s pre.1.1.0, pre.0.short)

pub bounds-moves-base : goal.bounds-moves-base
bounds-moves-base c =
    let args = c.args in
    let pre = c.requires in
    omega (arith, reach pre.0 args.s c.loop-c.c pre.1.1.0 c.loop-c-test.true)

pub overflow_cast-t : goal.overflow_cast-t
overflow_cast-t c =
    let args = c.args in
    omega (arith, c.shared_slice_known-in-loop-c-1.given (args.s * args.steps + c.loop-c.c))

pub decides-requires : goal.decides-requires
decides-requires c =
    let args = c.args in
    let pre = c.requires in
    let loop = c.loop-c in
    let step = loop.c in
    λ e. omega (arith, target pre.0 args.s step pre.1.1.0 c.loop-c-test.true e)

pub returns-then-decides : goal.returns-then-decides
unfolding some_decides decides_at
returns-then-decides c =
    let args = c.args in
    let loop = c.loop-c in
    let loop-test = c.loop-c-test in
    let decided = decides_at args.moves.now args.inputs.now args.steps (bit_at args.keep.now) args.s
    in
    let step = loop.c in
    let hit = sym c.decides.ensures ∙ c.if-decides.true in
    sym (any_hits (decided args.own) step _ loop-test.true hit)

pub loop-c-preserved : goal.loop-c-preserved
unfolding decides_at
loop-c-preserved c =
    let args = c.args in
    let loop = c.loop-c in
    let decided = decides_at args.moves.now args.inputs.now args.steps (bit_at args.keep.now) args.s
    in
    let misses = sym c.decides.ensures ∙ c.if-decides.false in
    any_more (decided args.own) loop.c loop.invariant misses

pub returns : goal.returns
unfolding some_decides
returns c =
    let args = c.args in
    let loop = c.loop-c in
    let decided = decides_at args.moves.now args.inputs.now args.steps (bit_at args.keep.now) args.s
    in
    let e : loop.c ≡ args.steps = omega arith in
    sym (ap (λ (k : ℕ). any k (decided args.own)) (sym e) ∙ loop.invariant)
