use native.Mathlib.Omega.{arith}
use mathlib.Core.Path.{◌≡◌, refl}
use Prim.Native.Nat.{◌-◌, ◌<◌}
use Rattle.bitmaps.specs.PackedLaws.{packed_length}
use Rattle.clocks_safe.proofs.SettleLaws.{held_start, visit_count, visit_held, visit_swept, held_done}
use Rattle.clocks_safe.proofs.settle.Goals as goal

pub loop-s-init : goal.loop-s-init
loop-s-init c = held_start c.requires.0 c.requires.1.1

pub loop-s-2-init : goal.loop-s-2-init
loop-s-2-init c = (refl, omega arith, λ k₀ H. H, λ e i l q. absurd (omega arith))

pub visit-left-requires : goal.visit-left-requires
visit-left-requires c =
    let args = c.args in
    let pre = c.requires in
    let loop = c.loop-s in
    let loop2-call = c.loop-s-2 in (
      pre.0,
      (
        pre.1.0,
        (
          (let q : (loop2-call.s - 1) < args.n = omega arith in q),
          omega (
            arith,
            packed_length (loop2-call.invariant.2 args.keep.now loop.invariant).is,
            (loop2-call.invariant.2 args.keep.now loop.invariant).is.room,
          ),
        ),
      ),
    )

pub overflow_sub-left : goal.overflow_sub-left
overflow_sub-left c =
    let args = c.args in
    let pre = c.requires in
    let loop = c.loop-s in
    let loop2-call = c.loop-s-2 in
    (visit_count pre.0 (loop2-call.invariant.2 args.keep.now loop.invariant) (loop2-call.s - 1)
    (let q : (loop2-call.s - 1) < args.n = omega arith in q) c.visit-left.ensures).0

pub loop-s-2-preserved : goal.loop-s-2-preserved
loop-s-2-preserved c =
    let args = c.args in
    let pre = c.requires in
    let loop = c.loop-s in
    let loop2-call = c.loop-s-2 in
    let visit-call = c.visit-left in
    let below : (loop2-call.s - 1) < args.n = omega arith in
    let v = visit_count pre.0 (loop2-call.invariant.2 args.keep.now loop.invariant) (loop2-call.s - 1) below visit-call.ensures in (
      refl,
      omega arith,
      λ k₀ H. visit_held pre.0 (loop2-call.invariant.2 k₀ H) (loop2-call.s - 1) below visit-call.ensures,
      λ e.
          let z : visit-call.result ≡ 0 = omega (arith, v.0, loop2-call.invariant.1) in
          let y : loop2-call.left ≡ loop.left = omega (arith, v.0, loop2-call.invariant.1) in
          visit_swept args.moves.now args.inputs.now args.n args.steps loop2-call.s
          visit-call.ensures z c.loop-s-2-test.true (loop2-call.invariant.3 y),
    )

pub loop-s-preserved : goal.loop-s-preserved
loop-s-preserved c =
    let args = c.args in
    let loop = c.loop-s in
    (c.loop-s-2.invariant.2 args.keep.now loop.invariant)

pub shape_of-keep : goal.shape_of-keep
shape_of-keep c =
    let args = c.args in
    let loop = c.loop-s in
    packed_length (c.loop-s-2.invariant.2 args.keep.now loop.invariant).is

pub returns : goal.returns
returns c =
    let args = c.args in
    let pre = c.requires in
    let loop = c.loop-s in
    let loop2-call = c.loop-s-2 in
    held_done pre.0 (loop2-call.invariant.2 args.keep.now loop.invariant)
    (λ i q. loop2-call.invariant.3 c.if-left-before.true i (omega arith) q)
