-- find_masks goes step by step: the masks of the steps before c are made.
use Rattle.std.specs.Prelude.{◌≡◌, ℕ}
use Rattle.std.proofs.Common.{arith, subst}
use Rattle.tables_first.specs.Masks.{Masks}
use Rattle.tables_first.proofs.Laws.{masks_more}
use Rattle.tables_first.proofs.find_masks.Goals as goal

pub loop-c-init : goal.loop-c-init
loop-c-init c = λ j l. absurd (omega arith)

pub loop-c-preserved : goal.loop-c-preserved
loop-c-preserved c =
    (masks_more c.args.rm.now c.args.holds.now c.args.w c.args.steps c.loop-c.c c.bytes_for-b.result c.loop-c.masks
    c.step_mask.new.row c.bytes_for-b.ensures (omega arith) c.loop-c-test.true c.step_mask.auto.row c.loop-c.invariant
    c.step_mask.ensures).1

pub returns : goal.returns
returns c =
    let e : c.loop-c.c ≡ c.args.steps = omega arith in
    subst (λ (x : ℕ). Masks c.args.rm.now c.args.holds.now c.args.w c.args.steps x c.loop-c.masks) e c.loop-c.invariant
