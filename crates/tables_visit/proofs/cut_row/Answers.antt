-- cut_row goes step by step: the row is cut by those before c that lead to a row which has changed.
use Rattle.std.specs.Prelude.{◌≡◌, List, ℕ, ◌+◌}
use Rattle.std.proofs.Common.{arith, sym, subst}
use Rattle.tables_runs.specs.Runs.{Within}
use Rattle.tables_cut.specs.RuleLaws.{loaded_bit}
use Rattle.tables_first.specs.Cuts.{cuts_none, cuts_skip}
use Rattle.tables_visit.specs.Visit.{LookedAt}
use Rattle.tables_visit.proofs.Laws.{step_cut}
use Rattle.tables_visit.proofs.cut_row.Goals as goal
use Rattle.tables_visit.proofs.cut_row.Goals.{then-not-is_old, else-not-is_old}

pub loop-c-init : goal.loop-c-init
loop-c-init c =
    let pre = c.requires in
    (pre.1.1.1.1.1.1, cuts_none (loaded_bit c.args.sides.right_states c.args.raster.now c.args.s c.args.row.now pre.1.1.1.1.1.0))

pub loop-c-preserved : goal.loop-c-preserved
loop-c-preserved c =
    let args = c.args in
    let loop = c.loop-c in
    let w = args.sides.right_states in
    let after : (row : List ℕ) → Type 0 = λ row. Within w row args.span.from args.span.to
    × LookedAt args.lm.now args.rm.now args.stamps.now w args.sides.steps args.s args.seen args.raster.now (loop.c + 1)
    row in
    elim c.if-not-is_old.branch [
      | then-not-is_old x ↦ subst after (sym x.row-is) (step_cut args.lm.now args.rm.now args.stamps.now w
          args.sides.steps args.s args.seen args.raster.now loop.invariant.0 loop.invariant.1 x.cut_by_step.ensures)
      | else-not-is_old x ↦ subst after (sym x.row-is)
          (loop.invariant.0, cuts_skip loop.invariant.1 (c.is_old.ensures x.if-not-is_old.false))
    ]

pub returns : goal.returns
returns c =
    let args = c.args in
    let e : c.loop-c.c ≡ args.sides.steps = omega arith in
    subst (λ (x : ℕ). LookedAt args.lm.now args.rm.now args.stamps.now args.sides.right_states args.sides.steps args.s
    args.seen args.raster.now x c.loop-c.row) e c.loop-c.invariant.1
