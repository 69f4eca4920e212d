-- is_due passes the steps that are not due.
use Rattle.std.specs.Prelude.{◌≡◌, ◌⊎◌, ℕ, ◌≤◌, get_or}
use Rattle.std.proofs.Common.{arith, inl, inr}
use borrow.Author.Count.{below_more}
use Rattle.move_tables.specs.Moves.{no_move}
use Rattle.tables_runs.specs.Runs.{goes}
use Rattle.tables_settle.proofs.is_due.Goals as goal
use Rattle.tables_settle.proofs.is_due.Goals.{then-u-ne-NO_TARGET+else-seen-stamps, else-u-ne-NO_TARGET}

pub loop-c-init : goal.loop-c-init
loop-c-init c = λ b l. absurd (omega arith)

pub returns-then-seen-stamps : goal.returns-then-seen-stamps
returns-then-seen-stamps c = λ e. let z : ◌≡◌ {A = ℕ} 0 1 = cc in absurd (omega arith)

pub loop-c-preserved : goal.loop-c-preserved
loop-c-preserved c =
    let a = c.args in
    let u = goes a.lm.now a.sides.steps c.loop-c.c a.s in
    let here : (u ≡ no_move) ⊎ (get_or a.stamps.now u 0 ≤ a.seen) = elim c.if-u-ne-NO_TARGET.branch [
      | then-u-ne-NO_TARGET+else-seen-stamps w ↦ inr w.if-seen-stamps.false
      | else-u-ne-NO_TARGET w ↦ inl w.if-u-ne-NO_TARGET.false
    ] in
    below_more _ c.loop-c.c c.loop-c.invariant here

pub returns : goal.returns
returns c = λ e b l. c.loop-c.invariant b (omega arith)
