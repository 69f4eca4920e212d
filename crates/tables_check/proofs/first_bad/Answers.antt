-- first_bad tests one step after the other: from step c on the answer is still open.
use Rattle.std.specs.Prelude.{◌≡◌, ℕ, Bool, not}
use Rattle.std.proofs.Common.{arith, sym, ◌∙◌, ap}
use Rattle.tables_check.specs.Scan.{fails_at, first_bad}
use Rattle.tables_check.proofs.Laws.{least_yes, least_no, least_end}
use Rattle.tables_check.proofs.first_bad.Goals as goal
use Rattle.tables_check.proofs.first_bad.Goals.{Start}

-- whether a step breaks a rule at the pair
abbrev fails : Start → ℕ → Bool
fails c = let a = c.args in fails_at a.lm.now a.rm.now a.w a.steps a.raster.now a.s a.t

pub returns-then-not-step_ok : goal.returns-then-not-step_ok
unfolding first_bad fails_at
returns-then-not-step_ok c =
    sym (sym c.loop-c.invariant ∙ least_yes (fails (goal.at.returns-then-not-step_ok c).Start) c.loop-c.c c.args.steps
    c.loop-c-test.true (ap not (sym c.step_ok.ensures ∙ c.if-not-step_ok.true)))

pub loop-c-preserved : goal.loop-c-preserved
unfolding fails_at
loop-c-preserved c =
    sym (least_no (fails (goal.at.loop-c-preserved c).Start) c.loop-c.c c.args.steps c.loop-c-test.true
    (ap not (sym c.step_ok.ensures ∙ c.if-not-step_ok.false))) ∙ c.loop-c.invariant

pub returns : goal.returns
unfolding first_bad
returns c =
    let e : c.loop-c.c ≡ c.args.steps = omega arith in
    sym (sym c.loop-c.invariant ∙ least_end (fails (goal.at.returns c).Start) c.loop-c.c c.args.steps (omega arith) ∙ e)
