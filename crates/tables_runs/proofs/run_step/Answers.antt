-- run_step cuts a run by what its kind says of the moves.
use Rattle.std.specs.Prelude.{◌≡◌}
use Rattle.std.proofs.Common.{arith, sym, ◌∙◌}
use Rattle.tables_runs.specs.Runs.{landing}
use Rattle.tables_runs.specs.RunsLaws.{landing_none, landing_some}
use Rattle.tables_runs.proofs.Laws.{run_gone, run_kept, run_row, row_fits}
use Rattle.tables_runs.proofs.run_step.Goals as goal
use Rattle.tables_runs.proofs.run_step.Goals.{After-get}

pub returns-then-v-eq-NO_TARGET : goal.returns-then-v-eq-NO_TARGET
returns-then-v-eq-NO_TARGET c =
    let none = c.if-v-eq-NO_TARGET.true in
    let run = c.requires.1.1.1.0 in
    run_gone run c.args.source.now (λ o. run.there o none)
    (landing_none c.args.source.now c.args.rm.now c.args.steps c.args.c c.args.t none)
    c.clear_range.ensures

pub and_range-requires : goal.and_range-requires
and_range-requires c =
    let run = c.requires.1.1.1.0 in
    let fits = row_fits run c.requires.0 c.requires.1.0 c.requires.1.1.0 c.if-v-eq-NO_TARGET.false c.if-e-eq1.true in (
      omega arith,
      (
        omega (arith, run.inside, c.requires.0.few),
        (omega (arith, run.inside), (omega (arith, c.requires.0.few), omega arith)),
      ),
    )

pub returns-then-e-eq1 : goal.returns-then-e-eq1
returns-then-e-eq1 c =
    run_row c.requires.1.1.1.0 c.requires.0 c.requires.1.0 c.requires.1.1.0 c.if-v-eq-NO_TARGET.false c.if-e-eq1.true
    c.args.source.now c.and_range.ensures

-- the one target is a state: whether it is set in the source
target_set : (c : After-get) → landing c.args.source.now c.args.rm.now c.args.steps c.args.c c.args.t ≡ c.get.result
target_set c =
    landing_some c.args.source.now c.args.rm.now c.args.steps c.args.c c.args.t c.if-v-eq-NO_TARGET.false
    ∙ sym c.get.ensures

pub returns-then-get : goal.returns-then-get
returns-then-get c =
    run_kept c.requires.1.1.1.0 c.args.source.now c.if-e-eq1.false
    (target_set (goal.at.returns-then-get c).After-get ∙ c.if-get.true)

pub returns : goal.returns
returns c =
    run_gone c.requires.1.1.1.0 c.args.source.now c.if-e-eq1.false
    (target_set (goal.at.returns c).After-get ∙ c.if-get.false)
    c.clear_range-2.ensures
