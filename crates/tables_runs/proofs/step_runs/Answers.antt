-- step_runs goes from the last state to the first: the entries from t on are runs.
use Rattle.std.specs.Prelude.{◌+◌, ◌-◌, ◌*◌, ◌<◌, length}
use Rattle.std.proofs.Common.{arith, ◌∙◌}
use Rattle.std.proofs.Math.Seq.{get_or-set_other}
use Rattle.tables_runs.proofs.Laws.{run_reach, runs_set}
use Rattle.tables_runs.proofs.step_runs.Goals as goal

pub loop-t-preserved : goal.loop-t-preserved
loop-t-preserved c =
    let args = c.args in
    let loop = c.loop-t in
    let some : 0 < loop.t = c.loop-t-test.true in
    let t = loop.t - 1 in
    let l : args.c * args.w + t < length loop.runs =
    run_reach args.w args.steps args.c t loop.runs (omega arith) c.requires.1.0 (omega arith) in (
      runs_set args.rm.now args.w args.steps args.c t loop.runs c.run_at.result l c.run_at.ensures
          (λ x h k. loop.invariant.0 x (omega arith) k),
      λ i h. get_or-set_other loop.runs (args.c * args.w + t) i c.run_at.result 0 (λ z. omega arith)
          ∙ loop.invariant.1 i h,
    )
