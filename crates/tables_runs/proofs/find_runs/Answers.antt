-- find_runs goes step by step: the entries of the steps before c are runs.
use Rattle.tables_runs.proofs.Laws.{runs_more}
use Rattle.tables_runs.proofs.find_runs.Goals as goal

pub loop-c-preserved : goal.loop-c-preserved
loop-c-preserved c =
    runs_more c.args.rm.now c.args.w c.args.steps c.loop-c.c c.loop-c.runs c.step_runs.new.runs c.loop-c.invariant
    c.step_runs.ensures.0 c.step_runs.ensures.1
