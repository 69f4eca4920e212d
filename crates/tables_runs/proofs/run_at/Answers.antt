-- run_at makes the run of a state longer by one.
use Rattle.std.specs.Prelude.{◌+◌, ◌<◌}
use Rattle.std.proofs.Common.{arith}
use Rattle.tables_runs.proofs.Laws.{run_same, run_along}
use Rattle.tables_runs.proofs.run_at.Goals as goal

pub returns-then-f-eq0 : goal.returns-then-f-eq0
returns-then-f-eq0 c =
    let l : c.args.t + 1 < c.args.w = omega arith in
    run_same c.args.t (c.requires.1.1.1.1 l) c.if-x-v.true c.if-f-eq0.true

pub returns-then-f-eq1 : goal.returns-then-f-eq1
returns-then-f-eq1 c =
    let l : c.args.t + 1 < c.args.w = omega arith in
    run_along c.args.t (c.requires.1.1.1.1 l) c.if-x-v-2.false c.if-v.false c.if-f-eq1.true
