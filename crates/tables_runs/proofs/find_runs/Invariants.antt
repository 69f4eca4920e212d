-- find_runs goes step by step: the entries of the steps before c are runs.
use Rattle.std.specs.Prelude.{ℕ, ◌+◌, ◌*◌, ◌<◌, get_or}
use Rattle.tables_runs.specs.Runs.{Run}
use Rattle.tables_runs.proofs.find_runs.Given as goal

abbrev pub invariant-loop-c : goal.invariant-loop-c
invariant-loop-c l = (b t : ℕ) → b < l.c → t < l.w → Run l.rm l.w l.steps b t (get_or l.runs (b * l.w + t) 0)
