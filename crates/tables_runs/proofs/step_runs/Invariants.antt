-- step_runs goes from the last state to the first: the entries from t on are runs.
use Rattle.std.specs.Prelude.{◌≡◌, ℕ, ◌+◌, ◌*◌, ◌<◌, ◌≤◌, get_or}
use Rattle.tables_runs.specs.Runs.{Run}
use Rattle.tables_runs.proofs.step_runs.Given as goal

abbrev pub invariant-loop-t : goal.invariant-loop-t
invariant-loop-t l = ((x : ℕ) → l.t ≤ x → x < l.w → Run l.rm l.w l.steps l.c x (get_or l.runs (l.c * l.w + x) 0))
    × ((i : ℕ) → i < l.c * l.w → get_or l.runs i 0 ≡ get_or l.initial.runs i 0)
