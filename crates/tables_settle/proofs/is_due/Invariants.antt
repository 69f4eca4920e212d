-- is_due passes the steps that are not due.
use Rattle.std.specs.Prelude.{◌≡◌, ◌⊎◌, ℕ, ◌≤◌, ◌<◌, get_or}
use Rattle.move_tables.specs.Moves.{no_move}
use Rattle.tables_runs.specs.Runs.{goes}
use Rattle.tables_settle.proofs.is_due.Given as goal

abbrev pub invariant-loop-c : goal.invariant-loop-c
invariant-loop-c l = (b : ℕ) → b < l.c
    → (goes l.lm l.fn.sides.steps b l.s ≡ no_move) ⊎ (get_or l.stamps (goes l.lm l.fn.sides.steps b l.s) 0 ≤ l.seen)
