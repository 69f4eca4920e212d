-- How long the slices are that a caller lends, from the numbers of states (SPECIFICATION 15.3): the very numbers that
-- the operations ask for with 13, 14 and 15 (SPECIFICATION 13.1). An accepted text has at least 1 state and at most
-- `state_limit`; for a number of states that no text has the answer is 0, and only for such a one.
use Rattle.std.specs.Prelude.{Bool, not, ◌&&◌, cond, ℕ, ◌*◌, eqb, leb}
use Rattle.limits.specs.Limits.{state_limit}
use Rattle.bitmaps.specs.Packed.{bytes_for}
use Rattle.tables_header.specs.Header.{table_bytes}

-- an accepted text can have so many states
unfoldable pub possible : ℕ → Bool
possible states = not (eqb states 0) && leb states state_limit

-- the bytes of keep: a bit for each state
unfoldable pub keep_needed : ℕ → ℕ
keep_needed states = cond (possible states) (bytes_for states) 0

-- the bytes of a table: a row for each left state and a column for each right state
unfoldable pub table_needed : ℕ → ℕ → ℕ
table_needed left right = cond (possible left && possible right) (table_bytes right left) 0

-- the entries of back and of line: one for each pair of a left and a right state
unfoldable pub queue_needed : ℕ → ℕ → ℕ
queue_needed left right = cond (possible left && possible right) (left * right) 0
