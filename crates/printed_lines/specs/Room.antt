-- Room for the lines.
use Rattle.std.specs.Prelude.{ℕ, ◌+◌, ◌*◌}
use Rattle.limits.specs.Limits.{largest_name}

-- the most digits of a number
abbrev pub most_digits : ℕ
most_digits = 20

-- `REFUSED` and four numbers, each after a space, LF
abbrev pub line_limit : ℕ
line_limit = 7 + 4 * (most_digits + 1) + 1

-- a channel's name, its mark, LF
abbrev pub step_bytes : ℕ
step_bytes = largest_name + 2
