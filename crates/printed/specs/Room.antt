-- Room for all that program megzhoi can print: a line, and a step for each entry of run.
use Rattle.std.specs.Prelude.{ℕ, ◌+◌, ◌*◌}
use Rattle.printed_lines.specs.Room.{line_limit, step_bytes}
use Rattle.printed.specs.Prints.{entries}

abbrev pub megzhoi_limit : ℕ
megzhoi_limit = line_limit + entries * step_bytes
