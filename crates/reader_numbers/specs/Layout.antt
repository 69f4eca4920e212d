-- How many numbers each part of a record takes, and where it stands.
use Rattle.std.specs.Prelude.{ℕ, ◌+◌, ◌*◌}
use Rattle.limits.specs.Limits.{channel_limit, clock_limit, location_limit, edge_limit, comparison_limit}

-- place and length
abbrev pub name_size : ℕ
name_size = 2

-- mark and channel
abbrev pub label_size : ℕ
label_size = 2

-- clock, sign and bound
abbrev pub comparison_size : ℕ
comparison_size = 3

-- the number of comparisons, then all that there is room for
abbrev pub constraint_size : ℕ
constraint_size = 1 + comparison_limit * comparison_size

-- whether it is made, the value and the largest one written
abbrev pub assignment_size : ℕ
assignment_size = 3

-- an assignment for each clock
abbrev pub assignments_size : ℕ
assignments_size = clock_limit * assignment_size

-- the name, then the direction
abbrev pub channel_size : ℕ
channel_size = name_size + 1

-- the name, then the invariant
abbrev pub location_size : ℕ
location_size = name_size + constraint_size

-- an edge: source and target, then from here on its label, its guard and its assignments
abbrev pub label_place : ℕ
label_place = 2

abbrev pub guard_place : ℕ
guard_place = label_place + label_size

abbrev pub assignments_place : ℕ
assignments_place = guard_place + constraint_size

abbrev pub edge_size : ℕ
edge_size = assignments_place + assignments_size

-- a record: the numbers of channels, clocks and locations, the init location, the numbers of edges and states, then
-- from here on the channels, the clocks, the locations and the edges
abbrev pub init_place : ℕ
init_place = 3

abbrev pub channels_place : ℕ
channels_place = init_place + 3

abbrev pub clocks_place : ℕ
clocks_place = channels_place + channel_limit * channel_size

abbrev pub locations_place : ℕ
locations_place = clocks_place + clock_limit * name_size

abbrev pub edges_place : ℕ
edges_place = locations_place + location_limit * location_size

-- 3,868
abbrev pub record_size : ℕ
record_size = edges_place + edge_limit * edge_size
