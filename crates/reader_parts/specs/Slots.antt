-- The table of names. No two names of a text are the same (SPECIFICATION 4.1), so one table holds them all, each kind
-- in slots of its own: the process, the channels, the clocks and the locations, as many as the limits allow
-- (SPECIFICATION 4.3). A slot that is not taken yet has a name of no bytes.
use Rattle.std.specs.Prelude.{ℕ, ◌+◌}
use Rattle.limits.specs.Limits.{channel_limit, clock_limit, location_limit}

abbrev pub process_slot : ℕ
process_slot = 0

-- a text has one process (SPECIFICATION 3.1)
abbrev pub process_limit : ℕ
process_limit = 1

abbrev pub first_channel : ℕ
first_channel = process_slot + process_limit

abbrev pub first_clock : ℕ
first_clock = first_channel + channel_limit

abbrev pub first_location : ℕ
first_location = first_clock + clock_limit

abbrev pub name_slots : ℕ
name_slots = first_location + location_limit
