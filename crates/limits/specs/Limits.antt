-- The limits of a text, a definition a row of the table in SPECIFICATION 4.3, that of the tick length, and what follows
-- from them.
use Rattle.std.specs.Prelude.{Bool, false, cond, ℕ, ◌+◌, ◌*◌, ◌/◌, ◌≤◌, ltb, leb}

abbrev pub largest_text : ℕ
largest_text = 32768

abbrev pub largest_name : ℕ
largest_name = 31

abbrev pub channel_limit : ℕ
channel_limit = 16

abbrev pub clock_limit : ℕ
clock_limit = 3

abbrev pub location_limit : ℕ
location_limit = 32

abbrev pub edge_limit : ℕ
edge_limit = 128

abbrev pub comparison_limit : ℕ
comparison_limit = 4

abbrev pub largest_constant : ℕ
largest_constant = 1000

-- the tick length in milliseconds (SPECIFICATION 4.7)
abbrev pub shortest_tick : ℕ
shortest_tick = 1

abbrev pub longest_tick : ℕ
longest_tick = 60000

unfoldable pub tick_allowed : ℕ → Bool
tick_allowed period = cond (ltb period shortest_tick) false (leb period longest_tick)

-- the same as a fact, which the functions that read constants ask for
abbrev pub TickLength : ℕ → Type 0
TickLength period = (shortest_tick ≤ period) × (period ≤ longest_tick)

-- a numeral above this one comes to more ticks than the largest constant at every tick length
abbrev pub largest_numeral : ℕ
largest_numeral = (largest_constant + 1) * longest_tick

abbrev pub state_limit : ℕ
state_limit = 4096

-- the steps of a text: the tick and its channels (SPECIFICATION 6.8)
abbrev pub step_limit : ℕ
step_limit = channel_limit + 1

-- the entries of a move table: one for each state and step
abbrev pub move_limit : ℕ
move_limit = state_limit * step_limit

-- the bytes that hold a bit for each state (SPECIFICATION 8.4)
abbrev pub keep_limit : ℕ
keep_limit = (state_limit + 7) / 8

-- the pairs of a left and a right state: entries of back and of line (SPECIFICATION 12.4)
abbrev pub pair_limit : ℕ
pair_limit = state_limit * state_limit

-- so many states are few: their slices are small, which changes no answer
abbrev pub few_states : ℕ
few_states = 256

-- the entries of a move table and the bytes of the bits for few states
abbrev pub few_moves : ℕ
few_moves = few_states * step_limit

abbrev pub few_bytes : ℕ
few_bytes = (few_states + 7) / 8
