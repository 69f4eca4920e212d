-- The parts before `init`, whose record the code has in two: the head and the rest.
use Rattle.std.specs.Prelude.{List, ℕ, Result, Ok}
use Rattle.reader_parts.specs.declared.Fault.{Fault}
use Rattle.reader_parts.specs.Stages.{◌>>=◌}
use Rattle.reader_lists.specs.declared.HeadRead.{HeadRead}
use Rattle.reader_lists.specs.State.{State}
use Rattle.reader_lists.specs.Heads.{no_edges, with_rest}
use Rattle.reader.specs.Reading.{start, channel_part, process_part, clock_part, location_part}

-- the state with the head that is read, of which nothing else is read
abbrev pub head_of : Result HeadRead Fault → Result State Fault
head_of r = r >>= λ h. Ok (with_rest h 0 no_edges 0)

-- at one tick length, `period` (SPECIFICATION 4.7)
module _ (period : ℕ) where
  -- the parts before `init`
  abbrev pub read_head : List ℕ → Result State Fault
  read_head s = channel_part period s start >>= process_part s >>= clock_part period s >>= location_part period s
