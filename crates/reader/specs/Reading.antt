-- Reading a text: a definition for each part of the grammar's `text` (SPECIFICATION 3.1), first of those that have
-- names alone, then of the lists, which go by the tick length, in the grammar's order; and the answer, the record
-- (SPECIFICATION 5.1), code 24 (SPECIFICATION 4.7) or one of the codes 1 to 8 (SPECIFICATION 4.5, 4.6).
use Rattle.std.specs.Prelude.{false, List, ℕ, Result, Ok, Err, nat_lt, if◌then◌else◌, length, replicate}
use Rattle.reader_tokens.specs.Kinds as kinds
use Rattle.reader_record.specs.Record.{no_name}
use Rattle.reader_record.specs.declared.Name.{Name}
use Rattle.reader_record.specs.declared.Text.{Text}
use Rattle.reader_parts.specs.declared.Fault.{Fault}
use Rattle.reader_parts.specs.declared.Fault.TheVariants.{TooLong}
use Rattle.reader_parts.specs.declared.Declaration.{Declaration}
use Rattle.reader_parts.specs.declared.Use.{Use}
use Rattle.reader_parts.specs.Stages.{◌>>=◌, take, ahead}
use Rattle.reader_parts.specs.Names.{declare, use_name}
use Rattle.reader_parts.specs.Slots.{process_slot, process_limit, first_location, name_slots}
use Rattle.reader_lists.specs.Lists.{Item}
use Rattle.reader_lists.specs.Lists.Item.{Channel, Clock, Location, Edge}
use Rattle.reader_lists.specs.State.{State}
use Rattle.reader_lists.specs.State.{no_text, state_of, next_token, with_init}
use Rattle.reader_lists.specs.Lists.{items}
use Rattle.reader.specs.Faults.{refusal_of}
use Rattle.refusals.specs.declared.Refusal.{Refusal}
use Rattle.refusals.specs.Refusals.{tick_out_of_range}
use Rattle.limits.specs.Limits.{location_limit, largest_text, tick_allowed}

-- nothing is read and nothing is declared
unfoldable pub start : State
start = state_of (replicate name_slots no_name) no_text 0

-- the process, whose name is declared (SPECIFICATION 3.1, 4.1)
unfoldable pub process_read : List ℕ → ℕ → List Name → Result Declaration Fault
process_read s p names = do
  a ← take s p kinds.process
  d ← declare s a names process_slot 0 process_limit
  b ← take s d.end kinds.left_paren
  c ← take s b kinds.right_paren
  e ← take s c kinds.opens
  Ok (record { names = d.names; name = d.name; end = e })

unfoldable pub process_part : List ℕ → State → Result State Fault
process_part s r = process_read s r.place r.names >>= λ d. Ok (state_of d.names r.text d.end)

-- the start, by the name of a location (SPECIFICATION 3.1, 3.5)
unfoldable pub init_read : List ℕ → ℕ → List Name → Result Use Fault
init_read s p names = do
  a ← take s p kinds.init
  u ← use_name s a names first_location location_limit false
  b ← take s u.end kinds.semicolon
  Ok (record { number = u.number; place = u.place; end = b })

unfoldable pub init_part : List ℕ → State → Result State Fault
init_part s r = init_read s r.place r.names >>= λ u. Ok (state_of r.names (with_init r.text u.number) u.end)

-- the process's name once more (SPECIFICATION 3.5), after which the text ends (SPECIFICATION 3.3)
unfoldable pub end_read : List ℕ → ℕ → List Name → Result ℕ Fault
end_read s p names = do
  a ← take s p kinds.closes
  b ← take s a kinds.system
  u ← use_name s b names process_slot process_limit false
  c ← take s u.end kinds.semicolon
  take s c kinds.end

unfoldable pub end_part : List ℕ → State → Result State Fault
end_part s r = end_read s r.place r.names >>= λ p. Ok (state_of r.names r.text p)

-- the record where every part fits, else the fault
abbrev pub text_of : Result State Fault → Result Text Fault
text_of (Ok r) = Ok r.text
text_of (Err f) = Err f

-- the same, with the refusal that the fault is
abbrev pub judged : Result Text Fault → Result Text Refusal
judged (Ok t) = Ok t
judged (Err f) = Err (refusal_of f)

-- the answer that a text which is read gets
abbrev pub answer : Result State Fault → Result Text Refusal
answer r = judged (text_of r)

-- the record that a text was read into; a refused text has none, and a fixed one stands for it
abbrev pub record_of : Result Text Refusal → Text
record_of (Ok t) = t
record_of (Err f) = no_text

-- at one tick length, `period` (SPECIFICATION 4.7)
module _ (period : ℕ) where
  -- a list that may be left out: the word that opens it, then its items
  unfoldable pub list_part : ℕ → Item → List ℕ → State → Result State Fault
  list_part word k s r =
      let given = next_token s word r >>= items period k s in
      if ahead s r.place word then given else Ok r

  -- the channels, where there are any (SPECIFICATION 3.1)
  unfoldable pub channel_part : List ℕ → State → Result State Fault
  channel_part s r =
      let given = next_token s kinds.broadcast r >>= next_token s kinds.chan >>= items period Channel s in
      if ahead s r.place kinds.broadcast then given else Ok r

  -- the clocks, where there are any (SPECIFICATION 3.1)
  abbrev pub clock_part : List ℕ → State → Result State Fault
  clock_part = list_part kinds.clock Clock

  -- the locations (SPECIFICATION 3.1)
  unfoldable pub location_part : List ℕ → State → Result State Fault
  location_part s r = next_token s kinds.state r >>= items period Location s

  -- the edges, where there are any (SPECIFICATION 3.1)
  abbrev pub edge_part : List ℕ → State → Result State Fault
  edge_part = list_part kinds.trans Edge

  -- the parts in their order (SPECIFICATION 3.1)
  unfoldable pub read_whole : List ℕ → Result State Fault
  read_whole s = channel_part s start >>= process_part s >>= clock_part s >>= location_part s >>= init_part s
      >>= edge_part s >>= end_part s

  -- the answer to a text: code 24 is judged first, then code 1 (SPECIFICATION 4.5, 13.4)
  unfoldable pub read_text : List ℕ → Result Text Refusal
  read_text s =
      let read = answer (read_whole s) in
      if tick_allowed period then
      if nat_lt largest_text (length s) then Err (refusal_of TooLong) else read
      else Err (tick_out_of_range period)
