-- What one turn of a list needs beside its item: the slots and the number of the names so far, and what stands after
-- the item.
use Rattle.std.specs.Prelude.{List, ℕ, Result, Ok, if◌then◌else◌}
use Rattle.reader_tokens.specs.Kinds as kinds
use Rattle.reader_record.specs.declared.Name.{Name}
use Rattle.reader_record.specs.declared.Channel as channel
use Rattle.reader_record.specs.declared.Direction.TheVariants as direction
use Rattle.reader_parts.specs.declared.Fault.{Fault}
use Rattle.reader_parts.specs.Stages.{◌>>=◌, ahead, take}
use Rattle.reader_parts.specs.Slots.{first_channel, first_clock, first_location}
use Rattle.reader_lists.specs.Lists.{Item}
use Rattle.reader_lists.specs.declared.Named.{Named}
use Rattle.reader_lists.specs.declared.Named.TheVariants.{Channel, Clock, Location}
use Rattle.reader_lists.specs.declared.Turn.{Turn}

-- the items that declare a name are items
abbrev pub item : Named → Item
item Channel = Item.Channel
item Clock = Item.Clock
item Location = Item.Location

-- the first of the slots where their names are
abbrev pub first_slot : Named → ℕ
first_slot Channel = first_channel
first_slot Clock = first_clock
first_slot Location = first_location

-- how many there are, of those numbers of channels, clocks and locations
abbrev pub count : Named → ℕ → ℕ → ℕ → ℕ
count Channel channels clocks locations = channels
count Clock channels clocks locations = clocks
count Location channels clocks locations = locations

-- a channel that no edge names yet
abbrev pub unused : Name → channel.Channel
unused n = record { name = n; direction = direction.Unused }

-- what stands after an item: a comma, after which another one comes, or the `;` of the list
unfoldable pub after_item : List ℕ → ℕ → Result Turn Fault
after_item s p =
    let more = ahead s p kinds.comma in
    take s p (if more then kinds.comma else kinds.semicolon) >>= λ q. Ok (record { more = more; end = q })
