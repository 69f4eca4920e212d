-- The names of a text, their declarations and their uses (SPECIFICATION 4.1), with codes 4, 5 and 7
-- (SPECIFICATION 4.5). Of two faults at one place, the lower code is judged (SPECIFICATION 4.6).
use Rattle.std.specs.Prelude.{Bool, not, ◌||◌, List, ℕ, ◌+◌, ◌-◌, Result, Ok, Err, nat_lt, nat_le, if◌then◌else◌, drop, set}
use Rattle.reader_tokens.specs.Scan.{past, same}
use Rattle.reader_record.specs.declared.Name.{Name}
use Rattle.reader_parts.specs.declared.Fault.{Fault}
use Rattle.reader_parts.specs.declared.Fault.TheVariants.{Declared, Unknown, TooManyItems}
use Rattle.reader_parts.specs.declared.NameRead.{NameRead}
use Rattle.reader_parts.specs.declared.Declaration.{Declaration}
use Rattle.reader_parts.specs.declared.Use.{Use}
use Rattle.reader_parts.specs.Slots.{name_slots}
use Rattle.reader_parts.specs.Stages.{◌>>=◌, name_next}

-- whether the slot's name n is spelled otherwise than w
unfoldable pub differs : List ℕ → Name → Name → Bool
differs s w n = not (same n.len (drop n.place s) w.len (drop w.place s))

-- the slot of the name that is spelled as w; the number of all slots where no declared name is
unfoldable pub slot_of : List ℕ → List Name → Name → ℕ
slot_of s names w = past (differs s w) names 0

-- a name that is read is declared: number `number` of those in the `limit` slots from `first` on. Code 4 comes before
-- code 7 (SPECIFICATION 4.5, 4.6)
unfoldable pub declare_name : List ℕ → List Name → ℕ → ℕ → ℕ → NameRead → Result Declaration Fault
declare_name s names first number limit r =
    if nat_lt (slot_of s names r.name) name_slots then Err (Declared r.name.place)
    else if nat_le limit number then Err (TooManyItems r.name.place)
    else Ok (record { names = set names (first + number) r.name; name = r.name; end = r.end })

-- the next token, which has to be a name that is declared here
unfoldable pub declare : List ℕ → ℕ → List Name → ℕ → ℕ → ℕ → Result Declaration Fault
declare s p names first number limit = name_next s p >>= declare_name s names first number limit

-- a name that is read is used: it has to be declared in one of the `limit` slots from `first` on. Code 5 comes before
-- code 7 (SPECIFICATION 4.5, 4.6)
unfoldable pub use_of : List ℕ → List Name → ℕ → ℕ → Bool → NameRead → Result Use Fault
use_of s names first limit over r =
    let i = slot_of s names r.name in
    if nat_lt i first || nat_le (first + limit) i then Err (Unknown r.name.place)
    else if over then Err (TooManyItems r.name.place)
    else Ok (record { number = i - first; place = r.name.place; end = r.end })

-- the next token, which has to be a name that is declared in one of those slots; `over`: its item is one too many
unfoldable pub use_name : List ℕ → ℕ → List Name → ℕ → ℕ → Bool → Result Use Fault
use_name s p names first limit over = name_next s p >>= use_of s names first limit over
