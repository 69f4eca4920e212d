-- How many numbers the parts of a record take: as many as Layout says.
use mathlib.Core.Path.{◌≡◌, refl, sym, ap, ◌∙◌}
use mathlib.Core.List.{List, ◌++◌}
use Prim.Native.Nat.{ℕ, zero, suc, ◌+◌, ◌*◌}
use native.Mathlib.Nat.{zero-mul, suc-mul}
use native.Mathlib.Omega.{arith}
use lib.ListN.{length, length-append}
use Rattle.reader_record.specs.declared.Constraint.{Constraint}
use Rattle.reader_record.specs.declared.Channel.{Channel}
use Rattle.reader_record.specs.declared.Name.{Name}
use Rattle.reader_record.specs.declared.Location.{Location}
use Rattle.reader_record.specs.declared.Edge.{Edge}
use Rattle.reader_record.specs.declared.Text.{Text}
use Rattle.reader_record.specs.Record.{comparison, assignment}
use Rattle.limits.specs.Limits.{channel_limit, clock_limit, location_limit, edge_limit}
use Rattle.reader_numbers.specs.Numbers.{rows, comparison_numbers, constraint_numbers, channel_numbers}
use Rattle.reader_numbers.specs.Numbers.{assignment_numbers, assignments_numbers, location_numbers, edge_numbers, counts, numbers}
use Rattle.reader_numbers.specs.Numbers.{channel_row, clock_row, location_row, edge_row}
use Rattle.reader_numbers.specs.Layout.{name_size, comparison_size, constraint_size, channel_size}
use Rattle.reader_numbers.specs.Layout.{assignment_size, location_size, edge_size, record_size}

pub length_rows : (k n : ℕ) (f : ℕ → List ℕ) → ((i : ℕ) → length (f i) ≡ k) → length (rows n f) ≡ n * k
unfolding rows
length_rows k zero f e = sym (zero-mul k)
length_rows k (suc n) f e = length-append (rows n f) (f n) ∙ rw (length_rows k n f e, e n) (sym (suc-mul n k))

-- where rows of equal length end
pub rows_after : (xs : List ℕ) (k n : ℕ) (f : ℕ → List ℕ) → ((i : ℕ) → length (f i) ≡ k) → length (xs ++ rows n f) ≡
    length xs + n * k
rows_after xs k n f lengths = length-append xs (rows n f) ∙ ap (λ (l : ℕ). length xs + l) (length_rows k n f lengths)

-- how many numbers each item takes
pub comparison_length : (g : Constraint) (i : ℕ) → length (comparison_numbers (comparison g i)) ≡ comparison_size
unfolding comparison_numbers
comparison_length g i = refl

pub constraint_length : (g : Constraint) → length (constraint_numbers g) ≡ constraint_size
unfolding constraint_numbers comparison_numbers rows
constraint_length g = refl

pub assignment_length : (e : Edge) (k : ℕ) → length (assignment_numbers (assignment e k)) ≡ assignment_size
unfolding assignment_numbers
assignment_length e k = refl

pub channel_length : (channels : List Channel) (i : ℕ) → length (channel_row channels i) ≡ channel_size
unfolding channel_numbers
channel_length channels i = refl

pub clock_length : (clocks : List Name) (i : ℕ) → length (clock_row clocks i) ≡ name_size
clock_length clocks i = refl

pub location_length : (locations : List Location) (i : ℕ) → length (location_row locations i) ≡ location_size
unfolding location_numbers constraint_numbers comparison_numbers rows
location_length locations i = refl

pub edge_length : (edges : List Edge) (i : ℕ) → length (edge_row edges i) ≡ edge_size
unfolding edge_numbers constraint_numbers comparison_numbers assignments_numbers assignment_numbers rows
edge_length edges i = refl

-- the whole record
pub numbers_length : (t : Text) (states : ℕ) → length (numbers t states) ≡ record_size
unfolding numbers counts
numbers_length t states =
    let a = counts t states in
    let b = a ++ rows channel_limit (channel_row t.channels) in
    let c = b ++ rows clock_limit (clock_row t.clocks) in
    let d = c ++ rows location_limit (location_row t.locations) in
    omega (
      arith,
      rows_after a channel_size channel_limit (channel_row t.channels) (channel_length t.channels),
      rows_after b name_size clock_limit (clock_row t.clocks) (clock_length t.clocks),
      rows_after c location_size location_limit (location_row t.locations) (location_length t.locations),
      rows_after d edge_size edge_limit (edge_row t.edges) (edge_length t.edges),
    )
