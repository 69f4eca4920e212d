-- The record of a text as numbers in a fixed order, for callers that have no Rattle types (SPECIFICATION 15.2). Items
-- past those of the text are its filling.
use Rattle.std.specs.Prelude.{cond, List, [], ◌∷◌, ◌++◌, ℕ, zero, suc, ◌+◌, get_or, set}
use Rattle.reader_record.specs.declared.Name.{Name}
use Rattle.reader_record.specs.declared.Direction.{Direction}
use Rattle.reader_record.specs.declared.Direction.TheVariants as direction
use Rattle.reader_record.specs.declared.Channel.{Channel}
use Rattle.reader_record.specs.declared.Sign.{Sign}
use Rattle.reader_record.specs.declared.Sign.TheVariants.{AtMost, AtLeast, Equal, Less, Greater}
use Rattle.reader_record.specs.declared.Comparison.{Comparison}
use Rattle.reader_record.specs.declared.Constraint.{Constraint}
use Rattle.reader_record.specs.declared.Location.{Location}
use Rattle.reader_record.specs.declared.Label.{Label}
use Rattle.reader_record.specs.declared.Label.TheVariants as label
use Rattle.reader_record.specs.declared.Assignment.{Assignment}
use Rattle.reader_record.specs.declared.Edge.{Edge}
use Rattle.reader_record.specs.declared.Text.{Text}
use Rattle.reader_record.specs.Record.{no_name, no_channel, no_location, no_edge, comparison, assignment, channel}
use Rattle.limits.specs.Limits.{channel_limit, clock_limit, location_limit, edge_limit, comparison_limit}

-- numbers written one after another from a place on; those past the end are dropped (SPECIFICATION 15.2)
unfoldable pub put_at : List ℕ → ℕ → List ℕ → List ℕ
put_at r at [] = r
put_at r at (x ∷ xs) = put_at (set r at x) (at + 1) xs

-- the rows f 0 to f (n - 1), one after another
unfoldable pub rows : ℕ → (ℕ → List ℕ) → List ℕ
rows zero f = []
rows (suc n) f = rows n f ++ f n

unfoldable pub sign_number : Sign → ℕ
sign_number AtMost = 0
sign_number AtLeast = 1
sign_number Equal = 2
sign_number Less = 3
sign_number Greater = 4

unfoldable pub direction_number : Direction → ℕ
direction_number direction.Unused = 0
direction_number direction.Input = 1
direction_number direction.Output = 2

-- the direction that the mark says
unfoldable pub mark : Label → ℕ
mark (label.Input c) = direction_number direction.Input
mark (label.Output c) = direction_number direction.Output

-- mark and channel
abbrev pub label_numbers : Label → List ℕ
label_numbers l = mark l ∷ channel l ∷ []

-- place and length
abbrev pub name_numbers : Name → List ℕ
name_numbers n = n.place ∷ n.len ∷ []

-- clock, sign and bound
unfoldable pub comparison_numbers : Comparison → List ℕ
comparison_numbers c = c.clock ∷ sign_number c.sign ∷ c.bound ∷ []

-- the number of comparisons, then all that there is room for
unfoldable pub constraint_numbers : Constraint → List ℕ
constraint_numbers g = g.count ∷ rows comparison_limit (λ i. comparison_numbers (comparison g i))

-- 1 where it is made, the value and the largest one written (SPECIFICATION 5.4)
unfoldable pub assignment_numbers : Assignment → List ℕ
assignment_numbers a = cond a.made 1 0 ∷ a.value ∷ a.largest ∷ []

-- the assignments of an edge, one for each clock
unfoldable pub assignments_numbers : Edge → List ℕ
assignments_numbers e = rows clock_limit (λ k. assignment_numbers (assignment e k))

-- the name, then the direction
unfoldable pub channel_numbers : Channel → List ℕ
channel_numbers k = name_numbers k.name ++ direction_number k.direction ∷ []

-- the name, then the invariant
unfoldable pub location_numbers : Location → List ℕ
location_numbers l = name_numbers l.name ++ constraint_numbers l.invariant

-- source, target, label, guard, then the three assignments
unfoldable pub edge_numbers : Edge → List ℕ
edge_numbers e =
    ((e.source ∷ e.target ∷ label_numbers e.label) ++ constraint_numbers e.guard) ++ assignments_numbers e

-- channels, clocks, locations, the init location, edges, states
unfoldable pub counts : Text → ℕ → List ℕ
counts t states =
    t.channel_count ∷ t.clock_count ∷ t.location_count ∷ t.init ∷ t.edge_count ∷ states ∷ []

abbrev pub channel_row : List Channel → ℕ → List ℕ
channel_row channels i = channel_numbers (get_or channels i no_channel)

abbrev pub clock_row : List Name → ℕ → List ℕ
clock_row clocks i = name_numbers (get_or clocks i no_name)

abbrev pub location_row : List Location → ℕ → List ℕ
location_row locations i = location_numbers (get_or locations i no_location)

abbrev pub edge_row : List Edge → ℕ → List ℕ
edge_row edges i = edge_numbers (get_or edges i no_edge)

-- the whole record (SPECIFICATION 15.2): counts, channels, clocks, locations, edges, from the places that Layout says
unfoldable pub numbers : Text → ℕ → List ℕ
numbers t states =
    (((counts t states ++ rows channel_limit (channel_row t.channels)) ++ rows clock_limit (clock_row t.clocks)) ++ rows location_limit (location_row t.locations)) ++
    rows edge_limit (edge_row t.edges)
