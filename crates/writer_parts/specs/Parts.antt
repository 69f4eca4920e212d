-- The parts of the text (SPECIFICATION 18.7) by what the functions that put them are given, for inner contracts.
-- Definitions only; laws in ItemLaws.antt and PartLaws.antt.
use Rattle.std.specs.Prelude.{Bool, true, false, cond, List, [], ◌∷◌, map, ℕ, ◌-◌, ◌≤◌, ◌<◌}
use Rattle.limits.specs.Limits.{channel_limit, clock_limit, comparison_limit}
use Rattle.byte_slices.specs.Decimal.{decimal}
use Rattle.reader_tokens.specs.Scan.{bytes}
use Rattle.reader_record.specs.declared.Channel.{Channel}
use Rattle.reader_record.specs.declared.Constraint.{Constraint}
use Rattle.reader_record.specs.declared.Assignment.{Assignment}
use Rattle.reader_record.specs.declared.Edge.{Edge}
use Rattle.reader_record.specs.Record.{comparison, channel}
use Rattle.written_names.specs.Inside.{NamesInside}
use Rattle.written.specs.Spaced.{Tokens, part_tokens, later_items, numbered_items}
use Rattle.written.specs.Written.{clock_called, location_called, comparison_tokens, constraint_tokens}
use Rattle.written.specs.Written.{assigned_clocks, assignment_tokens}

-- what is left of a part from item i of n on, where an item was put before
unfoldable pub items_left : List ℕ → List ℕ → (ℕ → Tokens) → ℕ → ℕ → Tokens
items_left join closing item n i = later_items join closing (numbered_items item i (n - i))

-- the comparisons of a constraint
abbrev pub compared : ℕ → Constraint → ℕ → Tokens
compared u g i = comparison_tokens u (comparison g i)

-- location i with its invariant g
unfoldable pub located : ℕ → ℕ → Constraint → Tokens
located u i g = location_called u i ∷ constraint_tokens (bytes "{") (bytes "}") u g

-- what opens the assignments, or where there are some before, joins one to them
abbrev pub lead : Bool → List ℕ
lead some = cond some (bytes ",") (bytes "assign")

-- what is put of clock i, whose assignment is a: nothing where it is not assigned
unfoldable pub assignment_step : Assignment → Bool → ℕ → ℕ → Tokens
assignment_step a some u i =
    cond a.made (lead some ∷ clock_called u i ∷ bytes "=" ∷ decimal a.value ∷ []) []

-- the assignments of those clocks, where none was put before, or some were
unfoldable pub assignment_items : Bool → ℕ → List Assignment → List ℕ → Tokens
assignment_items false u all clocks =
    part_tokens (bytes "assign" ∷ []) (bytes ",") (bytes ";") (map (assignment_tokens u all) clocks)
assignment_items true u all clocks = later_items (bytes ",") (bytes ";") (map (assignment_tokens u all) clocks)

-- what is left of the assignments from clock i of n on
unfoldable pub assignments_left : Bool → ℕ → List Assignment → ℕ → ℕ → Tokens
assignments_left some u all n i = assignment_items some u all (assigned_clocks all i (n - i))

-- the locations of an edge, and what opens the rest
unfoldable pub arrow : ℕ → ℕ → ℕ → Tokens
arrow u source target =
    location_called u source ∷ bytes "->" ∷ location_called u target ∷ bytes "{" ∷ []

-- what writing an edge of a text with so many channels and clocks asks for: the limits (SPECIFICATION 4.3), a declared
-- channel, and names within the text s
pub record EdgeWithin (s : List ℕ) (channels : List Channel) (count clocks : ℕ) (e : Edge) : Type 0 where
  pub few_channels : count ≤ channel_limit
  pub few_clocks : clocks ≤ clock_limit
  pub few_comparisons : e.guard.count ≤ comparison_limit
  pub label : (0 < channel e.label) × (channel e.label ≤ count)
  pub inside : NamesInside s channels count
