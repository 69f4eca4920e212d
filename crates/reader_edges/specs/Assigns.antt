-- The assignments of an edge (SPECIFICATION 3.1, 3.4, 5.4), any number of them (SPECIFICATION 4.3).
use Rattle.std.specs.Prelude.{true, false, List, ℕ, zero, suc, max, Result, Ok, Err, if◌then◌else◌, length, get_or, set, replicate}
use Rattle.reader_tokens.specs.Kinds as kinds
use Rattle.reader_record.specs.Record.{no_assignment}
use Rattle.reader_record.specs.declared.Name.{Name}
use Rattle.reader_record.specs.declared.Assignment.{Assignment}
use Rattle.reader_parts.specs.declared.Fault.{Fault}
use Rattle.reader_parts.specs.declared.Fault.TheVariants.{Misfit}
use Rattle.reader_parts.specs.Stages.{◌>>=◌, take, ahead}
use Rattle.reader_parts.specs.Names.{use_name}
use Rattle.reader_parts.specs.Slots.{first_clock}
use Rattle.reader_constraints.specs.Constraints.{constant}
use Rattle.reader_edges.specs.declared.AssignRead.{AssignRead}
use Rattle.reader_edges.specs.declared.AssignsRead.{AssignsRead}
use Rattle.limits.specs.Limits.{clock_limit}

-- no clock is assigned
unfoldable pub no_assignments : List Assignment
no_assignments = replicate clock_limit no_assignment

-- a clock with the assignment a is assigned v: the last value counts, and the largest is kept beside it (SPECIFICATION
-- 5.4)
unfoldable pub then_assigned : Assignment → ℕ → Assignment
then_assigned a v = record { made = true; value = v; largest = max a.largest v }

-- clock k is assigned v, after those assignments
unfoldable pub with_assignment : List Assignment → ℕ → ℕ → List Assignment
with_assignment all k v = set all k (then_assigned (get_or all k no_assignment) v)

-- at one tick length, `period` (SPECIFICATION 4.7)
module _ (period : ℕ) where
  -- an assignment (SPECIFICATION 3.1): a clock, `=` and a constant, which may be 0
  unfoldable pub assign_next : List ℕ → ℕ → List Name → Result AssignRead Fault
  assign_next s p names = do
    clock ← use_name s p names first_clock clock_limit false
    a ← take s clock.end kinds.becomes
    given ← constant period 0 s a
    Ok (record { clock = clock.number; value = given.value; end = given.end })

  -- items joined by commas, then `;`, where so many more items may come at most: one more than that is refused at the
  -- end of the text. An item takes bytes of the text, so a counter above the bytes left never runs out (`counter_free`
  -- of Progress)
  unfoldable pub assigns_from : ℕ → List ℕ → List Name → ℕ → List Assignment → Result AssignsRead Fault
  assigns_from zero s names p before = Err (Misfit (length s))
  assigns_from (suc room) s names p before = do
    x ← assign_next s p names
    let all = with_assignment before x.clock x.value
    let more = take s x.end kinds.comma >>= λ q. assigns_from room s names q all
    let last = take s x.end kinds.semicolon >>= λ q. Ok (record { assignments = all; end = q })
    if ahead s x.end kinds.comma then more else last

  -- the assignments after `assign`, with those before (SPECIFICATION 4.3). `items_more` and `items_last` of Progress
  -- are its equations, without the counter
  unfoldable pub assign_items : List ℕ → List Name → ℕ → List Assignment → Result AssignsRead Fault
  assign_items s names p before = assigns_from (suc (length s)) s names p before

  -- the assignments of an edge, where there are any (SPECIFICATION 3.1)
  unfoldable pub assigns : List ℕ → ℕ → List Name → Result AssignsRead Fault
  assigns s p names =
      let given = take s p kinds.assign >>= λ q. assign_items s names q no_assignments in
      if ahead s p kinds.assign then given else Ok (record { assignments = no_assignments; end = p })
