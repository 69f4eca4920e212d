-- What the code promises of the joined record that it builds (SPECIFICATION 18.1, 18.8). Definitions only.
use Rattle.std.specs.Prelude.{◌≡◌, true, false, List, ℕ, ◌<◌, get_or, Option, None, Some}
use Rattle.reader_record.specs.declared.Constraint.{Constraint}
use Rattle.reader_record.specs.declared.Location.{Location}
use Rattle.reader_record.specs.declared.Text.{Text}
use Rattle.reader_record.specs.Record.{no_channel, no_location}
use Rattle.joined.specs.Joined.{joined_text, counts_fit}
use Rattle.joined.proofs.Alike.{Alike}
use Rattle.joining_edges.specs.Edges.{by_map}

-- the invariant of location i of an array
abbrev pub invariant_at : List Location → ℕ → Constraint
invariant_at locations i = (get_or locations i no_location).invariant

-- t is the record of the texts l and r joined, which is within the limits: it says the same, with the left's names of
-- the channels
pub record JoinedRecord (l r : Text) (map : List ℕ) (t : Text) : Type 0 where
  pub fits : counts_fit (joined_text (by_map map) l r) ≡ true
  pub alike : Alike (joined_text (by_map map) l r) t
  pub names : (i : ℕ) → i < l.channel_count
      → (get_or t.channels i no_channel).name ≡ (get_or l.channels i no_channel).name

-- j is the texts l and r joined, where the table `map` has the right's number of each of the left's steps: a record
-- exactly where the joined record is within the limits, and then one that says the same, with the left's names of the
-- channels
unfoldable pub JoinsRecords : Text → Text → List ℕ → Option Text → Type 0
JoinsRecords l r map None = counts_fit (joined_text (by_map map) l r) ≡ false
JoinsRecords l r map (Some t) = JoinedRecord l r map t
