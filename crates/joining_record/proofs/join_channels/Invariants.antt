-- join_channels: the channels passed so far are those of the joined record.
use mathlib.Core.Path.{◌≡◌}
use mathlib.Core.List.{List}
use Prim.Native.Nat.{ℕ, ◌<◌}
use lib.ListN.{length, get_or}
use Rattle.limits.specs.Limits.{channel_limit}
use Rattle.reader_record.specs.declared.Edge.{Edge}
use Rattle.reader_record.specs.Record.{no_channel}
use Rattle.joined.specs.Joined.{joined_channel}
use Rattle.joining_edges.specs.Edges.{Holds}
use Rattle.joining_record.proofs.join_channels.Given as goal

abbrev pub invariant-loop-i : goal.invariant-loop-i
invariant-loop-i l = (length l.list ≡ channel_limit)
    × ((xs : List Edge) → Holds xs l.es → (j : ℕ) → j < l.i → get_or l.list j no_channel ≡ joined_channel l.fn.l xs j)
