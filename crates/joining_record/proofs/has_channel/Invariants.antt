-- has_channel: no edge passed so far has the channel.
use mathlib.Core.Path.{◌≡◌}
use Prim.Native.Nat.{ℕ, ◌<◌}
use Rattle.reader_record.specs.Record.{channel}
use Rattle.joining_edges.specs.Edges.{edge_at}
use Rattle.joining_record.proofs.has_channel.Given as goal

abbrev pub invariant-loop-i : goal.invariant-loop-i
invariant-loop-i l = (j : ℕ) → j < l.i → channel (edge_at l.es.list j).label ≡ l.c → ⊥
