-- The first i edges are put.
use mathlib.Core.List.{List}
use Prim.Native.Nat.{ℕ, ◌<◌}
use Rattle.reader_record.specs.declared.Text.{Text}
use Rattle.reader_record.specs.Record.{edge}
use Rattle.writer_tokens.specs.Tokens.{LeftToPut}
use Rattle.writer_parts.specs.Parts.{EdgeWithin}
use Rattle.written_names.specs.Inside.{names_in}
use Rattle.writer_lists.specs.Lists.{TextWithin, list_left, edge_item}
use Rattle.writer_lists.proofs.put_edges.Given as goal

-- what a text within the limits says of its edges
pub edge_within : {s : List ℕ} {t : Text} → TextWithin s t → (i : ℕ) → i < t.edge_count
    → EdgeWithin s t.channels t.channel_count t.clock_count (edge t i)
edge_within text i h = record {
  few_channels = text.few_channels;
  few_clocks = text.few_clocks;
  few_comparisons = text.guards i h;
  label = text.labels i h;
  inside = text.inside;
}

abbrev pub invariant-loop-i : goal.invariant-loop-i
invariant-loop-i l =
    let item = edge_item (names_in l.s l.t.channels l.t.channel_count) l.u l.t in
    LeftToPut l.initial.out l.initial.place (list_left item l.count 1) l.out l.place (list_left item l.count l.i)
