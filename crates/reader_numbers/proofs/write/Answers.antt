-- `reader_numbers::write` meets its contract, by the callees' contracts and the laws of numbers in a row.
use mathlib.Core.Path.{refl}
use mathlib.Core.List.{[], ◌∷◌, ◌++◌}
use native.Mathlib.Omega.{arith}
use Rattle.limits.specs.Limits.{channel_limit, clock_limit, location_limit, edge_limit}
use Rattle.reader_numbers.specs.Layout.{name_size, channel_size, location_size}
use Rattle.reader_numbers.specs.Numbers.{rows, counts, channel_row, clock_row, location_row, edge_row, numbers}
use Rattle.reader_numbers.proofs.Lengths.{rows_after, channel_length, clock_length, location_length}
use Rattle.reader_numbers.proofs.Laws.{joined}
use Rattle.reader_numbers.proofs.write.Goals as goal

pub returns : goal.returns
unfolding numbers counts
returns c =
    let args = c.args in
    let out = args.out.now in
    let t = args.t in
    let head = counts t args.states in
    let channels = rows channel_limit (channel_row t.channels) in
    let clocks = rows clock_limit (clock_row t.clocks) in
    let locations = rows location_limit (location_row t.locations) in
    let to-channels = rows_after head channel_size channel_limit (channel_row t.channels) (channel_length t.channels) in
    let to-clocks = rows_after (head ++ channels) name_size clock_limit (clock_row t.clocks) (clock_length t.clocks) in
    let to-locations = rows_after ((head ++ channels) ++ clocks) location_size location_limit (location_row t.locations) (location_length t.locations) in
    let counted =
    joined out 0 (t.channel_count ∷ t.clock_count ∷ t.location_count ∷ [])
    (t.init ∷ t.edge_count ∷ args.states ∷ []) c.put_three.ensures c.put_three-2.ensures refl
    in
    let channelled = joined out 0 head channels counted c.write_channels.ensures refl in
    let clocked =
    joined out 0 (head ++ channels) clocks channelled c.write_clocks.ensures (omega (arith, to-channels)) in
    let located =
    joined out 0 ((head ++ channels) ++ clocks) locations clocked c.write_locations.ensures
    (omega (arith, to-channels, to-clocks)) in
    joined out 0 (((head ++ channels) ++ clocks) ++ locations) (rows edge_limit (edge_row t.edges)) located
    c.write_edges.ensures (omega (arith, to-channels, to-clocks, to-locations))
