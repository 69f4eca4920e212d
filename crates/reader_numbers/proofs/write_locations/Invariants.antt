-- `reader_numbers::write_locations` meets its contract, by the callees' contracts and the laws of numbers in a row.
use Rattle.limits.specs.Limits.{location_limit}
use Rattle.reader_numbers.specs.Layout.{locations_place}
use Rattle.reader_numbers.specs.Numbers.{location_row}
use Rattle.reader_numbers.proofs.Laws.{Written}
use Rattle.reader_numbers.proofs.write_locations.Given as goal

abbrev pub invariant-loop-i : goal.invariant-loop-i
invariant-loop-i l = Written location_limit locations_place (location_row l.fn.locations) l.initial.out l.out l.i
