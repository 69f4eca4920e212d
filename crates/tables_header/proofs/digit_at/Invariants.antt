-- digit_at takes digits off at the right until digit i is the last: digit i of the rest is that of n.
use Rattle.std.specs.Prelude.{◌≡◌, ◌+◌, ◌<◌, length, get_or}
use Rattle.byte_slices.specs.Decimal.{decimal}
use Rattle.tables_header.proofs.digit_at.Given as goal

abbrev pub invariant-loop : goal.invariant-loop
invariant-loop l =
    (length (decimal l.rest) + l.counter ≡ length (decimal l.n) + (l.i + 1))
    × ((l.i < length (decimal l.rest)) × (get_or (decimal l.rest) l.i 0 ≡ get_or (decimal l.n) l.i 0))
