-- The table of two texts with no more pairs than program megzhoi has room for takes no more bytes than it lends.
use Rattle.std.specs.Prelude.{ℕ, ◌+◌, ◌*◌, ◌≤◌}
use Rattle.std.proofs.Common.{mul-le-mul_left, arith}
use Rattle.limits.specs.Limits.{state_limit}
use Rattle.bitmaps.specs.Packed.{bytes_for}
use Rattle.tables_header.specs.Header.{table_bytes}
use Rattle.printed.specs.Prints.{entries, counted_bytes}
use Rattle.printed.specs.Fits.{header_fits}

pub table_few : (w h : ℕ) → w ≤ state_limit → h ≤ state_limit → h * w ≤ entries → table_bytes w h ≤ counted_bytes
unfolding table_bytes
table_few w h p q few =
    let bytes : 8 * bytes_for w ≤ w + 7 = omega arith in
    omega (arith, header_fits w h p q, mul-le-mul_left h bytes)
