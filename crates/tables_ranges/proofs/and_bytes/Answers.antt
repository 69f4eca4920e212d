-- An aligned source is met byte by byte, another shifted.
use native.Mathlib.Omega.{arith}
use mathlib.Core.Path.{◌≡◌}
use Prim.Native.Nat.{◌*◌, ◌/◌}
use Rattle.tables_ranges.proofs.and_bytes.Goals as goal

pub returns-then-v-eq0 : goal.returns-then-v-eq0
returns-then-v-eq0 c = let args = c.args in
    let e : 8 * (args.v / 8) ≡ args.v = omega arith in rw e at c.and_whole.ensures
