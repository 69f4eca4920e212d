-- Laws of the room for classes.
use Rattle.std.specs.Prelude.{List, ℕ, ◌+◌, ◌*◌, ◌≤◌, ◌<◌, length}
use Rattle.std.proofs.Common.{mul-le-mul_right, arith}
use Rattle.limits.specs.Limits.{step_limit}
use Rattle.bitmaps.specs.Packed.{bytes_for}
use Rattle.tables_shifts.specs.Shifts.{class_limit, class_entries, Room}

-- room for the classes of at most m states
pub shifts_room : (w steps m : ℕ) {classes masks : List ℕ} → steps ≤ step_limit → w ≤ m
    → step_limit * class_entries ≤ length classes → step_limit * class_limit * bytes_for m ≤ length masks
    → Room w steps classes masks
shifts_room w steps m h l n k = record {
  numbers = omega arith;
  bits = omega (
    arith,
    mul-le-mul_right (bytes_for w) (let q : steps * class_limit ≤ step_limit * class_limit = omega arith in q),
  );
}

-- the numbers of a step stand in the slice
pub number_room : {w steps : ℕ} {classes masks : List ℕ} → Room w steps classes masks → (c : ℕ) → c < steps
    → (c + 1) * class_entries ≤ length classes
number_room R c hc = omega (arith, R.numbers)
