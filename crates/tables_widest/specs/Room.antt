-- The slices in which the widest table is made.
use Rattle.std.specs.Prelude.{◌≡◌, List, ℕ, ◌*◌, ◌≤◌, length, get_or}
use Rattle.bitmaps.specs.Packed.{bytes_for}
use Rattle.move_tables.specs.declared.Sides.{Sides}
use Rattle.tables_shifts.specs.Shifts.{Room as ShiftsRoom}

-- each is long enough, and no row has been looked at
pub record Room (sides : Sides) (raster rows seen stamps runs classes masks order first met : List ℕ) : Type 0 where
  pub table : sides.left_states * bytes_for sides.right_states ≤ length raster
  pub row : bytes_for sides.right_states ≤ length rows
  pub row_each : sides.steps * bytes_for sides.right_states ≤ length rows
  pub looked : sides.left_states ≤ length seen
  pub unseen : (s : ℕ) → get_or seen s 0 ≡ 0
  pub changed : sides.left_states ≤ length stamps
  pub run_each : sides.steps * sides.right_states ≤ length runs
  pub shift_each : ShiftsRoom sides.right_states sides.steps classes masks
  pub stacked : sides.left_states ≤ length runs
  pub ordered : sides.left_states ≤ length order
  pub placed : sides.left_states ≤ length first
  pub walked : sides.left_states ≤ length met
