-- The slices that stand for two systems over the same steps, the left L and the right R.
use Rattle.std.specs.Prelude.{◌≡◌, List, ℕ, ◌≤◌, ◌<◌, length}
use Rattle.systems.specs.Tests.{table}
use Rattle.systems.specs.Definitions.{Signature}
use Rattle.systems.specs.Finite.{FiniteSystem, safe_states}
use Rattle.move_tables.specs.declared.Sides.{Sides}
use Rattle.move_tables.specs.Moves.{Bounded}
use Rattle.move_tables.specs.Given.{Given}
use Rattle.bitmaps.specs.Packed.{Packed, Bitmap, bytes_for}

-- what the loops need of the slices: the starts are among the states, and so are the targets of all moves
pub record Slices (keep holds lm rm : List ℕ) (sides : Sides) : Type 0 where
  pub left : Bounded sides.left_states sides.steps lm
  pub right : Bounded sides.right_states sides.steps rm
  pub left_start : sides.left_start < sides.left_states
  pub right_start : sides.right_start < sides.right_states
  pub safe_room : bytes_for sides.left_states ≤ length keep
  pub true_bits : Bitmap sides.right_states holds

-- the moves, the starts, the safe states of the left in keep, the right states whose invariant is true in holds
pub record Systems (A : Signature) (L R : FiniteSystem A) (keep holds lm rm : List ℕ) (sides : Sides) : Type 0 where
  pub moves : Given A L R lm rm sides.left_states sides.right_states sides.steps
  pub left_start : L.start ≡ sides.left_start
  pub right_start : R.start ≡ sides.right_start
  pub safe_bits : Packed sides.left_states (safe_states L) keep keep
  pub true_bits : Packed sides.right_states (table sides.right_states R.holds) holds holds
