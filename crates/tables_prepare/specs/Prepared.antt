-- The left of two systems made ready for an operation: its safe states in keep, its moves without those that leave them.
use Rattle.std.specs.Prelude.{◌≡◌, Bool, List, ℕ, ◌≤◌, ◌<◌, length}
use Rattle.systems.specs.Definitions.{Signature}
use Rattle.systems.specs.Finite.{FiniteSystem, safe, safe_states, pruned}
use Rattle.bitmaps.specs.Packed.{packed, Bitmap}
use Rattle.move_tables.specs.Moves.{Bounded, Encodes, Encoded}
use Rattle.clocks_safe.specs.Settle.{Starts}
use Rattle.move_tables.specs.declared.Sides.{Sides}

-- what the loops need of the left's slices: moves that stay among its
-- states, a bit for each state, the start among them
pub record Ready (sides : Sides) (inputs : List Bool) (moves holds : List ℕ) : Type 0 where
  pub bounded : Bounded sides.left_states sides.steps moves
  pub bits : Bitmap sides.left_states holds
  pub start : sides.left_start < sides.left_states
  pub known : sides.steps ≤ length inputs

-- what is promised for a left system L: keep has its safe states in front of the old bytes, the answer is whether its
-- start is safe, and the moves are its own without those that leave the safe states
pub record SafeLeft {A : Signature} (L : FiniteSystem A) (sides : Sides) (moves keep keep' : List ℕ) (start : Bool) : Type 0
  where
    pub kept : keep' ≡ packed sides.left_states (safe_states L) keep
    pub answer : start ≡ safe L L.start
    pub moves_left : Encodes (pruned L) sides.left_states sides.steps moves

-- for every system that the slices hold
pub record Prepared (sides : Sides) (inputs : List Bool) (holds moves moves' keep keep' : List ℕ) (start : Bool) : Type 0 where
  pub bounded : Bounded sides.left_states sides.steps moves'
  pub left : (A : Signature) (L : FiniteSystem A) → Encoded A L moves inputs sides.left_states sides.steps
      → Starts L sides.left_states holds → L.start ≡ sides.left_start → SafeLeft L sides moves' keep keep' start

-- what an operation needs of the slices of two systems
pub record ReadyTwo (sides : Sides) (inputs : List Bool) (left_moves right_moves left_holds : List ℕ) : Type 0 where
  pub left : Ready sides inputs left_moves left_holds
  pub right : Bounded sides.right_states sides.steps right_moves
  pub right_start : sides.right_start < sides.right_states
