-- Two texts that are parsed and measured, and slices with room for both.
use Rattle.std.specs.Prelude.{◌≡◌, Bool, true, false, List, ℕ, ◌≤◌, leb}
use Rattle.std.proofs.Common.{arith, leb-true}
use Rattle.clocks_table.specs.Judge.{room_within, room_always}
use Rattle.clocks_table.specs.Room.{Room}
use Rattle.clocks_read.specs.Measured.{Measures, states_of}
use Rattle.two_texts.specs.declared.MeasuredTexts.{MeasuredTexts}
use Rattle.limits.specs.Limits.{move_limit, keep_limit, few_states, few_moves, few_bytes}

-- both counts of states are few, if `few` says so
pub record Few (few : Bool) (n w : ℕ) : Type 0 where
  pub left : few ≡ true → n ≤ few_states
  pub right : few ≡ true → w ≤ few_states

pub few_not : (n w : ℕ) → Few false n w
few_not n w = record {
  left = λ e. let z : ◌≡◌ {A = ℕ} 0 1 = cc in absurd (omega arith);
  right = λ e. let z : ◌≡◌ {A = ℕ} 0 1 = cc in absurd (omega arith);
}

pub few_within : (n w : ℕ) → n ≤ few_states → Few (leb w few_states) n w
few_within n w h = record { left = λ _. h; right = λ e. leb-true w few_states e }

-- slices of these lengths have room for both
pub record Rooms (b : MeasuredTexts) (left_moves right_moves left_holds right_holds : ℕ) : Type 0 where
  pub left : Room (states_of b.left) left_moves left_holds
  pub right : Room (states_of b.right) right_moves right_holds

-- small slices have it where both have few states, the large ones always
module _ (b : MeasuredTexts) (lm rm lh rh : ℕ) where
  pub rooms_few : Few b.few (states_of b.left) (states_of b.right) → b.few ≡ true → lm ≡ few_moves → rm ≡ few_moves
      → lh ≡ few_bytes → rh ≡ few_bytes → Rooms b lm rm lh rh
  rooms_few f e p q r s = record {
    left = room_within few_states _ lm lh (f.left e) (omega arith) (omega arith);
    right = room_within few_states _ rm rh (f.right e) (omega arith) (omega arith);
  }

  pub rooms_always : lm ≡ move_limit → rm ≡ move_limit → lh ≡ keep_limit → rh ≡ keep_limit → Rooms b lm rm lh rh
  rooms_always p q r s = record {
    left = room_always _ lm lh (omega arith) (omega arith);
    right = room_always _ rm rh (omega arith) (omega arith);
  }

-- at one tick length, `period` (SPECIFICATION 4.7)
module _ (period : ℕ) where
  -- b is the two texts, parsed and measured
  pub record MeasuresTwo (left right : List ℕ) (b : MeasuredTexts) : Type 0 where
    pub left_text : Measures period left b.left
    pub right_text : Measures period right b.right
    pub few : Few b.few (states_of b.left) (states_of b.right)
