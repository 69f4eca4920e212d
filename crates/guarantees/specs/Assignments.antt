-- What is asked of the assignments of a text (SPECIFICATION 5.4, 6.3, 6.4, 17.13). Definitions only: the theorem is in
-- proofs/Guarantees.antt. When an edge gives a move is said in crate clocks, Faults.antt.
use Rattle.std.specs.Prelude.{◌≡◌, ◌↔◌, true, false, ℕ, ◌≤◌, ◌<◌, T}
use Rattle.limits.specs.Limits.{clock_limit, largest_constant}
use Rattle.reader_record.specs.declared.Text.{Text}
use Rattle.reader_record.specs.Record.{assignment, edge, invariant_of, channel}
use Rattle.clocks.specs.declared.Config.{Config}
use Rattle.clocks.specs.Meaning.{clock_value, holds, after, stands}
use Rattle.clocks.specs.States.{largest, ranges, state, config}
use Rattle.clocks.specs.Faults.{edge_gives}

pub record AssignmentsDemand (t : Text) : Type 0 where
  -- a clock that edge i assigns is declared; the value is at most the largest one written, and that one counts towards M
  -- and is within the limit (SPECIFICATION 4.3, 5.4, 6.4)
  pub declared : (i k : ℕ) → i < t.edge_count → (assignment (edge t i) k).made ≡ true → k < t.clock_count
  pub written : (i k : ℕ) → i < t.edge_count → (assignment (edge t i) k).value ≤ (assignment (edge t i) k).largest
  pub counted : (i k : ℕ) → i < t.edge_count → (assignment (edge t i) k).largest ≤ largest t k
  pub allowed : (i k : ℕ) → i < t.edge_count → (assignment (edge t i) k).largest ≤ largest_constant
  -- after the edge the clock has the value assigned, also in the state that the edge leads to; another clock is as it was
  -- (SPECIFICATION 6.3)
  pub set : (i k : ℕ) → i < t.edge_count → (assignment (edge t i) k).made ≡ true → (x : Config)
      → clock_value (after (edge t i) x) k ≡ (assignment (edge t i) k).value
  pub set_in_state : (i k : ℕ) → i < t.edge_count → (assignment (edge t i) k).made ≡ true → (x : Config)
      → clock_value (config (ranges t) (state (ranges t) (after (edge t i) x))) k ≡ (assignment (edge t i) k).value
  pub kept : (i k : ℕ) → k < clock_limit → (assignment (edge t i) k).made ≡ false → (x : Config)
      → clock_value (after (edge t i) x) k ≡ clock_value x k
  -- a move needs the guard before the assignments and the target's invariant after them (SPECIFICATION 6.3)
  pub gives : (x : Config) (c i : ℕ) → T (edge_gives t x c i)
      ↔ (((edge t i).source ≡ x.location) × (channel (edge t i).label ≡ c) × T (holds (edge t i).guard x)
      × T (holds (invariant_of t (edge t i).target) (after (edge t i) x)))
  -- two edges that give moves by one channel, where the invariant holds, do not set a clock to different values
  -- (SPECIFICATION 7.2)
  pub alike : (x : Config) → T (stands t x) → (c i j k : ℕ) → i < t.edge_count → j < t.edge_count
      → T (edge_gives t x c i) → T (edge_gives t x c j) → (assignment (edge t i) k).made ≡ true
      → (assignment (edge t j) k).made ≡ true → (assignment (edge t i) k).value ≡ (assignment (edge t j) k).value
