-- What is asked of tick lengths (SPECIFICATION 4.7, 13.3, 13.4, 17.9): how constants come to ticks, and that an
-- operation gives 24 exactly where the tick length is not allowed, and then leaves everything lent as it came.
-- Definitions only: the theorems are in proofs/Guarantees.antt.
use Rattle.std.specs.Prelude.{◌≡◌, List, ℕ, ◌+◌, ◌*◌, ◌≤◌, ◌<◌, Result, Err}
use Rattle.limits.specs.Limits.{TickLength, shortest_tick}
use Rattle.refusals.specs.declared.File.{File}
use Rattle.refusals.specs.declared.Refusal.{Refusal}
use Rattle.refusals.specs.declared.Refusal.TheVariants.{TickOutOfRange}
use Rattle.refusals.specs.Refusals.{tick_out_of_range}
use Rattle.reader_constraints.specs.Constraints.{in_ticks}
use Rattle.clocks_read.specs.Reading.{read_outcome, NothingRead}
use Rattle.safe_states.specs.Outcome.{safe_outcome}
use Rattle.implementation_check.specs.Outcome.{implementation_outcome}
use Rattle.two_operations.specs.Outcome.{search_outcome, check_outcome, widest_outcome}
use Rattle.joining.specs.Outcome.{join_outcome}
use Rattle.demands.specs.Words.{Without}
use Rattle.guarantees.specs.Texts.{AcceptedText}

-- q is c / period to the nearest whole number, an exact half upward: q ticks are at most half a tick more than c, and c
-- is less than half a tick more than q ticks
pub record Nearest (period c q : ℕ) : Type 0 where
  pub below : 2 * (q * period) ≤ 2 * c + period
  pub above : 2 * c < 2 * (q * period) + period

-- how many ticks a constant comes to
pub record TicksDemand : Type 0 where
  pub nearest : (period c : ℕ) → 0 < period → Nearest period c (in_ticks period c)
  -- at tick length 1 it is the numeral's value
  pub one : (c : ℕ) → in_ticks shortest_tick c ≡ c

-- a tick length that is not allowed: each operation gives 24, reading gives nothing beside it, and everything lent is as
-- it came
pub record LengthRefused (period : ℕ) : Type 0 where
  pub read : (s : List ℕ) → (read_outcome period s ≡ Err (tick_out_of_range period))
      × NothingRead (read_outcome period s)
  pub safe_states : (s keep : List ℕ)
      → safe_outcome period s keep ≡ record { answer = Err (tick_out_of_range period); keep = keep }
  pub implementation : (s : List ℕ) → implementation_outcome period s ≡ Err (tick_out_of_range period)
  pub search : (left right keep : List ℕ) (back line : ℕ) (run : List ℕ)
      → search_outcome period left right keep back line run
      ≡ record { answer = Err (tick_out_of_range period); keep = keep; run = run }
  pub check : (left right keep table : List ℕ)
      → check_outcome period left right keep table
      ≡ record { answer = Err (tick_out_of_range period); keep = keep }
  pub widest : (left right keep table : List ℕ)
      → widest_outcome period left right keep table
      ≡ record { answer = Err (tick_out_of_range period); keep = keep; table = table }
  pub join : (left right out : List ℕ)
      → join_outcome period left right out
      ≡ record { answer = Err (tick_out_of_range period); out = out }

-- the answer is no refusal by code 24, whatever file and number it names
abbrev pub WithoutTick : {A : Type 0} → Result A Refusal → Type 0
WithoutTick answer = (file : File) → Without (TickOutOfRange file) answer

-- an allowed one: no operation gives 24
pub record LengthPassed (period : ℕ) : Type 0 where
  pub read : (s : List ℕ) → WithoutTick (read_outcome period s)
  pub safe_states : (s keep : List ℕ) → WithoutTick (safe_outcome period s keep).answer
  pub implementation : (s : List ℕ) → WithoutTick (implementation_outcome period s)
  pub search : (left right keep : List ℕ) (back line : ℕ) (run : List ℕ)
      → WithoutTick (search_outcome period left right keep back line run).answer
  pub check : (left right keep table : List ℕ)
      → WithoutTick (check_outcome period left right keep table).answer
  pub widest : (left right keep table : List ℕ)
      → WithoutTick (widest_outcome period left right keep table).answer
  pub join : (left right out : List ℕ)
      → WithoutTick (join_outcome period left right out).answer

-- both, and that a text is accepted only at an allowed one
pub record LengthDemand (period : ℕ) : Type 0 where
  pub refused : (TickLength period → ⊥) → LengthRefused period
  pub passed : TickLength period → LengthPassed period
  pub accepted : (s : List ℕ) → AcceptedText period s → TickLength period
