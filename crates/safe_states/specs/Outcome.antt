-- The safe-state operation: what it answers, and what keep holds afterwards (SPECIFICATION 8.4, 12.2, 13.4, 13.5).
use Rattle.std.specs.Prelude.{true, false, List, ℕ, ltb, length, Result, Ok, Err}
use Rattle.systems.specs.Tests.{at, ones}
use Rattle.refusals.specs.declared.Refusal.{Refusal}
use Rattle.refusals.specs.Refusals.{keep_too_short}
use Rattle.reader_record.specs.declared.Text.{Text}
use Rattle.bitmaps.specs.Packed.{bytes_for, packed}
use Rattle.clocks.specs.States.{state_count, start_state}
use Rattle.clocks.specs.Safe.{safe_states}
use Rattle.clocks_read.specs.declared.Reading.{Reading}
use Rattle.clocks_read.specs.Reading.{read_outcome}
use Rattle.safe_states.specs.declared.SafeStates.{SafeStates}

-- everything that is promised
pub record Outcome : Type 0 where
  pub answer : Result SafeStates Refusal
  pub keep : List ℕ

-- a refusal leaves keep untouched (SPECIFICATION 13.5)
abbrev pub refused : Refusal → List ℕ → Outcome
refused f k = record { answer = Err f; keep = k }

-- the count, whether the start is safe, and one bit a state, the later bytes untouched (SPECIFICATION 8.4, 12.2)
unfoldable pub found_outcome : Text → List ℕ → Outcome
found_outcome t k = record {
  answer = Ok (record { count = ones (safe_states t); start = at (safe_states t) (start_state t) });
  keep = packed (state_count t) (safe_states t) k;
}

-- code 13: keep too short (SPECIFICATION 13.1)
unfoldable pub kept_outcome : Text → List ℕ → Outcome
kept_outcome t k = elim (ltb (length k) (bytes_for (state_count t)))
    [ true ↦ refused (keep_too_short (bytes_for (state_count t))) k | false ↦ found_outcome t k ]

-- codes 24 and 1 to 11 come before it (SPECIFICATION 13.4)
unfoldable pub answered : Result Reading Refusal → List ℕ → Outcome
answered (Ok r) k = kept_outcome r.text k
answered (Err f) k = refused f k

-- at one tick length, `period` (SPECIFICATION 4.7)
module _ (period : ℕ) where
  -- the operation on a text by its bytes (SPECIFICATION 12.2)
  unfoldable pub safe_outcome : List ℕ → List ℕ → Outcome
  safe_outcome s k = answered (read_outcome period s) k
