-- What is asked of the safe-state operation's own outcome, for an accepted text (SPECIFICATION 8.3, 8.4, 12.2).
-- Definitions only: the theorems are in proofs/Guarantees.antt. What is asked of the operations on two texts is defined
-- in crate demands.
use Rattle.std.specs.Prelude.{◌≡◌, ◌↔◌, Bool, List, ℕ, T, Ok}
use Rattle.systems.specs.Tests.{ones, table}
use Rattle.systems.specs.Definitions.{LargestSafeSet}
use Rattle.bitmaps.specs.Bits.{bit_at}
use Rattle.safe_states.specs.Outcome.{Outcome}
use Rattle.demands.specs.Words.{Consistent, KeepWritten}
use Rattle.guarantees.specs.Texts.{AcceptedText, states, meaning, number}

-- at one tick length, `period` (SPECIFICATION 4.7)
module _ (period : ℕ) where
  -- What is asked of the outcome o, where keep came as `keep`.
  pub record SafeDemand (s : List ℕ) (a : AcceptedText period s) (keep : List ℕ) (o : Outcome) : Type 1 where
    -- the answer is a count and a truth value (SPECIFICATION 12.2)
    pub count : ℕ
    pub start : Bool
    pub answer : o.answer ≡ Ok (record { count = count; start = start })
    -- the start is safe exactly when some implementation satisfies the text (SPECIFICATION 8.3)
    pub start_safe : (S : (meaning period s a).State → Type 0) → LargestSafeSet (meaning period s a) S → T start
        ↔ S (meaning period s a).start
    pub start_means : T start ↔ Consistent (meaning period s a)
    -- keep holds the safe states, and the count is that of the bits set (SPECIFICATION 8.4, 12.2)
    pub kept : KeepWritten (meaning period s a) (states period s) (number period s a) keep o.keep
    pub count_is : count ≡ ones (table (states period s) (bit_at o.keep))
