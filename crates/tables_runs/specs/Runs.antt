-- Runs of a step's moves.
use Rattle.std.specs.Prelude.{◌≡◌, ◌⊎◌, Bool, false, List, ℕ, ◌+◌, ◌*◌, ◌/◌, ◌%◌, ◌≤◌, ◌<◌, length, get_or}
use Rattle.systems.specs.Tests.{lands}
use Rattle.bitmaps.specs.Bits.{bit_at}
use Rattle.move_tables.specs.Moves.{decode, no_move}

-- the state that step c leads to from state t, or the mark that there is none
abbrev pub goes : List ℕ → ℕ → ℕ → ℕ → ℕ
goes m steps c t = get_or m (t * steps + c) 0

-- e / 2 states from t on: they all go where t goes if e is even, and to the states that follow it if e is odd
pub record Run (m : List ℕ) (w steps c t e : ℕ) : Type 0 where
  pub some : 1 ≤ e / 2
  pub inside : t + e / 2 ≤ w
  pub same : e % 2 ≡ 0 → (i : ℕ) → i < e / 2 → goes m steps c (t + i) ≡ goes m steps c t
  pub along : e % 2 ≡ 1 → (i : ℕ) → i < e / 2 → goes m steps c (t + i) ≡ goes m steps c t + i
  pub there : e % 2 ≡ 1 → goes m steps c t ≡ no_move → ⊥

-- the run from each state on, by step
pub record Runs (m : List ℕ) (w steps : ℕ) (runs : List ℕ) : Type 0 where
  pub room : steps * w ≤ length runs
  pub run : (c t : ℕ) → c < steps → t < w → Run m w steps c t (get_or runs (c * w + t) 0)

-- all bits of a row of w bits that are set lie from `from` on and before `to`
pub record Within (w : ℕ) (k : List ℕ) (from to : ℕ) : Type 0 where
  pub ordered : from ≤ to
  pub inside : to ≤ w
  pub outside : (i : ℕ) → i < w → (i < from) ⊎ (to ≤ i) → bit_at k i ≡ false

-- the bytes from a on and before e are 0
pub record Blank (k : List ℕ) (a e : ℕ) : Type 0 where
  pub zero : (j : ℕ) → a ≤ j → j < e → get_or k j 0 ≡ 0

-- step c leads from the state i to a state that is set in the source
unfoldable pub landing : List ℕ → List ℕ → ℕ → ℕ → ℕ → Bool
landing source m steps c i = lands (bit_at source) (decode (goes m steps c i))
