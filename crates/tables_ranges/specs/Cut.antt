-- A row of bits that is cut: some of the bits of a range are taken away.
use Rattle.std.specs.Prelude.{◌≡◌, ◌⊎◌, Bool, ◌&&◌, List, ℕ, ◌+◌, ◌-◌, ◌/◌, ◌%◌, ◌^◌, ◌≤◌, ◌<◌, eqb, leb, length, get_or}
use Rattle.bitmaps.specs.Bits.{bit_at}

-- bit m of a byte, the high bit first
unfoldable pub bit_in : ℕ → ℕ → Bool
bit_in y m = eqb (y / 2 ^ (7 - m) % 2) 1

-- the byte y has the eight bits of a source from bit v on
abbrev pub Eight : List ℕ → ℕ → ℕ → Type 0
Eight source v y = (m : ℕ) → m < 8 → bit_in y m ≡ bit_at source (v + m)

-- the byte y has its bits from bit n on set, and no others
abbrev pub FullFrom : ℕ → ℕ → Type 0
FullFrom n y = (m : ℕ) → m < 8 → bit_in y m ≡ leb n m

-- bit i of a row that is laid against a source so that bit a meets bit v
unfoldable pub from_bit : List ℕ → ℕ → ℕ → ℕ → Bool
from_bit source a v i = bit_at source (v + (i - a))

-- of the bits a to e of k those that pass P stay, the others go; outside the range nothing changes; no byte rises
pub record Cut (a e : ℕ) (P : ℕ → Bool) (k k' : List ℕ) : Type 0 where
  pub sized : length k' ≡ length k
  pub inside : (i : ℕ) → a ≤ i → i < e → bit_at k' i ≡ (bit_at k i && P i)
  pub outside : (i : ℕ) → (i < a) ⊎ (e ≤ i) → bit_at k' i ≡ bit_at k i
  pub falls : (j : ℕ) → get_or k' j 0 ≤ get_or k j 0
