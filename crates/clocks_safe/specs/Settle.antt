-- What holds while states are taken out of a bitmap, and that what is left in the end are the safe states.
use Rattle.std.specs.Prelude.{◌≡◌, ◌⊎◌, Bool, true, false, List, ℕ, ◌-◌, ◌/◌, ◌%◌, ◌^◌, ◌≤◌, ◌<◌, get_or, set}
use Rattle.systems.specs.Tests.{ones, table}
use Rattle.systems.proofs.Sieve.{Between}
use Rattle.systems.specs.Definitions.{Signature}
use Rattle.systems.specs.Finite.{FiniteSystem, safe_states}
use Rattle.systems.proofs.Safe.{safe_rule}
use Rattle.bitmaps.specs.Bits.{bit_at}
use Rattle.move_tables.specs.Moves.{Encoded}
use Rattle.bitmaps.specs.Packed.{Packed, packed}
use Rattle.clocks_safe.specs.Test.{passes}

-- a visit of state s: it is taken out if it is in and fails the test
abbrev pub Visited : List ℕ → List Bool → ℕ → List ℕ → ℕ → List ℕ → ℕ → Type 0
Visited m inputs steps k s k' r =
    ((r ≡ 0) × (k' ≡ k) × (bit_at k s ≡ true → passes m inputs steps (bit_at k) s ≡ true))
    ⊎ ((r ≡ 1) × (k' ≡ set k (s / 8) (get_or k (s / 8) 0 - 2 ^ (7 - s % 8))) × (bit_at k s ≡ true)
    × (passes m inputs steps (bit_at k) s ≡ false))

-- the bitmap k₀ holds the states of L whose invariant holds
abbrev pub Starts : {A : Signature} → FiniteSystem A → ℕ → List ℕ → Type 0
Starts L n k₀ = k₀ ≡ packed n (table n L.holds) k₀

-- what is promised of the bitmap afterwards, and of the count
abbrev pub Settled : List ℕ → List Bool → ℕ → ℕ → List ℕ → List ℕ → ℕ → Type 0
Settled m inputs n steps k₀ k r = (A : Signature) (L : FiniteSystem A) → Encoded A L m inputs n steps → Starts L n k₀
    → (k ≡ packed n (safe_states L) k₀) × (r ≡ ones (safe_states L))

-- while states are taken out: the bitmap k has `count` states, and nothing that is safe was taken out of k₀
pub record Held (m : List ℕ) (inputs : List Bool) (n steps : ℕ) (k₀ k : List ℕ) (count : ℕ) : Type 0 where
  pub entries : List Bool
  pub is : Packed n entries k₀ k
  pub count_is : ones entries ≡ count
  pub between : (A : Signature) (L : FiniteSystem A) → Encoded A L m inputs n steps → Starts L n k₀
      → Between (safe_rule L) (table n L.holds) entries

-- in the bitmap k each state from s on that is in passes
abbrev pub Swept : List ℕ → List Bool → ℕ → ℕ → List ℕ → ℕ → Type 0
Swept m inputs n steps k s = (i : ℕ) → s ≤ i → i < n → bit_at k i ≡ true → passes m inputs steps (bit_at k) i ≡ true

-- the operation whole: the bitmap `holds` has the states whose invariant is true, and `keep` gets the safe ones
abbrev pub SafeAnswer : List ℕ → List ℕ → List Bool → ℕ → ℕ → List ℕ → List ℕ → ℕ → Type 0
SafeAnswer holds m inputs n steps k₀ k r = (A : Signature) (L : FiniteSystem A) → Encoded A L m inputs n steps
    → Starts L n holds → (k ≡ packed n (safe_states L) k₀) × (r ≡ ones (safe_states L))
