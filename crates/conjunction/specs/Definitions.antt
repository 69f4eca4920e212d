-- What the conjunction of two systems is made of (SPECIFICATION 18.1), systems that match move by move, and signatures
-- that say the same. Definitions only; the conjunction itself, which holds proofs, is in proofs/Conjunction.antt.
use Rattle.std.specs.Prelude.{◌≡◌, Bool, ◌&&◌, ℕ, T}
use Rattle.std.proofs.Math.Option.{Option, none, some}
use Rattle.systems.specs.Definitions.{Signature, Input, System}

-- two moves as one: both must be possible
unfoldable pub together : {X Y : Type 0} → Option X → Option Y → Option (X × Y)
together none q = none
together (some x) none = none
together (some x) (some y) = some (x, y)

-- a step from a pair of states: both sides make it (SPECIFICATION 18.1)
unfoldable pub both_next : {X Y : Type 0} → (X → ℕ → Option X) → (Y → ℕ → Option Y) → X × Y → ℕ → Option (X × Y)
both_next f g z c = together (f z.0 c) (g z.1 c)

-- the invariant of a pair of states: both hold
unfoldable pub both_hold : {X Y : Type 0} → (X → Bool) → (Y → Bool) → X × Y → Bool
both_hold p q z = p z.0 && q z.1

-- every input is possible wherever the invariant holds (SPECIFICATION 7.1, 7.4)
abbrev pub Enabled : {A : Signature} → System A → Type 0
Enabled {A} M = (x : M.State) (c : ℕ) → T (M.holds x) → Input A c → (y : M.State) × (M.next x c ≡ some y)

-- two systems match move by move: a relation that has the two starts, and under which every move of either is one of
-- the other
pub record Bisimulation {A : Signature} (M N : System A) : Type 1 where
  pub Rel : M.State → N.State → Type 0
  pub starts : Rel M.start N.start
  pub forth : (x : M.State) (y : N.State) (c : ℕ) (u : M.State) → Rel x y → M.next x c ≡ some u
      → (v : N.State) × (N.next y c ≡ some v) × Rel u v
  pub back : (x : M.State) (y : N.State) (c : ℕ) (v : N.State) → Rel x y → N.next y c ≡ some v
      → (u : M.State) × (M.next x c ≡ some u) × Rel u v

-- the same channels and directions: a joined text has the left's inputs and outputs, though in another record
pub record SameSignature (A B : Signature) : Type 0 where
  pub channels : A.channels ≡ B.channels
  pub input : (c : ℕ) → A.input c ≡ B.input c
