-- A table of moves with those that leave a set taken away: definitions.
use Rattle.std.specs.Prelude.{Bool, cond, List, ℕ, eqb}
use Rattle.systems.specs.Definitions.{Signature}
use Rattle.systems.specs.Finite.{FiniteSystem, safe_states, pruned}
use Rattle.move_tables.specs.Moves.{Bounded, Encodes, no_move}
use Rattle.bitmaps.specs.Packed.{Packed}

-- the move to t, if p lets t pass
unfoldable pub kept_of : (ℕ → Bool) → ℕ → ℕ
kept_of p t = cond (eqb t no_move) no_move (cond (p t) t no_move)

-- The table afterwards: in bounds, and for every system whose moves it held and whose safe states are the bits of keep,
-- the system's moves without those that leave the safe states.
pub record Pruned (n steps : ℕ) (keep m m' : List ℕ) : Type 0 where
  pub bounded : Bounded n steps m'
  pub encodes : (A : Signature) (L : FiniteSystem A) → Encodes L.next n steps m → Packed n (safe_states L) keep keep
      → Encodes (pruned L) n steps m'
