-- The test of a tick length is the fact.
use Rattle.std.specs.Prelude.{◌≡◌, refl, Bool, true, false, cond, ℕ, ltb, leb}
use Rattle.std.proofs.Common.{arith, ltb-false, leb-true, le-ltb, le-leb}
use Rattle.limits.specs.Limits.{shortest_tick, longest_tick, tick_allowed, TickLength}

pub allowed_length : (period : ℕ) → tick_allowed period ≡ true → TickLength period
unfolding tick_allowed
allowed_length period = go (ltb period shortest_tick) refl
  where
    go : (b : Bool) → ltb period shortest_tick ≡ b → cond b false (leb period longest_tick) ≡ true → TickLength period
    go true e h = let z : ◌≡◌ {A = ℕ} 0 1 = cc in absurd (omega arith)
    go false e h = (ltb-false period shortest_tick e, leb-true period longest_tick h)

pub length_allowed : (period : ℕ) → TickLength period → tick_allowed period ≡ true
unfolding tick_allowed
length_allowed period (a, b) = rw (le-ltb period shortest_tick a, le-leb period longest_tick b)
