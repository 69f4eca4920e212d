-- A visit of one row: what it takes out fails a rule, and what it leaves passes the steps that were looked at.
use Rattle.std.specs.Prelude.{◌≡◌, ◌⊎◌, not, List, ℕ, ◌+◌, ◌*◌, ◌/◌, ◌≤◌, ◌<◌, T, length, get_or}
use Rattle.bitmaps.specs.Bits.{bit_at}
use Rattle.bitmaps.specs.Packed.{bytes_for}
use Rattle.tables_rows.specs.Raster.{set_at}
use Rattle.tables_count.specs.Pairs.{passing}
use Rattle.tables_runs.specs.Runs.{goes}
use Rattle.tables_cut.specs.Rule.{fine}
use Rattle.tables_first.specs.Cuts.{Cuts}

-- what a visit of row s does to the raster k: it takes `lost` pairs out, each of which fails a step in k; a pair that
-- is kept passes in k each step whose row has changed since `seen`
pub record Visited (lm rm stamps : List ℕ) (n w steps s seen : ℕ) (k k' : List ℕ) (lost : ℕ) : Type 0 where
  pub sized : length k' ≡ length k
  pub outside : (i : ℕ) → (i < s * bytes_for w) ⊎ (s * bytes_for w + bytes_for w ≤ i) → get_or k' i 0 ≡ get_or k i 0
  pub kept : (t : ℕ) → t < w → T (set_at w k' s t)
      → T (set_at w k s t) × ((c : ℕ) → c < steps → (get_or stamps (goes lm steps c s) 0 ≤ seen)
      ⊎ T (fine lm rm w steps k s c t))
  pub gone : (t : ℕ) → t < w → T (set_at w k s t)
      → T (set_at w k' s t) ⊎ ((c : ℕ) × (c < steps) × T (not (fine lm rm w steps k s c t)))
  pub spare : (t : ℕ) → w ≤ t → t / 8 < bytes_for w → set_at w k' s t ≡ set_at w k s t
  pub still : lost ≡ 0 → k' ≡ k
  pub counted : lost + passing (set_at w k' s) w ≡ passing (set_at w k s) w

-- row s of the raster k after the steps before c whose rows have changed since `seen`
abbrev pub LookedAt : List ℕ → List ℕ → List ℕ → ℕ → ℕ → ℕ → ℕ → List ℕ → ℕ → List ℕ → Type 0
LookedAt lm rm stamps w steps s seen k c row =
    Cuts w (set_at w k s) (λ b. get_or stamps (goes lm steps b s) 0 ≤ seen) (fine lm rm w steps k s) c row

-- the raster k with `row` in the place of its row s, which has `lost` bits more
pub record PutBack (w s : ℕ) (row k k' : List ℕ) (lost : ℕ) : Type 0 where
  pub sized : length k' ≡ length k
  pub outside : (i : ℕ) → (i < s * bytes_for w) ⊎ (s * bytes_for w + bytes_for w ≤ i) → get_or k' i 0 ≡ get_or k i 0
  pub here : (t : ℕ) → t / 8 < bytes_for w → set_at w k' s t ≡ bit_at row t
  pub still : lost ≡ 0 → k' ≡ k
  pub counted : lost + passing (bit_at row) w ≡ passing (set_at w k s) w
