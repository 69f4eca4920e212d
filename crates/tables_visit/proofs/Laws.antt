-- Laws of a visit.
use mathlib.Core.Path.{◌≡◌, refl, sym, subst, ap, ◌∙◌}
use mathlib.Core.Logic.{inl, inr, ⊎_elim}
use mathlib.Core.Bool.{false}
use mathlib.Core.List.{List, ◌++◌}
use Prim.Native.Nat.{ℕ, ◌+◌, ◌-◌, ◌*◌, ◌/◌, ◌≤◌, ◌<◌}
use native.Mathlib.Omega.{arith}
use lib.Dec.{T}
use lib.ListN.{length, get_or, take, drop}
use Rattle.systems.specs.Bools.{T_same}
use Rattle.bitmaps.specs.Bits.{bit_at, written}
use Rattle.bitmaps.specs.BitLaws.{written_at, written_length, less}
use Rattle.bitmaps.specs.Packed.{bytes_for}
use Rattle.tables_rows.specs.Raster.{part, set_at}
use Rattle.tables_rows.specs.RasterLaws.{part_length, part_between, row_back, row_put, row_put_length, row_put_outside, row_put_here}
use Rattle.tables_count.specs.Pairs.{passing, Fewer}
use Rattle.tables_count.proofs.PassingLaws.{passing_same, passing_all}
use Rattle.tables_ranges.specs.Cut.{Cut}
use Rattle.tables_runs.specs.Runs.{Within}
use Rattle.tables_runs.specs.RunsLaws.{within_cut}
use Rattle.tables_cut.specs.Rule.{fine, Loaded}
use Rattle.tables_cut.specs.RuleLaws.{loaded_bit}
use Rattle.tables_first.specs.Cuts.{cuts_more}
use Rattle.tables_visit.specs.Visit.{Visited, LookedAt, PutBack}

module _ (lm rm stamps : List ℕ) (w steps s seen : ℕ) (k : List ℕ) where
  -- a row that has been cut by some steps: its bits are among those of row s
  pub fewer : {c : ℕ} {row : List ℕ} → LookedAt lm rm stamps w steps s seen k c row
      → Fewer w (part (bytes_for w) s k) row
  fewer A = record { among = λ i h x. (A.kept i h x).0; spare = A.spare }

  -- cut by one step more, it still lies within the span
  pub step_cut : {c from to : ℕ} {row row' : List ℕ} → Within w row from to
      → LookedAt lm rm stamps w steps s seen k c row → Cut 0 w (fine lm rm w steps k s c) row row'
      → Within w row' from to × LookedAt lm rm stamps w steps s seen k (c + 1) row'
  step_cut W A C = (within_cut C W, cuts_more A C)

module _ (w s : ℕ) (row k : List ℕ) (F : Fewer w (part (bytes_for w) s k) row) where
  -- no bit is lost, so all are there
  pub back_still : 0 + passing (bit_at row) w ≡ passing (set_at w k s) w → PutBack w s row k k 0
  back_still e = record {
    sized = refl;
    outside = λ i h. refl;
    here = λ t h. ⊎_elim (λ l. T_same (set_at w k s t) (bit_at row t)
        (passing_all (bit_at row) (set_at w k s) w F.among (omega arith) t l) (F.among t l))
        (λ l. sym (F.spare t l h)) (less t w);
    still = λ z. refl;
    counted = e;
  }

  -- the row is copied to its place
  stored : (n lost : ℕ) → n * bytes_for w ≤ length k → s < n → (lost ≡ 0 → ⊥)
      → lost + passing (bit_at row) w ≡ passing (set_at w k s) w
      → PutBack w s row k
      (row_put (bytes_for w) k s (written (λ i. get_or row i 0) (bytes_for w) (part (bytes_for w) s k))) lost
  unfolding bit_at
  stored n lost room h some e = record {
    sized = row_put_length n (bytes_for w) k s new room h long;
    outside = row_put_outside n (bytes_for w) k s new room h long;
    here = λ t l. rw (
      row_put_here n (bytes_for w) k s new room h long,
      written_at (λ i. get_or row i 0) (bytes_for w) (part (bytes_for w) s k) (t / 8) l,
    );
    still = λ z. absurd (some z);
    counted = e;
  }
    where
      new : List ℕ
      new = written (λ i. get_or row i 0) (bytes_for w) (part (bytes_for w) s k)

      size : length (part (bytes_for w) s k) ≡ bytes_for w
      size = part_length n (bytes_for w) k s room h

      long : length new ≡ bytes_for w
      long = written_length (λ i. get_or row i 0) (bytes_for w) (part (bytes_for w) s k) (omega (arith, size)) ∙ size

  pub back_stored : (n b : ℕ) (y : List ℕ) (lost : ℕ) → b ≡ bytes_for w
      → y ≡ written (λ i. get_or row i 0) b (take (s * b + b - s * b) (drop (s * b) k))
      → n * bytes_for w ≤ length k → s < n → (lost ≡ 0 → ⊥) → lost + passing (bit_at row) w ≡ passing (set_at w k s) w
      → PutBack w s row k (take (s * b) k ++ (y ++ drop (s * b + b - s * b) (drop (s * b) k))) lost
  back_stored n b y lost e copied room h some count =
      let new : y ≡ written (λ i. get_or row i 0) (bytes_for w) (part (bytes_for w) s k) =
      copied ∙ ap (written (λ i. get_or row i 0) b) (part_between w s b k e)
      ∙ ap (λ (x : ℕ). written (λ i. get_or row i 0) x (part (bytes_for w) s k)) e in
      rw (row_back w s b k y e, new) (stored n lost room h some count)

-- a row that was cut by all steps and put back
pub visited : {lm rm stamps : List ℕ} {n w steps s seen : ℕ} {row k k' : List ℕ} {lost : ℕ}
    → LookedAt lm rm stamps w steps s seen k steps row → PutBack w s row k k' lost
    → Visited lm rm stamps n w steps s seen k k' lost
visited {w = w} {s = s} {row = row} {k' = k'} A P = record {
  sized = P.sized;
  outside = P.outside;
  kept = λ t h x. A.kept t h (subst T (P.here t (omega arith)) x);
  gone = λ t h x. ⊎_elim (λ y. inl (subst T (sym (P.here t (omega arith))) y)) inr (A.gone t h x);
  spare = λ t l h. P.here t h ∙ A.spare t l h;
  still = P.still;
  counted = omega (arith, P.counted, passing_same (set_at w k' s) (bit_at row) w (λ t h. P.here t (omega arith)));
}

-- nothing is set in the row
pub visited_empty : {lm rm stamps : List ℕ} {n w steps s seen : ℕ} {k row : List ℕ} {from to : ℕ} → Loaded w k s row
    → Within w row from to → to ≤ from → Visited lm rm stamps n w steps s seen k k 0
visited_empty {w = w} {s = s} {k = k} {row} {from} {to} L W e = record {
  sized = refl;
  outside = λ i h. refl;
  kept = λ t h x. absurd (subst T (clear t h) x);
  gone = λ t h x. inl x;
  spare = λ t l h. refl;
  still = λ z. refl;
  counted = omega arith;
}
  where
    clear : (t : ℕ) → t < w → set_at w k s t ≡ false
    clear t h = sym (loaded_bit w k s row L t (omega arith))
        ∙ W.outside t h (⊎_elim inl (λ l. inr (omega arith)) (less t from))
