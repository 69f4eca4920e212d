-- The pairs counted are the entries set in the table that the raster denotes.
use Rattle.std.specs.Prelude.{◌≡◌, refl, Bool, true, false, List, ◌∷◌, ℕ, zero, suc, ◌+◌, ◌*◌, ◌/◌, ◌%◌, ◌<◌, replicate}
use Rattle.std.proofs.Common.{sym, ap, ◌∙◌, div-add-mod', mod-lt, div-lt_iff_lt-mul, add-mul, arith, ext_get_or}
use Rattle.std.proofs.Math.Arith.{digits_div, digits_mod}
use Rattle.systems.specs.Tests.{at, ones, sieve, table}
use Rattle.bitmaps.specs.Bits.{num}
use Rattle.bitmaps.specs.PackedLaws.{packed_bit}
use Rattle.systems.proofs.Sieve.{length_table}
use Rattle.tables_rows.specs.TableLaws.{table_at}
use Rattle.tables_rows.specs.Raster.{set_at, denoted, Raster}
use Rattle.tables_rows.specs.RasterLaws.{row_at}
use Rattle.tables_count.specs.Pairs.{passing, pairs_set}
use Rattle.tables_count.proofs.PassingLaws.{passing_same, passing_front, passing_split}

ones_cons : (b : Bool) (X : List Bool) → ones (b ∷ X) ≡ num b + ones X
unfolding ones
ones_cons true X = omega arith
ones_cons false X = omega arith

passing_sieve : (p : ℕ → Bool) (i n : ℕ) → ones (sieve p i (replicate n true)) ≡ passing (λ j. p (i + j)) n
unfolding sieve passing ones
passing_sieve p i zero = refl
passing_sieve p i (suc n) =
    ones_cons (p i) (sieve p (suc i) (replicate n true))
    ∙ ap (λ (x : ℕ). num (p i) + x) (passing_sieve p (suc i) n)
    ∙ sym (passing_front (λ j. p (i + j)) n ∙ head ∙ ap (λ (x : ℕ). num (p i) + x) tail)
  where
    head : num (p (i + 0)) + passing (λ j. p (i + suc j)) n ≡ num (p i) + passing (λ j. p (i + suc j)) n
    head = ap (λ (x : ℕ). num (p x) + passing (λ j. p (i + suc j)) n) (omega arith)

    tail : passing (λ j. p (i + suc j)) n ≡ passing (λ j. p (suc i + j)) n
    tail = passing_same (λ j. p (i + suc j)) (λ j. p (suc i + j)) n (λ j h. ap p (omega arith))

-- the numbers below n that pass are the entries set in the table of the test
pub passing_ones : (p : ℕ → Bool) (n : ℕ) → passing p n ≡ ones (table n p)
unfolding table
passing_ones p n = passing_same p (λ j. p (0 + j)) n (λ i h. ap p (omega arith)) ∙ sym (passing_sieve p 0 n)

-- pairs by row and column are numbers in row order
pairs_passing : (f : ℕ → ℕ → Bool) (w n : ℕ) → pairs_set f w n ≡ passing (λ p. f (p / w) (p % w)) (n * w)
unfolding pairs_set passing
pairs_passing f w zero = let e : 0 * w ≡ 0 = omega arith in rw e
pairs_passing f w (suc n) =
    let e : suc n * w ≡ n * w + w = omega (arith, add-mul n 1 w) in
    let row = passing_same (λ j. f ((n * w + j) / w) ((n * w + j) % w)) (f n) w
    (λ j h. rw (digits_div n h, digits_mod n h)) in
    rw e (omega (arith, pairs_passing f w n, passing_split (λ p. f (p / w) (p % w)) (n * w) w))

-- the number of pairs set, padding not counted
pub pairs_ones : (n w : ℕ) (k : List ℕ) → pairs_set (set_at w k) w n ≡ ones (denoted n w k)
unfolding denoted
pairs_ones n w k = pairs_passing (set_at w k) w n ∙ passing_ones (λ p. set_at w k (p / w) (p % w)) (n * w)

-- a raster of X denotes X
pub denoted_raster : {n w : ℕ} {X : List Bool} {d k : List ℕ} → 0 < w → Raster n w X d k → denoted n w k ≡ X
unfolding denoted
denoted_raster {n} {w} {X} {d} {k} wide R =
    ext_get_or false (table (n * w) (λ p. set_at w k (p / w) (p % w))) X
    (length_table (n * w) (λ p. set_at w k (p / w) (p % w)) ∙ sym R.long)
    (λ p h. same p (omega (arith, length_table (n * w) (λ p. set_at w k (p / w) (p % w)))))
  where
    same : (p : ℕ) → p < n * w → at (table (n * w) (λ p. set_at w k (p / w) (p % w))) p ≡ at X p
    same p h =
        let t : p % w < w = mod-lt p wide in
        let s : p / w < n = (div-lt_iff_lt-mul wide).1 h in
        table_at (n * w) (λ p. set_at w k (p / w) (p % w)) p h
        ∙ packed_bit (R.rows (p / w) s) (p % w) t
        ∙ row_at w X (p / w) (p % w) t
        ∙ ap (at X) (div-add-mod' p w)

pub pairs_raster : {n w : ℕ} {X : List Bool} {d k : List ℕ} → 0 < w → Raster n w X d k → pairs_set (set_at w k) w n
    ≡ ones X
pairs_raster {n} {w} {X} {d} {k} wide R = pairs_ones n w k ∙ ap ones (denoted_raster wide R)
