-- A raster from its bits: bytes whose padding is 0 are the raster of the table that they denote.
use mathlib.Core.Path.{◌≡◌, refl, sym, ap, ◌∙◌}
use mathlib.Core.Logic.{⊎_elim}
use mathlib.Core.Bool.{Bool, false}
use mathlib.Core.List.{List}
use Prim.Native.Nat.{ℕ, zero, suc, ◌+◌, ◌-◌, ◌*◌, ◌/◌, ◌%◌, ◌^◌, ◌≤◌, ◌<◌}
use native.Mathlib.Omega.{arith}
use lib.Dec.{eqb}
use lib.ListN.{length, get_or, get_or-eq_default}
use Rattle.systems.specs.Tests.{at}
use Rattle.bitmaps.specs.Bits.{bit_at, num, byte_of}
use Rattle.bitmaps.specs.BitLaws.{written_is, less}
use Rattle.bitmaps.specs.Packed.{packed, bytes_for}
use Rattle.systems.proofs.Sieve.{length_table}
use Rattle.tables_rows.specs.Raster.{Raster, set_at, denoted, part, row}
use Rattle.tables_rows.specs.RasterLaws.{part_length, part_at, row_length, row_at}
use Rattle.tables_settle.specs.State.{PaddingClear}
use Rattle.tables_settle.specs.RemovalLaws.{denoted_at}

-- a digit as a number
digit : (x : ℕ) → x < 2 → num (eqb x 1) ≡ x
digit zero h = refl
digit (suc zero) h = refl
digit (suc (suc x)) h = absurd (omega arith)

-- a number from its digits
from_digits : (b b1 b2 b3 b4 b5 b6 b7 d0 d1 d2 d3 d4 d5 d6 d7 : ℕ) → b ≡ b1 * 2 + d0 → b1 ≡ b2 * 2 + d1
    → b2 ≡ b3 * 2 + d2 → b3 ≡ b4 * 2 + d3 → b4 ≡ b5 * 2 + d4 → b5 ≡ b6 * 2 + d5 → b6 ≡ b7 * 2 + d6 → b7 ≡ d7
    → b ≡ d7 * 128 + d6 * 64 + d5 * 32 + d4 * 16 + d3 * 8 + d2 * 4 + d1 * 2 + d0
from_digits b b1 b2 b3 b4 b5 b6 b7 d0 d1 d2 d3 d4 d5 d6 d7 e0 e1 e2 e3 e4 e5 e6 e7 = omega arith

byte_sum : (b : ℕ) → b < 256 → b ≡ b / 128 % 2 * 128 + b / 64 % 2 * 64 + b / 32 % 2 * 32 + b / 16 % 2 * 16
    + b / 8 % 2 * 8 + b / 4 % 2 * 4 + b / 2 % 2 * 2 + b / 1 % 2
byte_sum b h = from_digits b (b / 2) (b / 4) (b / 8) (b / 16) (b / 32) (b / 64) (b / 128) (b / 1 % 2) (b / 2 % 2)
    (b / 4 % 2) (b / 8 % 2) (b / 16 % 2) (b / 32 % 2) (b / 64 % 2) (b / 128 % 2) (omega arith) (omega arith)
    (omega arith) (omega arith) (omega arith) (omega arith) (omega arith) (omega arith)

-- a byte is the byte of its digits
byte_is : (b : ℕ) (p : ℕ → Bool) (j : ℕ) → b < 256 → ((m : ℕ) → m < 8 → eqb (b / 2 ^ (7 - m) % 2) 1 ≡ p (8 * j + m))
    → b ≡ byte_of p j
unfolding byte_of
byte_is b p j h e =
    let n0 : num (p (8 * j + 0)) ≡ b / 128 % 2 = ap (λ (x : Bool). num x) (sym (e 0 (omega arith))) ∙ digit (b / 128 % 2) (omega arith) in
    let n1 : num (p (8 * j + 1)) ≡ b / 64 % 2 = ap (λ (x : Bool). num x) (sym (e 1 (omega arith))) ∙ digit (b / 64 % 2) (omega arith) in
    let n2 : num (p (8 * j + 2)) ≡ b / 32 % 2 = ap (λ (x : Bool). num x) (sym (e 2 (omega arith))) ∙ digit (b / 32 % 2) (omega arith) in
    let n3 : num (p (8 * j + 3)) ≡ b / 16 % 2 = ap (λ (x : Bool). num x) (sym (e 3 (omega arith))) ∙ digit (b / 16 % 2) (omega arith) in
    let n4 : num (p (8 * j + 4)) ≡ b / 8 % 2 = ap (λ (x : Bool). num x) (sym (e 4 (omega arith))) ∙ digit (b / 8 % 2) (omega arith) in
    let n5 : num (p (8 * j + 5)) ≡ b / 4 % 2 = ap (λ (x : Bool). num x) (sym (e 5 (omega arith))) ∙ digit (b / 4 % 2) (omega arith) in
    let n6 : num (p (8 * j + 6)) ≡ b / 2 % 2 = ap (λ (x : Bool). num x) (sym (e 6 (omega arith))) ∙ digit (b / 2 % 2) (omega arith) in
    let n7 : num (p (8 * j + 7)) ≡ b / 1 % 2 = ap (λ (x : Bool). num x) (sym (e 7 (omega arith))) ∙ digit (b / 1 % 2) (omega arith) in
    rw (n0, n1, n2, n3, n4, n5, n6, n7) (byte_sum b h)

bit_is : (l : List ℕ) (i j m : ℕ) → i / 8 ≡ j → i % 8 ≡ m → bit_at l i ≡ eqb (get_or l j 0 / 2 ^ (7 - m) % 2) 1
unfolding bit_at
bit_is l i j m a z = rw (a, z)

pub raster_bits : (n w : ℕ) (d k : List ℕ) → n * bytes_for w ≤ length d → length k ≡ length d
    → ((i : ℕ) → get_or k i 0 < 256)
    → PaddingClear n w k
    → ((i : ℕ) → n * bytes_for w ≤ i → get_or k i 0 ≡ get_or d i 0) → Raster n w (denoted n w k) d k
unfolding packed denoted
raster_bits n w d k room sized small spare past = record {
  long = length_table (n * w) _;
  room = room;
  sized = sized;
  rows = λ s h. let l : length (part (bytes_for w) s k) ≡ bytes_for w = part_length n (bytes_for w) k s (omega arith) h in
      record {
        long = row_length n w X s (length_table (n * w) _) h;
        room = omega arith;
        is = written_is (byte_of (at (row w X s))) (bytes_for w) (part (bytes_for w) s k) (part (bytes_for w) s k) (omega arith)
            refl (λ j q. byte s h j q) (λ i q. refl);
      };
  past = past;
}
  where
    X : List Bool
    X = denoted n w k

    bit : (s t : ℕ) → s < n → t / 8 < bytes_for w → set_at w k s t ≡ at (row w X s) t
    bit s t hs h = ⊎_elim
        (λ l. sym (row_at w X s t l ∙ denoted_at n w k s t hs l))
        (λ l. spare s t hs l h
        ∙ sym (get_or-eq_default (row w X s) false (rw (row_length n w X s (length_table (n * w) _) hs) l)))
        (less t w)

    byte : (s : ℕ) → s < n → (j : ℕ) → j < bytes_for w → get_or (part (bytes_for w) s k) j 0 ≡ byte_of (at (row w X s)) j
    byte s hs j q = byte_is (get_or (part (bytes_for w) s k) j 0) (at (row w X s)) j
        (rw (part_at (bytes_for w) k s j q) (small (s * bytes_for w + j))) digits
      where
        digits : (m : ℕ) → m < 8 → eqb (get_or (part (bytes_for w) s k) j 0 / 2 ^ (7 - m) % 2) 1 ≡ at (row w X s) (8 * j + m)
        digits m hm =
            let a : (8 * j + m) / 8 ≡ j = omega arith in
            let z : (8 * j + m) % 8 ≡ m = omega arith in
            sym (here a z) ∙ bit s (8 * j + m) hs (omega arith)
          where
            here : (8 * j + m) / 8 ≡ j → (8 * j + m) % 8 ≡ m → set_at w k s (8 * j + m)
                ≡ eqb (get_or (part (bytes_for w) s k) j 0 / 2 ^ (7 - m) % 2) 1
            here a z = bit_is (part (bytes_for w) s k) (8 * j + m) j m a z
