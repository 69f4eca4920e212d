-- Laws of bitmaps that hold a table.
use Rattle.std.specs.Prelude.{◌≡◌, refl, Bool, true, ℕ, zero, suc, ◌+◌, ◌-◌, ◌/◌, ◌%◌, ◌^◌, ◌≤◌, ◌<◌, set, drop}
use Rattle.std.proofs.Common.{sym, ◌∙◌, add-one, arith, drop_of_length-le, ext_get_or, drop-cons}
use Rattle.std.proofs.Math.Path.{ap}
use Rattle.std.proofs.Math.Bool.{false}
use mathlib.Core.List.{List, [], ◌∷◌}
use Rattle.std.proofs.Math.ListN.{length, get_or, length-set}
use Rattle.std.proofs.Math.Seq.{get_or-set_same, get_or-set_other}
use Rattle.systems.specs.Tests.{at, ones}
use Rattle.bitmaps.specs.Bits.{bit_at, num, byte_of, written}
use Rattle.bitmaps.specs.BitLaws.{written_same, written_is, written_at, written_past, written_length, bit_of, clear_is}
use Rattle.bitmaps.specs.Packed.{bytes_for, packed, Packed}

module _ {n : ℕ} {X : List Bool} {d s : List ℕ} (P : Packed n X d s) where
  pub packed_length : length s ≡ length d
  unfolding packed
  packed_length = ap length P.is ∙ written_length (byte_of (at X)) (bytes_for n) d P.room

  pub packed_bit : (i : ℕ) → i < n → bit_at s i ≡ at X i
  unfolding packed
  packed_bit i h = bit_of (at X) s i (ap (λ (l : List ℕ). get_or l (i / 8) 0) P.is
      ∙ written_at (byte_of (at X)) (bytes_for n) d (i / 8) (omega arith))

  -- one entry cleared
  pub packed_clear : (i : ℕ) → i < n → at X i ≡ true
      → Packed n (set X i false) d (set s (i / 8) (get_or s (i / 8) 0 - 2 ^ (7 - i % 8)))
  unfolding packed
  packed_clear i h e = record {
    long = length-set X i false ∙ P.long;
    room = P.room;
    is = rw P.is (clear_is (at X) (at (set X i false)) i
        (record {
          was = e;
          now_not = get_or-set_same X i false false (omega (arith, P.long));
          other =
              λ j f. get_or-set_other X i j false false f;
        }) (bytes_for n) d P.room (omega arith));
  }

-- the table is the only one
pub packed_unique : {n : ℕ} {X Y : List Bool} {d e s : List ℕ} → Packed n X d s → Packed n Y e s → X ≡ Y
packed_unique {n} {X} {Y} P Q = ext_get_or false X Y (P.long ∙ sym Q.long)
    (λ i h. sym (packed_bit P i (omega (arith, P.long))) ∙ packed_bit Q i (omega (arith, P.long)))

-- clearing an entry that is set
pub ones_clear : (X : List Bool) (i : ℕ) → at X i ≡ true → ones X ≡ suc (ones (set X i false))
unfolding ones
ones_clear [] i e = let z : ◌≡◌ {A = ℕ} 0 1 = cc in absurd (omega arith)
ones_clear (true ∷ X) zero e = refl
ones_clear (false ∷ X) zero e = let z : ◌≡◌ {A = ℕ} 0 1 = cc in absurd (omega arith)
ones_clear (true ∷ X) (suc i) e = ap suc (ones_clear X i e)
ones_clear (false ∷ X) (suc i) e = ones_clear X i e

-- counting: what is left to count
pub ones_drop : (X : List Bool) (i : ℕ) → i < length X → ones (drop i X) ≡ num (at X i) + ones (drop (i + 1) X)
unfolding ones
ones_drop X i h = rw (add-one, drop-cons X i false h) (go (at X i) (drop (suc i) X))
  where
    go : (b : Bool) (Y : List Bool) → ones (b ∷ Y) ≡ num b + ones Y
    go true Y = omega arith
    go false Y = omega arith

pub ones_past : (X : List Bool) (i : ℕ) → length X ≤ i → ones (drop i X) ≡ 0
unfolding ones
ones_past X i h = rw (drop_of_length-le X h)

-- a copy of a bitmap over d
pub packed_copy : (n : ℕ) (X : List Bool) (k d : List ℕ) → bytes_for n ≤ length d → k ≡ packed n X k
    → written (λ i. get_or k i 0) (bytes_for n) d ≡ packed n X d
unfolding packed
packed_copy n X k d h e = written_same (λ i. get_or k i 0) (byte_of (at X)) (bytes_for n) d h
    (λ i l. ap (λ (y : List ℕ). get_or y i 0) e ∙ written_at (byte_of (at X)) (bytes_for n) k i l)

-- over itself
pub packed_self : {n : ℕ} {X : List Bool} {d s : List ℕ} → Packed n X d s → Packed n X s s
unfolding packed
packed_self {n} {X} {d} {s} P = record {
  long = P.long;
  room = omega (arith, packed_length P, P.room);
  is = written_is (byte_of (at X)) (bytes_for n) s s (omega (arith, packed_length P, P.room)) refl
      (λ i l. ap (λ (y : List ℕ). get_or y i 0) P.is ∙ written_at (byte_of (at X)) (bytes_for n) d i l) (λ i l. refl);
}

pub packed_same : (n : ℕ) (X : List Bool) (k : List ℕ) (Y : List Bool) (d : List ℕ) → length Y ≡ n → bytes_for n ≤ length d
    → k ≡ packed n X d → packed n Y k ≡ packed n Y d
unfolding packed
packed_same n X k Y d h l e = written_is (byte_of (at Y)) (bytes_for n) (written (byte_of (at Y)) (bytes_for n) k) d l
    (written_length (byte_of (at Y)) (bytes_for n) k (omega (arith, sized)) ∙ sized)
    (written_at (byte_of (at Y)) (bytes_for n) k) (λ i q. written_past (byte_of (at Y)) (bytes_for n) k i q
    ∙ ap (λ (y : List ℕ). get_or y i 0) e ∙ written_past (byte_of (at X)) (bytes_for n) d i q)
  where
    sized : length k ≡ length d
    sized = ap length e ∙ written_length (byte_of (at X)) (bytes_for n) d l
