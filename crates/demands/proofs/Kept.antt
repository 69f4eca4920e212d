-- The keep slice with the computed safe states written in front holds the left's safe states.
use Rattle.std.specs.Prelude.{◌≡◌, Bool, false, List, ℕ, ◌/◌, ◌≤◌, ◌<◌, T, ltb, length, drop}
use Rattle.std.proofs.Common.{sym, subst, ◌∙◌, arith, drop_at, ltb-false}
use Rattle.std.proofs.Math.ListN.{get_or-eq_default}
use Rattle.systems.specs.Tests.{at, table}
use Rattle.systems.specs.Definitions.{Signature, System, LargestSafeSet}
use Rattle.systems.specs.Finite.{FiniteSystem, Capping, safe_states, safe_test}
use Rattle.systems.proofs.Theorems.{safe_states_largest}
use Rattle.bitmaps.specs.Bits.{bit_at, byte_of, tab_from, written}
use Rattle.bitmaps.specs.BitLaws.{bit_of, length_tab, written_at, written_length}
use Rattle.systems.proofs.Sieve.{length_table, length_stage}
use Rattle.bitmaps.specs.Packed.{bytes_for, packed}
use Rattle.demands.specs.Words.{Keeps}
use Rattle.demands.proofs.Same.{same_safe}

-- bytes that are written in front keep the length and what follows
packed_long : (n : ℕ) (X : List Bool) (d : List ℕ) → bytes_for n ≤ length d → length (packed n X d) ≡ length d
unfolding packed
packed_long n X d h = written_length (byte_of (at X)) (bytes_for n) d h

packed_rest : (n : ℕ) (X : List Bool) (d : List ℕ) → drop (bytes_for n) (packed n X d) ≡ drop (bytes_for n) d
unfolding packed written
packed_rest n X d = drop_at (tab_from (byte_of (at X)) 0 (bytes_for n)) (drop (bytes_for n) d) (bytes_for n)
    (length_tab (byte_of (at X)) 0 (bytes_for n))

pub packed_byte : (n : ℕ) (X : List Bool) (d : List ℕ) (i : ℕ) → i / 8 < bytes_for n → bit_at (packed n X d) i ≡ at X i
unfolding packed
packed_byte n X d i h = bit_of (at X) (written (byte_of (at X)) (bytes_for n) d) i
    (written_at (byte_of (at X)) (bytes_for n) d (i / 8) h)

pub safe_length : {A : Signature} (L : FiniteSystem A) → length (safe_states L) ≡ L.size
unfolding safe_states
safe_length L =
    length_stage (safe_test L) (table L.size L.holds) L.size ∙ length_table L.size L.holds

pub keeps : {A : Signature} {M : System A} {L : FiniteSystem A} (C : Capping M L) (S : M.State → Type 0)
    → LargestSafeSet M S → (keep : List ℕ) → ltb (length keep) (bytes_for L.size) ≡ false
    → Keeps L.size C.cap S keep (packed L.size (safe_states L) keep)
keeps {L} C S p keep f =
    let room : bytes_for L.size ≤ length keep = ltb-false (length keep) (bytes_for L.size) f in
    let bit : (i : ℕ) → i / 8 < bytes_for L.size → bit_at (packed L.size (safe_states L) keep) i
    ≡ at (safe_states L) i = packed_byte L.size (safe_states L) keep in
    record {
      safe_bits = λ x h.
          let q = bit (C.cap x) (omega arith) in
          let i = same_safe (safe_states_largest C) p x in
          (λ t. i.0 (subst T q t), λ t. subst T (sym q) (i.1 t));
      spare_bits = λ i h l. bit i (omega arith)
          ∙ get_or-eq_default (safe_states L) false (omega (arith, safe_length L));
      long = packed_long L.size (safe_states L) keep room;
      rest = packed_rest L.size (safe_states L) keep;
    }
