-- Laws of the sweeps: what a visit of a state leaves.
use mathlib.Core.Path.{◌≡◌, sym, subst, ap, ◌∙◌}
use mathlib.Core.Logic.{inl, inr, ⊎_elim, ◌≢◌}
use mathlib.Core.Bool.{Bool, true, false, not}
use mathlib.Core.List.{List}
use Prim.Native.Nat.{ℕ, ◌-◌, ◌/◌, ◌%◌, ◌^◌, ◌≤◌, ◌<◌}
use native.Mathlib.Decide.{ℕ_discrete}
use native.Mathlib.Omega.{arith}
use lib.Dec.{T}
use lib.ListN.{length, get_or, set, get_or-eq_default}
use lib.Seq.{get_or-set_other}
use Rattle.systems.specs.Bools.{T_true}
use Rattle.systems.specs.Tests.{at, ones, table, stage}
use Rattle.systems.proofs.Sieve.{ones_table, Between, between_start, between_clear, between_done, length_table, length_stage, same_table}
use Rattle.systems.specs.Finite.{safe_test, safe_states}
use Rattle.systems.proofs.Safe.{safe_rule}
use Rattle.bitmaps.specs.Bits.{bit_at, written}
use Rattle.bitmaps.specs.BitLaws.{less}
use Rattle.bitmaps.specs.PackedLaws.{packed_copy, packed_self, packed_same, packed_bit, packed_clear, packed_unique, ones_clear}
use Rattle.move_tables.specs.Moves.{Bounded}
use Rattle.bitmaps.specs.Packed.{Count, Bitmap, Packed, packed, bytes_for, Counted}
use Rattle.clocks_safe.specs.Test.{passes}
use Rattle.clocks_safe.specs.Settle.{Visited, Settled, Held, Swept, SafeAnswer}
use Rattle.clocks_safe.proofs.TestLaws.{passes_is}

module _ {m : List ℕ} {inputs : List Bool} {n steps : ℕ} (B : Bounded n steps m) where
  pub held_start : {k : List ℕ} {count : ℕ} → Counted n k count → Held m inputs n steps k k count
  held_start {k} {count} C = record {
    entries = C.entries;
    is = C.is;
    count_is = C.count_is;
    between = λ A L E S.
        let same : table n L.holds ≡ C.entries =
        packed_unique (record { long = length_table n L.holds; room = C.is.room; is = S }) C.is in
        subst (λ (Y : List Bool). Between (safe_rule L) (table n L.holds) Y) same
        (between_start (safe_rule L) (table n L.holds) (table n L.holds));
  }

  module _ {k₀ k : List ℕ} {count : ℕ} (H : Held m inputs n steps k₀ k count) (s : ℕ) (h : s < n) where
    was_set : bit_at k s ≡ true → at H.entries s ≡ true
    was_set e = sym (packed_bit H.is s h) ∙ e

    pub visit_count : {k' : List ℕ} {r : ℕ} → Visited m inputs steps k s k' r → (r ≤ count) × (r ≤ 1)
    visit_count (inl (a, b, c)) = (omega arith, omega arith)
    visit_count (inr (a, b, c, d)) = (omega (arith, ones_clear H.entries s (was_set c), H.count_is), omega arith)

    clear_held : bit_at k s ≡ true → passes m inputs steps (bit_at k) s ≡ false
        → Held m inputs n steps k₀ (set k (s / 8) (get_or k (s / 8) 0 - 2 ^ (7 - s % 8))) (count - 1)
    clear_held e f = record {
      entries = set H.entries s false;
      is = packed_clear H.is s h (was_set e);
      count_is = omega (arith, ones_clear H.entries s (was_set e), H.count_is);
      between = λ A L E S.
          between_clear (safe_rule L) (table n L.holds) H.entries (set H.entries s false) s
          (H.between A L E S)
          (subst (λ (b : Bool). T (not b)) (sym f ∙ passes_is E B H.is s h) tt)
          (λ j t. elim (ℕ_discrete j s) [
            | yes q ↦ subst (λ (x : ℕ). T (at H.entries x)) (sym q)
                (subst T (sym (was_set e)) tt)
            | no q ↦ subst T (get_or-set_other H.entries s j false false q) t
          ])
          (λ j q t. subst T (sym (get_or-set_other H.entries s j false false q)) t);
    }

    pub visit_held : {k' : List ℕ} {r : ℕ} → Visited m inputs steps k s k' r → Held m inputs n steps k₀ k' (count - r)
    visit_held {k'} {r} (inl (a, b, c)) = let e : count - r ≡ count = omega arith in rw (e, b) H
    visit_held {k'} {r} (inr (a, b, c, d)) = rw (a, b) (clear_held c d)

  -- nothing more fails
  pub held_done : {k₀ k : List ℕ} {count : ℕ} → Held m inputs n steps k₀ k count
      → ((i : ℕ) → i < n → bit_at k i ≡ true → passes m inputs steps (bit_at k) i ≡ true)
      → Settled m inputs n steps k₀ k count
  unfolding safe_states
  held_done {k₀} {k} {count} H all A L E S =
      let X = H.entries in
      let last = stage (safe_test L) (table n L.holds) n in
      let meets : (i : ℕ) → T (at X i) → T (safe_test L X i) =
      λ i t. ⊎_elim (λ l. subst T (sym (all i l (packed_bit H.is i l ∙ T_true (at X i) t))
      ∙ passes_is E B H.is i l) tt) (λ l. absurd
      (subst T (get_or-eq_default X false (omega (arith, H.is.long))) t)) (less i n) in
      let same : X ≡ last = same_table X last (H.is.long
      ∙ sym (length_stage (safe_test L) (table n L.holds) n ∙ length_table n L.holds))
      (between_done (safe_rule L) (table n L.holds) X (H.between A L E S) meets n (ones_table n L.holds)) in
      let sized : last ≡ stage (safe_test L) (table L.size L.holds) L.size =
      ap (λ (k : ℕ). stage (safe_test L) (table k L.holds) k) (sym E.size) in
      (H.is.is ∙ ap (λ (Y : List Bool). packed n Y k₀) (same ∙ sized), sym H.count_is ∙ ap ones (same ∙ sized))

pub visit_swept : (m : List ℕ) (inputs : List Bool) (n steps : ℕ) {k k' : List ℕ} {r : ℕ} (s : ℕ)
    → Visited m inputs steps k (s - 1) k' r → r ≡ 0 → 0 < s → Swept m inputs n steps k s
    → Swept m inputs n steps k' (s - 1)
visit_swept m inputs n steps {k} {k'} {r} s (inl (a, b, c)) e h S =
    rw b (λ i l q t. elim (ℕ_discrete i (s - 1)) [
      | yes f ↦ subst (λ (x : ℕ). passes m inputs steps (bit_at k) x ≡ true)
          (sym f) (c (ap (bit_at k) (sym f) ∙ t))
      | no f ↦ S i (later i l f) q t
    ])
  where
    later : (i : ℕ) → s - 1 ≤ i → i ≢ s - 1 → s ≤ i
    later i l f = ⊎_elim (λ x. absurd (f (omega arith))) (λ x. x) (less i s)
visit_swept m inputs n steps s (inr (a, b, c, d)) e h S = absurd (omega arith)

module _ {holds k₁ : List ℕ} {n : ℕ} (k₀ : List ℕ) (H : Bitmap n holds) (h : bytes_for n ≤ length k₀)
    (e : k₁ ≡ written (λ i. get_or holds i 0) (bytes_for n) k₀) where
  copied : Packed n H.entries k₀ k₁
  copied = record { long = H.is.long; room = h; is = e ∙ packed_copy n H.entries holds k₀ h H.is.is }

  pub copied_counted : {r : ℕ} → Count n k₁ r → Counted n k₁ r
  copied_counted C = record { entries = H.entries; is = packed_self copied; count_is = sym (C H.entries k₀ copied) }

  pub safe_answered : (m : List ℕ) (inputs : List Bool) {steps r : ℕ} {k : List ℕ} → Settled m inputs n steps k₁ k r
      → SafeAnswer holds m inputs n steps k₀ k r
  unfolding safe_states
  safe_answered m inputs S A L E W =
      let f : k₁ ≡ packed n (table n L.holds) k₀ = e ∙ packed_copy n (table n L.holds) holds k₀ h W in
      let g = packed_self (record { long = length_table n L.holds; room = h; is = f }) in
      let (a, b) = S A L E g.is in (
        a ∙ packed_same n (table n L.holds) k₁ (safe_states L) k₀
            (length_stage (safe_test L) (table L.size L.holds) L.size ∙ length_table L.size L.holds
            ∙ E.size) h f,
        b,
      )
