-- Laws of cutting.
use Rattle.std.specs.Prelude.{◌≡◌, refl, Bool, true, false, ◌&&◌, List, ℕ, ◌≤◌, ◌<◌, get_or}
use Rattle.std.proofs.Common.{sym, ap, ◌∙◌, inl, inr, ⊎_elim, le_refl, arith}
use Rattle.bitmaps.specs.Bits.{bit_at}
use Rattle.bitmaps.specs.BitLaws.{less}
use Rattle.tables_ranges.specs.Cut.{Cut}

pub and_true : (b : Bool) → (b && true) ≡ b
and_true true = refl
and_true false = refl

-- a row that is left alone, since each bit of the range is as it is to be
kept : {a e : ℕ} {P : ℕ → Bool} {k : List ℕ} → ((i : ℕ) → a ≤ i → i < e → bit_at k i ≡ (bit_at k i && P i))
    → Cut a e P k k
kept {k = k} f = record {
  sized = refl;
  inside = f;
  outside = λ i h. refl;
  falls = λ j. le_refl (get_or k j 0);
}

-- an empty range
pub cut_none : (a : ℕ) (P : ℕ → Bool) (k : List ℕ) → Cut a a P k k
cut_none a P k = kept (λ i l h. absurd (omega arith))

-- a range in which all bits pass
pub cut_all : {a e : ℕ} {P : ℕ → Bool} {k : List ℕ} → ((i : ℕ) → a ≤ i → i < e → P i ≡ true) → Cut a e P k k
cut_all {k = k} f = kept (λ i p q. sym (ap (λ (x : Bool). bit_at k i && x) (f i p q) ∙ and_true (bit_at k i)))

-- a range in which no bit is set
pub cut_clear : {a e : ℕ} {P : ℕ → Bool} {k : List ℕ} → ((i : ℕ) → a ≤ i → i < e → bit_at k i ≡ false) → Cut a e P k k
cut_clear f = kept (λ i p q. rw (f i p q))

-- two ranges that meet
pub cut_join : {a b e : ℕ} {P : ℕ → Bool} {k k₁ k₂ : List ℕ} → a ≤ b → b ≤ e → Cut a b P k k₁ → Cut b e P k₁ k₂
    → Cut a e P k k₂
cut_join {a} {b} {e} {P} l m C D = record {
  sized = D.sized ∙ C.sized;
  inside = λ i p q. ⊎_elim
      (λ h. D.outside i (inl h) ∙ C.inside i p h)
      (λ h. D.inside i h q ∙ ap (λ (x : Bool). x && P i) (C.outside i (inr h))) (less i b);
  outside = λ i h. ⊎_elim
      (λ p. D.outside i (inl (omega arith)) ∙ C.outside i (inl p))
      (λ p. D.outside i (inr p) ∙ C.outside i (inr (omega arith))) h;
  falls = λ j. omega (arith, C.falls j, D.falls j);
}

-- two tests that agree on the range
pub cut_same : {a e : ℕ} {P Q : ℕ → Bool} {k k' : List ℕ} → ((i : ℕ) → a ≤ i → i < e → P i ≡ Q i) → Cut a e P k k'
    → Cut a e Q k k'
cut_same {k = k} f C = record {
  sized = C.sized;
  inside = λ i p q. C.inside i p q ∙ ap (λ (x : Bool). bit_at k i && x) (f i p q);
  outside = C.outside;
  falls = C.falls;
}
