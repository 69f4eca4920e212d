-- Laws of rows to which classes are joined.
use mathlib.Core.Path.{◌≡◌, refl, sym, ap, ◌∙◌}
use mathlib.Core.Logic.{◌⊎◌, inl, inr, ⊎_elim}
use mathlib.Core.Bool.{Bool, true, false, ◌&&◌, ◌||◌}
use mathlib.Core.List.{List}
use Prim.Native.Nat.{ℕ, ◌+◌, ◌-◌, ◌/◌, ◌≤◌, ◌<◌}
use native.Mathlib.Decide.{ℕ_discrete}
use native.Mathlib.Omega.{arith}
use lib.Bits.{bit_or}
use lib.ListN.{get_or}
use Rattle.limits.specs.Limits.{state_limit}
use Rattle.bitmaps.specs.Bits.{bit_at}
use Rattle.bitmaps.specs.BitLaws.{less}
use Rattle.bitmaps.specs.Packed.{bytes_for}
use Rattle.tables_ranges.specs.Cut.{Cut, from_bit}
use Rattle.tables_ranges.specs.CutLaws.{cut_same}
use Rattle.tables_runs.specs.Runs.{goes, landing}
use Rattle.tables_runs.specs.RunsLaws.{landing_none, landing_some, zero_byte}
use Rattle.tables_shifts.specs.Shifts.{mask_at, first_of, end_of, target_of, in_class, Class, Classed}
use Rattle.tables_shifts.specs.Placing.{Filled}
use Rattle.tables_shifts.proofs.Bits.{false_true, mask_bit, or_bits, or_false, or_left, or_true, same_bit}

-- a class joined to a row: f, e and g are its numbers, `part` is its mask, `cut` what the source leaves of it
module _ {m : List ℕ} {w steps : ℕ} {classes masks : List ℕ} {c i : ℕ}
    (source : List ℕ) {k k' old part cut : List ℕ} {f e g : ℕ}
    (C : Class m w steps classes masks c i w) (hw : w ≤ state_limit)
    (at_first : f ≡ first_of classes c i) (at_end : e ≡ end_of classes c i) (at_target : g ≡ target_of classes c i)
    (M : Filled (λ (j : ℕ). get_or masks (mask_at w c i + j) 0) (f / 8) (bytes_for e) old part)
    (Q : Cut f e (from_bit source f g) part cut)
    (J : Filled (λ (j : ℕ). bit_or (get_or k j 0) (get_or cut j 0)) (f / 8) (bytes_for e) k k') where
  -- a state of the class
  member : (t : ℕ) → t < w → in_class masks w c i t ≡ true
      → (f ≤ t) × ((t < e) × (from_bit source f g t ≡ landing source m steps c t))
  unfolding from_bit
  member t h b = let s = C.states t h b in
      let there : goes m steps c t ≡ g + (t - f) = rw (at_first, at_target) s.1.1 in
      let fits = C.fits in (
        omega (arith, s.0),
        (
          omega (arith, s.1.0),
          sym (landing_some source m steps c t (λ z. omega (arith, s.0, s.1.0)) ∙ ap (bit_at source) there),
        ),
      )

  pub join_bit : (t : ℕ) → t < w → bit_at k' t ≡ (bit_at k t ||
      (in_class masks w c i t && landing source m steps c t))
  join_bit t h = go (in_class masks w c i t) refl
    where
      here : f / 8 ≤ t / 8 → t / 8 < bytes_for e → bit_at part t ≡ in_class masks w c i t
      here l n = mask_bit masks part (mask_at w c i) t (M.is (t / 8) l n)

      away : (t < f) ⊎ (e ≤ t) → in_class masks w c i t ≡ false → bit_at k' t ≡ bit_at k t
      away o b = ⊎_elim (λ l. same_bit k k' t (J.only.same (t / 8) (inl l)))
          (λ l. ⊎_elim
          (λ n. or_bits k k' cut t (J.is (t / 8) l n)
          ∙ ap (λ (x : Bool). bit_at k t || x) (Q.outside t o ∙ here l n ∙ b) ∙ or_false (bit_at k t))
          (λ n. same_bit k k' t (J.only.same (t / 8) (inr n))) (less (t / 8) (bytes_for e))) (less (t / 8) (f / 8))

      inside : f ≤ t → t < e → bit_at k' t ≡ (bit_at k t || (in_class masks w c i t && from_bit source f g t))
      inside l n = or_bits k k' cut t (J.is (t / 8) (omega arith) (omega arith))
          ∙ ap (λ (x : Bool). bit_at k t || x) (Q.inside t l n
          ∙ ap (λ (x : Bool). x && from_bit source f g t) (here (omega arith) (omega arith)))

      go : (b : Bool) → in_class masks w c i t ≡ b → bit_at k' t ≡ (bit_at k t || (b && landing source m steps c t))
      go true b = let s = member t h b in inside s.0 s.1.0
          ∙ ap (λ (x : Bool). bit_at k t || (x && from_bit source f g t)) b ∙ ap (λ (x : Bool). bit_at k t || x)
          s.1.1
      go false b = ⊎_elim (λ l. away (inl l) b) (λ l. ⊎_elim
          (λ n. inside l n ∙ ap (λ (x : Bool). bit_at k t || (x && from_bit source f g t)) b ∙ or_false (bit_at k t))
          (λ n. away (inr n) b) (less t e)) (less t f) ∙ sym (or_false (bit_at k t))

-- what i classes have joined: nothing but states that land in the source, and all those of the classes
pub record Landed (source m : List ℕ) (w steps : ℕ) (masks : List ℕ) (c i : ℕ) (k : List ℕ) : Type 0 where
  pub sound : (t : ℕ) → t < w → bit_at k t ≡ true → landing source m steps c t ≡ true
  pub whole : (t j : ℕ) → t < w → j < i → in_class masks w c j t ≡ true → landing source m steps c t ≡ true
      → bit_at k t ≡ true

module _ {source m : List ℕ} {w steps : ℕ} {masks : List ℕ} {c : ℕ} where
  pub landed_none : {k : List ℕ} → ((j : ℕ) → get_or k j 0 ≡ 0) → Landed source m w steps masks c 0 k
  landed_none {k} z = record {
    sound = λ t h e. false_true (sym (zero_byte k (t / 8) (z (t / 8)) t refl) ∙ e);
    whole = λ t j h l. absurd (omega arith);
  }

  pub landed_more : {i : ℕ} {k k' : List ℕ}
      → ((t : ℕ) → t < w → bit_at k' t ≡ (bit_at k t || (in_class masks w c i t && landing source m steps c t)))
      → Landed source m w steps masks c i k → Landed source m w steps masks c (i + 1) k'
  landed_more {i} {k} {k'} f L = record {
    sound = λ t h e. go (bit_at k t) (in_class masks w c i t) (landing source m steps c t) (L.sound t h) (sym
        (f t h) ∙ e);
    whole = λ t j h l b e. f t h ∙ elim (ℕ_discrete j i) [
      | yes q ↦ or_true (bit_at k t) _ (ap (λ (x : Bool). x && landing source m steps c t) (rw q at b) ∙ e)
      | no q ↦ or_left (bit_at k t) _ (L.whole t j h (⊎_elim (λ a. a) (λ a. absurd (q (omega arith)))
          (less j i)) b e)
    ];
  }
    where
      go : (x y z : Bool) → (x ≡ true → z ≡ true) → (x || (y && z)) ≡ true → z ≡ true
      go true y z g e = g refl
      go false true z g e = e
      go false false z g e = false_true e

  landed_all : {classes : List ℕ} {n : ℕ} {k : List ℕ} → Classed m w steps classes masks c n w
      → Landed source m w steps masks c n k → (t : ℕ) → t < w → bit_at k t ≡ landing source m steps c t
  landed_all {classes} {n} {k} C L t h = go (landing source m steps c t) refl (bit_at k t) refl
    where
      go : (x : Bool) → landing source m steps c t ≡ x → (y : Bool) → bit_at k t ≡ y → y ≡ x
      go true e y f = let r = C.all t h (λ z. false_true (sym (landing_none source m steps c t z) ∙ e)) in
          sym f ∙ L.whole t r.0 h r.1.0 r.1.1 e
      go false e true f = sym (L.sound t h f) ∙ e
      go false e false f = refl

  -- a row cut by what all classes have joined
  pub landed_cut : {classes : List ℕ} {n : ℕ} {k row row' : List ℕ} → Classed m w steps classes masks c n w
      → Landed source m w steps masks c n k → Cut 0 w (from_bit k 0 0) row row'
      → Cut 0 w (landing source m steps c) row row'
  unfolding from_bit
  landed_cut {k = k} C L = cut_same (λ t l h. let e : 0 + (t - 0) ≡ t = omega arith in ap (bit_at k) e
      ∙ landed_all C L t h)
