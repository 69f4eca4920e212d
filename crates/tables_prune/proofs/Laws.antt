-- Laws of pruning: entry by entry, and that a table pruned entry by entry is `Pruned`.
use mathlib.Core.Path.{◌≡◌, refl, sym, subst, ap, ◌∙◌}
use mathlib.Core.Logic.{◌⊎◌, inl, inr, ⊎_elim}
use mathlib.Core.Bool.{Bool, true, false}
use mathlib.Core.List.{List}
use Prim.Native.Nat.{ℕ, ◌+◌, ◌*◌, ◌/◌, ◌%◌, ◌≤◌, ◌<◌}
use native.Mathlib.Nat.{div-add-mod', mod-lt, div-lt_iff_lt-mul}
use native.Mathlib.Omega.{arith}
use lib.Arith.{digits_lt}
use borrow.Author.Tests.{eq-eqb, ne_eqb}
use lib.ListN.{get_or}
use Rattle.systems.specs.Tests.{at}
use Rattle.systems.specs.Definitions.{Signature}
use Rattle.systems.specs.Finite.{FiniteSystem, safe_states, pruned, if_in}
use Rattle.bitmaps.specs.Bits.{bit_at, written}
use Rattle.bitmaps.specs.BitLaws.{written_at, written_length, less}
use Rattle.move_tables.specs.MoveLaws.{target, decode_none, decode_some}
use Rattle.bitmaps.specs.PackedLaws.{packed_bit}
use Rattle.move_tables.specs.Moves.{decode, Bounded, Encodes, no_move}
use Rattle.bitmaps.specs.Packed.{Packed}
use Rattle.tables_prune.specs.Prune.{kept_of, Pruned}

module _ (p : ℕ → Bool) (t : ℕ) where
  pub kept_none : t ≡ no_move → kept_of p t ≡ no_move
  unfolding kept_of
  kept_none e = rw (eq-eqb t no_move e)

  pub kept_in : (t ≡ no_move → ⊥) → p t ≡ true → kept_of p t ≡ t
  unfolding kept_of
  kept_in n e = rw (ne_eqb t no_move n, e)

  pub kept_out : (t ≡ no_move → ⊥) → p t ≡ false → kept_of p t ≡ no_move
  unfolding kept_of
  kept_out n e = rw (ne_eqb t no_move n, e)

module _ {n steps : ℕ} {m : List ℕ} (B : Bounded n steps m) (keep : List ℕ) where
  after : List ℕ
  after = written (λ i. kept_of (bit_at keep) (get_or m i 0)) (n * steps) m

  after_at : (s c : ℕ) → s < n → c < steps → get_or after (s * steps + c) 0
      ≡ kept_of (bit_at keep) (get_or m (s * steps + c) 0)
  unfolding after
  after_at s c h k = written_at (λ i. kept_of (bit_at keep) (get_or m i 0)) (n * steps) m (s * steps + c) (digits_lt h k)

  inside : (s c : ℕ) → s < n → c < steps → (b : Bool) → bit_at keep (get_or m (s * steps + c) 0) ≡ b
      → (get_or after (s * steps + c) 0 ≡ no_move) ⊎ (get_or after (s * steps + c) 0 < n)
  inside s c h k b e =
      ⊎_elim (λ f. inl (after_at s c h k ∙ kept_none (bit_at keep) (get_or m (s * steps + c) 0) f)) (λ l. go b e l)
      (B.inside s c h k)
    where
      go : (b : Bool) → bit_at keep (get_or m (s * steps + c) 0) ≡ b → get_or m (s * steps + c) 0 < n
          → (get_or after (s * steps + c) 0 ≡ no_move) ⊎ (get_or after (s * steps + c) 0 < n)
      go true e l = inr (rw (
        after_at s c h k,
        kept_in (bit_at keep) (get_or m (s * steps + c) 0)
            (λ f. omega (arith, B.few)) e,
      ) l)
      go false e l = inl (after_at s c h k ∙ kept_out (bit_at keep) (get_or m (s * steps + c) 0)
          (λ f. omega (arith, B.few)) e)

  module _ (A : Signature) (L : FiniteSystem A) (E : Encodes L.next n steps m) (s c : ℕ) (h : s < n) (k : c < steps)
    where
      -- a move that was not there
      lost : get_or m (s * steps + c) 0 ≡ no_move → pruned L s c ≡ decode (get_or after (s * steps + c) 0)
      unfolding pruned if_in
      lost f =
          ap (if_in (safe_states L)) (E.move s c h k ∙ decode_none _ f)
          ∙ sym (decode_none _ (after_at s c h k ∙ kept_none (bit_at keep) (get_or m (s * steps + c) 0) f))

      -- a move that was there
      kept : Packed n (safe_states L) keep keep → get_or m (s * steps + c) 0 < n → (b : Bool)
          → bit_at keep (get_or m (s * steps + c) 0) ≡ b
          → pruned L s c ≡ decode (get_or after (s * steps + c) 0)
      unfolding pruned if_in
      kept P l true e =
          let x = get_or m (s * steps + c) 0 in
          let ne : x ≡ no_move → ⊥ = λ f. omega (arith, B.few) in
          let a : at (safe_states L) x ≡ true = sym (packed_bit P x l) ∙ e in
          ap (if_in (safe_states L)) (E.move s c h k ∙ decode_some x ne) ∙ rw a refl
          ∙ sym (ap decode (after_at s c h k ∙ kept_in (bit_at keep) x ne e) ∙ decode_some x ne)
      kept P l false e =
          let x = get_or m (s * steps + c) 0 in
          let ne : x ≡ no_move → ⊥ = λ f. omega (arith, B.few) in
          let a : at (safe_states L) x ≡ false = sym (packed_bit P x l) ∙ e in
          ap (if_in (safe_states L)) (E.move s c h k ∙ decode_some x ne) ∙ rw a refl
          ∙ sym (decode_none _ (after_at s c h k ∙ kept_out (bit_at keep) x ne e))

  pub pruned_is : Pruned n steps keep m (written (λ i. kept_of (bit_at keep) (get_or m i 0)) (n * steps) m)
  unfolding after
  pruned_is = record {
    bounded = record {
      few = B.few;
      short = B.short;
      room = rw (written_length (λ i. kept_of (bit_at keep) (get_or m i 0)) (n * steps) m B.room) B.room;
      inside = λ s c h k. inside s c h k (bit_at keep (get_or m (s * steps + c) 0)) refl;
    };
    encodes = λ A L E P. record {
      move = λ s c h k.
          ⊎_elim (λ f. lost A L E s c h k f) (λ l. kept A L E s c h k P l (bit_at keep (get_or m (s * steps + c) 0)) refl)
          (B.inside s c h k);
    };
  }

-- an entry by its place alone
pub entry_in : {n steps : ℕ} {m : List ℕ} → Bounded n steps m → (i : ℕ) → i < n * steps → (get_or m i 0 ≡ no_move → ⊥)
    → get_or m i 0 < n
entry_in {n} {steps} {m} B i h e =
    let z : 0 < steps = ⊎_elim (λ a. a) (λ a. absurd (empty a)) (less 0 steps) in
    let q : i / steps * steps + i % steps ≡ i = div-add-mod' i steps in
    subst (λ (x : ℕ). get_or m x 0 < n) q
    (target B (i / steps) (i % steps) ((div-lt_iff_lt-mul z).1 h) (mod-lt i z)
    (λ f. e (ap (λ (x : ℕ). get_or m x 0) (sym q) ∙ f)))
  where
    empty : steps ≤ 0 → ⊥
    empty a = let w : steps ≡ 0 = omega arith in let q : n * steps ≡ 0 = ap (λ (x : ℕ). n * x) w ∙ omega arith in
        omega arith
