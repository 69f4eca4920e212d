-- Laws of the test of a safe state.
use mathlib.Core.Path.{◌≡◌, refl, sym, subst, ap, ◌∙◌}
use mathlib.Core.Bool.{Bool, true, false, not, ◌&&◌, ◌||◌}
use mathlib.Core.List.{List}
use Prim.Native.Nat.{ℕ, zero, suc, ◌+◌, ◌*◌, ◌<◌}
use native.Mathlib.Numerals.{add-one}
use lib.Dec.{T}
use lib.ListN.{get_or}
use Rattle.systems.specs.Bools.{T_true, any_intro, all_same, any_same, stays_same, lands_same}
use Rattle.systems.specs.Tests.{all, any, ◌⇒◌, at}
use Rattle.systems.specs.Definitions.{Signature}
use Rattle.systems.specs.Finite.{FiniteSystem, input_stays, own_lands, safe_test}
use Rattle.bitmaps.specs.Bits.{bit_at}
use Rattle.move_tables.specs.Moves.{decode, Encoded, Bounded}
use Rattle.move_tables.specs.MoveLaws.{decode_inside}
use Rattle.bitmaps.specs.PackedLaws.{packed_bit}
use Rattle.bitmaps.specs.Packed.{Packed}
use Rattle.clocks_safe.specs.Test.{input_passes, own_passes, decides, input_at, own_at, inputs_stay, own_stays, passes, decides_at, some_decides}

-- the code looks for a step that decides
module _ (m : List ℕ) (inputs : List Bool) (steps : ℕ) (p : ℕ → Bool) (s : ℕ) where
  -- the inputs stay exactly where none decides
  inputs_none : (c : ℕ) → all c (input_at m inputs steps p s) ≡ not (any c (decides_at m inputs steps p s false))
  unfolding all any decides_at decides input_at
  inputs_none zero = refl
  inputs_none (suc c) = rw (inputs_none c) (both (input_at m inputs steps p s c) (any c (decides_at m inputs steps p s false)))
    where
      both : (a b : Bool) → (a && not b) ≡ not (not a || b)
      both true b = refl
      both false b = refl

  pub input_decides : some_decides m inputs steps p s false ≡ true → passes m inputs steps p s ≡ false
  unfolding passes inputs_stay some_decides
  input_decides e = rw (inputs_none steps, e)

  pub own_decides : some_decides m inputs steps p s false ≡ false → passes m inputs steps p s ≡ some_decides m inputs steps p s true
  unfolding passes inputs_stay own_stays some_decides decides_at decides own_at
  own_decides e = rw (inputs_none steps, e)

-- the laws of a loop over steps
pub any_none : (p : ℕ → Bool) → any 0 p ≡ false
unfolding any
any_none p = refl

pub any_more : (p : ℕ → Bool) (c : ℕ) → any c p ≡ false → p c ≡ false → any (c + 1) p ≡ false
unfolding any
any_more p c e f = rw (add-one, f, e)

pub any_hits : (p : ℕ → Bool) (c n : ℕ) → c < n → p c ≡ true → any n p ≡ true
any_hits p c n h e = T_true (any n p) (any_intro n p c h (subst T (sym e) tt))

-- the slices' test is the system's
module _ {A : Signature} {L : FiniteSystem A} {m d keep : List ℕ} {inputs X : List Bool} {n steps : ℕ}
    (E : Encoded A L m inputs n steps) (B : Bounded n steps m) (P : Packed n X d keep) (s : ℕ) (h : s < n) where
  input_is : (c : ℕ) → c < steps → input_at m inputs steps (bit_at keep) s c ≡ input_stays L X s c
  unfolding input_at input_passes input_stays
  input_is c l = rw (E.input c l, E.moves.move s c h l) (ap (λ (b : Bool). get_or inputs c false ⇒ b)
      (stays_same (bit_at keep) (at X) (decode (get_or m (s * steps + c) 0))
      (λ t e. packed_bit P t (decode_inside B s c t h l e))))

  own_is : (c : ℕ) → c < steps → own_at m inputs steps (bit_at keep) s c ≡ own_lands L X s c
  unfolding own_at own_passes own_lands
  own_is c l = rw (E.input c l, E.moves.move s c h l) (ap (λ (b : Bool). not (get_or inputs c false) && b)
      (lands_same (bit_at keep) (at X) (decode (get_or m (s * steps + c) 0))
      (λ t e. packed_bit P t (decode_inside B s c t h l e))))

  pub passes_is : passes m inputs steps (bit_at keep) s ≡ safe_test L X s
  unfolding passes inputs_stay own_stays safe_test
  passes_is =
      let a : all steps (input_at m inputs steps (bit_at keep) s) ≡ all (suc A.channels) (input_stays L X s) =
      all_same steps (input_at m inputs steps (bit_at keep) s) (input_stays L X s) input_is
      ∙ ap (λ (k : ℕ). all k (input_stays L X s)) E.known in
      let b : any steps (own_at m inputs steps (bit_at keep) s) ≡ any (suc A.channels) (own_lands L X s) =
      any_same steps (own_at m inputs steps (bit_at keep) s) (own_lands L X s) own_is
      ∙ ap (λ (k : ℕ). any k (own_lands L X s)) E.known in
      rw (a, b)
