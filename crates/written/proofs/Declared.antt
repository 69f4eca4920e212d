-- The table of names of a written text, slot by slot, and how far it is filled.
use Rattle.std.specs.Prelude.{◌≡◌, Bool, true, false, cond, get_or}
use Rattle.std.proofs.Math.Path.{refl}
use Rattle.std.proofs.Common.{sym, ◌∙◌}
use mathlib.Core.List.{List, []}
use Prim.Native.Nat.{ℕ, suc, ◌+◌, ◌-◌, ◌≤◌, ◌<◌}
use Prim.Native.Char.{Char, code}
use native.Mathlib.Omega.{arith}
use Rattle.std.proofs.Math.Dec.{ltb}
use Rattle.std.proofs.Math.ListN.{length}
use borrow.Author.Tests.{ltb-true, ltb-false, lt-ltb, le-ltb}
use Rattle.limits.specs.Limits.{channel_limit, clock_limit}
use Rattle.reader_parts.specs.Slots.{first_channel, first_clock, first_location}
use Rattle.written.specs.Written.{called, process_called, clock_called, location_called}
use Rattle.written.proofs.Good.{WrittenName, process, clock, location, GoodNames}
use Rattle.written.proofs.Names.{called_letter, called_number}
use Rattle.written.proofs.Slots.{Distinct}

-- one thing for the process's slot, and one for each channel's, clock's and location's by its number
unfoldable pub by_slot : {A : Type 0} → A → (ℕ → A) → (ℕ → A) → (ℕ → A) → ℕ → A
by_slot p c k l n =
    cond (ltb n first_channel) p
    (cond (ltb n first_clock) (c (n - first_channel))
    (cond (ltb n first_location) (k (n - first_clock)) (l (n - first_location))))

-- whose slot it is
data Which : ℕ → Type 0 where
  of_process : Which 0
  of_channel : (i : ℕ) → i < channel_limit → Which (first_channel + i)
  of_clock : (i : ℕ) → i < clock_limit → Which (first_clock + i)
  of_location : (i : ℕ) → Which (first_location + i)

which : (n : ℕ) → Which n
which n = by (ltb n first_channel) refl (ltb n first_clock) refl (ltb n first_location) refl
  where
    by : (a : Bool) → ltb n first_channel ≡ a → (b : Bool) → ltb n first_clock ≡ b → (c : Bool)
        → ltb n first_location ≡ c → Which n
    by true p b q c r = let e : 0 ≡ n = omega (arith, ltb-true n first_channel p) in rw e at of_process
    by false p true q c r =
        let h : first_channel ≤ n = ltb-false n first_channel p in
        let l : n < first_clock = ltb-true n first_clock q in
        let e : first_channel + (n - first_channel) ≡ n = omega arith in
        rw e at (of_channel (n - first_channel) (omega arith))
    by false p false q true r =
        let h : first_clock ≤ n = ltb-false n first_clock q in
        let l : n < first_location = ltb-true n first_location r in
        let e : first_clock + (n - first_clock) ≡ n = omega arith in
        rw e at (of_clock (n - first_clock) (omega arith))
    by false p false q false r =
        let h : first_location ≤ n = ltb-false n first_location r in
        let e : first_location + (n - first_location) ≡ n = omega arith in
        rw e at (of_location (n - first_location))

module _ {A : Type 0} (p : A) (c k l : ℕ → A) where
  at_process : by_slot p c k l 0 ≡ p
  unfolding by_slot
  at_process = refl

  at_channel : (i : ℕ) → i < channel_limit → by_slot p c k l (first_channel + i) ≡ c i
  unfolding by_slot
  at_channel i h =
      let e : (first_channel + i) - first_channel ≡ i = omega arith in
      rw (
        le-ltb (first_channel + i) first_channel (omega arith),
        lt-ltb (first_channel + i) first_clock (omega arith),
        e,
      )

  at_clock : (i : ℕ) → i < clock_limit → by_slot p c k l (first_clock + i) ≡ k i
  unfolding by_slot
  at_clock i h =
      let e : (first_clock + i) - first_clock ≡ i = omega arith in
      rw (
        le-ltb (first_clock + i) first_channel (omega arith),
        le-ltb (first_clock + i) first_clock (omega arith),
        lt-ltb (first_clock + i) first_location (omega arith),
        e,
      )

  at_location : (i : ℕ) → by_slot p c k l (first_location + i) ≡ l i
  unfolding by_slot
  at_location i =
      let e : (first_location + i) - first_location ≡ i = omega arith in
      rw (
        le-ltb (first_location + i) first_channel (omega arith),
        le-ltb (first_location + i) first_clock (omega arith),
        le-ltb (first_location + i) first_location (omega arith),
        e,
      )

-- what is the same in the slot n
by_slot_same : {A : Type 0} {p p' : A} {c c' k k' l l' : ℕ → A} (n : ℕ) → (n ≡ 0 → p ≡ p')
    → ((i : ℕ) → n ≡ first_channel + i → c i ≡ c' i) → ((i : ℕ) → n ≡ first_clock + i → k i ≡ k' i)
    → ((i : ℕ) → n ≡ first_location + i → l i ≡ l' i) → by_slot p c k l n ≡ by_slot p' c' k' l' n
by_slot_same {A} {p} {p'} {c} {c'} {k} {k'} {l} {l'} n = by n (which n)
  where
    by : (n : ℕ) → Which n → (n ≡ 0 → p ≡ p') → ((i : ℕ) → n ≡ first_channel + i → c i ≡ c' i)
        → ((i : ℕ) → n ≡ first_clock + i → k i ≡ k' i) → ((i : ℕ) → n ≡ first_location + i → l i ≡ l' i)
        → by_slot p c k l n ≡ by_slot p' c' k' l' n
    by _ of_process f g h q = at_process p c k l ∙ f refl ∙ sym (at_process p' c' k' l')
    by _ (of_channel i b) f g h q = at_channel p c k l i b ∙ g i refl ∙ sym (at_channel p' c' k' l' i b)
    by _ (of_clock i b) f g h q = at_clock p c k l i b ∙ h i refl ∙ sym (at_clock p' c' k' l' i b)
    by _ (of_location i) f g h q = at_location p c k l i ∙ q i refl ∙ sym (at_location p' c' k' l' i)

-- the names of n items, and no name past them
abbrev up_to : ℕ → (ℕ → List ℕ) → ℕ → List ℕ
up_to n word i = cond (ltb i n) (word i) []

-- the name in each slot of the whole text
unfoldable pub slot_name : List (List ℕ) → ℕ → ℕ → ℕ → ℕ → ℕ → List ℕ
slot_name names u channels clocks locations =
    by_slot (process_called u) (up_to channels (λ i. get_or names i [])) (up_to clocks (clock_called u))
    (up_to locations (location_called u))

-- the slots that are filled: the process's, and those of so many channels, clocks and locations
unfoldable pub filled : Bool → ℕ → ℕ → ℕ → ℕ → Bool
filled p c k l = by_slot p (λ i. ltb i c) (λ i. ltb i k) (λ i. ltb i l)

first_of : {clocks locations : ℕ} {x : Char} {i : ℕ} → WrittenName clocks locations x i → ℕ
first_of process = 0
first_of (clock h) = first_clock
first_of (location h) = first_location

-- a letter has one row of slots
same_first : {clocks locations : ℕ} {x y : Char} {i j : ℕ} (a : WrittenName clocks locations x i)
    (b : WrittenName clocks locations y j)
    → code x ≡ code y → first_of a ≡ first_of b
unfolding first_of
same_first process process e = refl
same_first process (clock h) e = absurd (omega arith)
same_first process (location h) e = absurd (omega arith)
same_first (clock h) process e = absurd (omega arith)
same_first (clock h) (clock l) e = refl
same_first (clock h) (location l) e = absurd (omega arith)
same_first (location h) process e = absurd (omega arith)
same_first (location h) (clock l) e = absurd (omega arith)
same_first (location h) (location l) e = refl

-- a slot and its name
data Named (names : List (List ℕ)) (u channels clocks locations : ℕ) : ℕ → List ℕ → Type 0 where
  given : (i : ℕ) → i < channels → Named names u channels clocks locations (first_channel + i) (get_or names i [])
  made : {x : Char} {i : ℕ} (m : WrittenName clocks locations x i)
      → Named names u channels clocks locations (first_of m + i) (called x u i)

module _ (names : List (List ℕ)) (u channels clocks locations : ℕ) where
  named : (n : ℕ) → 0 < length (slot_name names u channels clocks locations n)
      → Named names u channels clocks locations n (slot_name names u channels clocks locations n)
  unfolding slot_name first_of
  named n = by n (which n)
    where
      P : ℕ → List ℕ → Type 0
      P n w = 0 < length w → Named names u channels clocks locations n w

      short : (b : Bool) (n : ℕ) (w : List ℕ) → (b ≡ true → Named names u channels clocks locations n w)
          → P n (cond b w [])
      short true n w f h = f refl
      short false n w f h = absurd (omega arith)

      by : (n : ℕ) → Which n → P n (slot_name names u channels clocks locations n)
      by _ of_process = rw at_process (λ h. made process)
      by _ (of_channel i l) =
          rw at_channel
          (short (ltb i channels) (first_channel + i) (get_or names i []) (λ e. given i (ltb-true i channels e)))
      by _ (of_clock i l) =
          rw at_clock (short (ltb i clocks) (first_clock + i) (clock_called u i)
          (λ e. made (clock (ltb-true i clocks e))))
      by _ (of_location i) =
          rw at_location (short (ltb i locations) (first_location + i) (location_called u i)
          (λ e. made (location (ltb-true i locations e))))

  module _ (good : GoodNames names u channels clocks locations) where
    one_name : {n m : ℕ} {w v : List ℕ} → Named names u channels clocks locations n w
        → Named names u channels clocks locations m v → w ≡ v → n ≡ m
    one_name (given i h) (given j l) e = let z : i ≡ j = good.own.differ i j h l e in rw z
    one_name (given i h) (made {x} {i = j} m) e = absurd (good.apart i j x h m e)
    one_name (made {x} {i = j} m) (given i h) e = absurd (good.apart i j x h m (sym e))
    one_name (made {x} {i} m) (made {x = y} {i = j} k) e =
        let z : first_of m ≡ first_of k = same_first m k (called_letter x y u i j e) in
        let q : i ≡ j = called_number x y u i j e in
        omega arith

    pub distinct : Distinct (slot_name names u channels clocks locations)
    distinct i j h e = one_name (named i h) (named j (rw e at h)) e

-- one more of a kind is filled
ltb_more : (x c : ℕ) → (x ≡ c → ⊥) → ltb x (suc c) ≡ ltb x c
ltb_more x c n = by (ltb x c) refl
  where
    by : (t : Bool) → ltb x c ≡ t → ltb x (suc c) ≡ ltb x c
    by true e = rw (e, lt-ltb x (suc c) (omega (arith, ltb-true x c e)))
    by false e = let z : (x ≡ c → ⊥) = n in rw (e, le-ltb x (suc c) (omega (arith, ltb-false x c e)))

module _ (p : Bool) (c k l : ℕ) where
  pub filled_process : filled p c k l 0 ≡ p
  unfolding filled
  filled_process = at_process p (λ i. ltb i c) (λ i. ltb i k) (λ i. ltb i l)

  pub filled_channel : (i : ℕ) → i < channel_limit → filled p c k l (first_channel + i) ≡ ltb i c
  unfolding filled
  filled_channel i h = at_channel p (λ i. ltb i c) (λ i. ltb i k) (λ i. ltb i l) i h

  pub filled_clock : (i : ℕ) → i < clock_limit → filled p c k l (first_clock + i) ≡ ltb i k
  unfolding filled
  filled_clock i h = at_clock p (λ i. ltb i c) (λ i. ltb i k) (λ i. ltb i l) i h

  pub filled_location : (i : ℕ) → filled p c k l (first_location + i) ≡ ltb i l
  unfolding filled
  filled_location i = at_location p (λ i. ltb i c) (λ i. ltb i k) (λ i. ltb i l) i

-- the slots but the one that is filled are as before
pub process_others : (c k l n : ℕ) → (n ≡ 0 → ⊥) → filled true c k l n ≡ filled false c k l n
unfolding filled
process_others c k l n h = by_slot_same n (λ e. absurd (h e)) (λ i e. refl) (λ i e. refl) (λ i e. refl)

module _ (p : Bool) (c k l n : ℕ) where
  pub channel_others : (n ≡ first_channel + c → ⊥) → filled p (suc c) k l n ≡ filled p c k l n
  unfolding filled
  channel_others h =
      by_slot_same n (λ e. refl) (λ i e. ltb_more i c (λ (q : i ≡ c). h (omega arith))) (λ i e. refl) (λ i e. refl)

  pub clock_others : (n ≡ first_clock + k → ⊥) → filled p c (suc k) l n ≡ filled p c k l n
  unfolding filled
  clock_others h =
      by_slot_same n (λ e. refl) (λ i e. refl) (λ i e. ltb_more i k (λ (q : i ≡ k). h (omega arith))) (λ i e. refl)

  pub location_others : (n ≡ first_location + l → ⊥) → filled p c k (suc l) n ≡ filled p c k l n
  unfolding filled
  location_others h =
      by_slot_same n (λ e. refl) (λ i e. refl) (λ i e. refl) (λ i e. ltb_more i l (λ (q : i ≡ l). h (omega arith)))

-- the name in a slot of each kind
module _ (names : List (List ℕ)) (u channels clocks locations : ℕ) where
  pub slot_process : slot_name names u channels clocks locations 0 ≡ process_called u
  unfolding slot_name
  slot_process = rw at_process

  pub slot_channel : (i : ℕ) → i < channels → i < channel_limit
      → slot_name names u channels clocks locations (first_channel + i) ≡ get_or names i []
  unfolding slot_name
  slot_channel i h l = rw (at_channel, lt-ltb i channels h)

  pub slot_clock : (i : ℕ) → i < clocks → i < clock_limit
      → slot_name names u channels clocks locations (first_clock + i) ≡ clock_called u i
  unfolding slot_name
  slot_clock i h l = rw (at_clock, lt-ltb i clocks h)

  pub slot_location : (i : ℕ) → i < locations
      → slot_name names u channels clocks locations (first_location + i) ≡ location_called u i
  unfolding slot_name
  slot_location i h = rw (at_location, lt-ltb i locations h)

-- no slot is filled at the start
pub none_filled : (n : ℕ) → filled false 0 0 0 n ≡ false
none_filled n = by n (which n)
  where
    by : (n : ℕ) → Which n → filled false 0 0 0 n ≡ false
    by _ of_process = filled_process false 0 0 0
    by _ (of_channel i h) = filled_channel false 0 0 0 i h ∙ le-ltb i 0 (omega arith)
    by _ (of_clock i h) = filled_clock false 0 0 0 i h ∙ le-ltb i 0 (omega arith)
    by _ (of_location i) = filled_location false 0 0 0 i ∙ le-ltb i 0 (omega arith)
