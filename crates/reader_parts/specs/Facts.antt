-- A token that is ahead is taken; a name that is used has a number below the limit of its kind, and one that is declared
-- takes a number below it.
use Rattle.std.specs.Prelude.{◌≡◌, Bool, true, false, List, ℕ, ◌+◌, ◌<◌, Result, Ok, Err, IfOk}
use Rattle.std.proofs.Common.{refl, arith}
use Rattle.std.proofs.Math.Dec.{leb, ltb}
use borrow.Author.Tests.{leb-false, ltb-false}
use Rattle.reader_record.specs.declared.Name.{Name}
use Rattle.reader_parts.specs.declared.Fault.{Fault}
use Rattle.reader_parts.specs.declared.NameRead.{NameRead}
use Rattle.reader_parts.specs.declared.Declaration.{Declaration}
use Rattle.reader_tokens.specs.Tokens.{token_at}
use Rattle.reader_parts.specs.Stages.{◌>>=◌, take, ahead, ahead_of, name_next}
use Rattle.reader_parts.specs.Names.{slot_of, declare_name, declare, use_of, use_name}
use Rattle.reader_parts.specs.Slots.{name_slots}

pub ahead_taken : (s : List ℕ) (p k : ℕ) → ahead s p k ≡ true → take s p k ≡ Ok (token_at s p).end
unfolding ahead take
ahead_taken s p k h = rw h refl

-- so that no fault comes of it
pub ahead_no_fault : (s : List ℕ) (at : Result ℕ Fault) (k : ℕ) {f : Fault} → ahead_of s at k ≡ true
    → (at >>= λ p. take s p k) ≡ Err f → ⊥
ahead_no_fault s (Err g) k h e = cc
ahead_no_fault s (Ok p) k {f} h e =
    let z : ◌≡◌ {A = Result ℕ Fault} (Ok (token_at s p).end) (Err f) = rw (ahead_taken s p k h) at e in
    cc

module _ (s : List ℕ) (names : List Name) (first limit : ℕ) (over : Bool) where
  small_of : (r : NameRead) → IfOk (use_of s names first limit over r) (λ u. u.number < limit)
  unfolding use_of
  small_of r = by (ltb (slot_of s names r.name) first) refl (leb (first + limit) (slot_of s names r.name)) refl over refl
    where
      by : (a : Bool) → ltb (slot_of s names r.name) first ≡ a → (b : Bool) → leb (first + limit) (slot_of s names r.name) ≡ b
          → (o : Bool) → over ≡ o → IfOk (use_of s names first limit over r) (λ u. u.number < limit)
      by true p b q o t = rw p tt
      by false p true q o t = rw (p, q) tt
      by false p false q true t = rw (p, q, t) tt
      by false p false q false t = rw (p, q, t) (omega
          (arith, ltb-false (slot_of s names r.name) first p, leb-false (first + limit) (slot_of s names r.name) q))

  pub use_small : (p : ℕ) → IfOk (use_name s p names first limit over) (λ u. u.number < limit)
  unfolding use_name
  use_small p = by (name_next s p)
    where
      by : (a : Result NameRead Fault) → IfOk (a >>= use_of s names first limit over) (λ u. u.number < limit)
      by (Ok r) = small_of r
      by (Err e) = tt

  not_over_of : (r : NameRead) → IfOk (use_of s names first limit over r) (λ _. over ≡ false)
  unfolding use_of
  not_over_of r = by (ltb (slot_of s names r.name) first) refl (leb (first + limit) (slot_of s names r.name)) refl over refl
    where
      by : (a : Bool) → ltb (slot_of s names r.name) first ≡ a → (b : Bool) → leb (first + limit) (slot_of s names r.name) ≡ b
          → (o : Bool) → over ≡ o → IfOk (use_of s names first limit over r) (λ _. over ≡ false)
      by true p b q o t = rw p tt
      by false p true q o t = rw (p, q) tt
      by false p false q true t = rw (p, q, t) tt
      by false p false q false t = rw (p, q, t) refl

  -- no name is used where its item is one too many
  pub use_not_over : (p : ℕ) → IfOk (use_name s p names first limit over) (λ _. over ≡ false)
  unfolding use_name
  use_not_over p = by (name_next s p)
    where
      by : (a : Result NameRead Fault) → IfOk (a >>= use_of s names first limit over) (λ _. over ≡ false)
      by (Ok r) = not_over_of r
      by (Err e) = tt

module _ (s : List ℕ) (names : List Name) (first number limit : ℕ) where
  room_of : (r : NameRead) → IfOk (declare_name s names first number limit r) (λ _. number < limit)
  unfolding declare_name
  room_of r = by (ltb (slot_of s names r.name) name_slots) refl (leb limit number) refl
    where
      by : (a : Bool) → ltb (slot_of s names r.name) name_slots ≡ a → (b : Bool) → leb limit number ≡ b
          → IfOk (declare_name s names first number limit r) (λ _. number < limit)
      by true p b q = rw p tt
      by false p true q = rw (p, q) tt
      by false p false q = rw (p, q) (omega (arith, leb-false limit number q))

  pub declare_room : (p : ℕ) → IfOk (declare s p names first number limit) (λ _. number < limit)
  unfolding declare
  declare_room p = by (name_next s p)
    where
      by : (a : Result NameRead Fault) → IfOk (a >>= declare_name s names first number limit) (λ _. number < limit)
      by (Ok r) = room_of r
      by (Err e) = tt

  -- the same behind a stage
  pub declare_at : (at : Result ℕ Fault) → IfOk (at >>= λ p. declare s p names first number limit) (λ _. number < limit)
  declare_at (Ok p) = declare_room p
  declare_at (Err f) = tt
