-- Reading goes on: each stage leaves fewer bytes than it found.
use Rattle.std.specs.Prelude.{◌≡◌, Bool, true, false, List, ℕ, ◌+◌, ◌-◌, ◌≤◌, ◌<◌, length, IfOk}
use Rattle.std.proofs.Common.{refl, arith, eqb-true}
use Rattle.std.proofs.Math.Dec.{eqb, leb, ltb}
use Rattle.reader_record.specs.declared.Name.{Name}
use Rattle.reader_tokens.specs.Kinds as kinds
use Rattle.reader_tokens.specs.Tokens.{token_at}
use Rattle.reader_tokens.specs.Progress.{Takes, token_takes}
use Rattle.reader_parts.specs.declared.NameRead.{NameRead}
use Rattle.reader_parts.specs.Binds.{and_then}
use Rattle.reader_parts.specs.Stages.{take, name_of, name_next}
use Rattle.reader_parts.specs.Names.{slot_of, use_of, use_name}
use Rattle.limits.specs.Limits.{largest_name}

-- the bytes that the reader has still to read
unfoldable pub left : List ℕ → ℕ → ℕ
left s p = length s - p

-- fewer bytes are left at q than at p
abbrev pub Less : List ℕ → ℕ → ℕ → Type 0
Less s p q = left s q < left s p

module _ (s : List ℕ) where
  pub left_all : (p : ℕ) → left s p ≤ length s
  unfolding left
  left_all p = omega arith

  -- past a token of the kind k, which is not the end
  pub past_token : (p k : ℕ) → eqb k kinds.end ≡ false → eqb (token_at s p).kind k ≡ true → Less s p (token_at s p).end
  unfolding left
  past_token p k n e =
      let some : eqb (token_at s p).kind kinds.end ≡ false = rw (eqb-true (token_at s p).kind k e) n in
      let t : Takes s p (token_at s p) = token_takes s p some in
      omega (arith, t.after, t.within)

  pub take_less : (p k : ℕ) → eqb k kinds.end ≡ false → IfOk (take s p k) (Less s p)
  unfolding take
  take_less p k n = by (eqb (token_at s p).kind k) refl
    where
      by : (t : Bool) → eqb (token_at s p).kind k ≡ t → IfOk (take s p k) (Less s p)
      by true e = rw e (past_token p k n e)
      by false e = rw e tt

  pub name_less : (p : ℕ) → IfOk (name_next s p) (λ r. Less s p r.end)
  unfolding name_next name_of
  name_less p = by (eqb (token_at s p).kind kinds.name) refl
      (ltb largest_name ((token_at s p).end - (token_at s p).place)) refl
    where
      by :
          (a : Bool) → eqb (token_at s p).kind kinds.name ≡ a
          → (b : Bool) → ltb largest_name ((token_at s p).end - (token_at s p).place) ≡ b
          → IfOk (name_next s p) (λ r. Less s p r.end)
      by false e b f = rw e tt
      by true e true f = rw (e, f) tt
      by true e false f = rw (e, f) (past_token p kinds.name refl e)

  module _ (names : List Name) (first limit : ℕ) (over : Bool) where
    used_less : (p : ℕ) (r : NameRead) → Less s p r.end → IfOk (use_of s names first limit over r) (λ u. Less s p u.end)
    unfolding use_of
    used_less p r h = by (ltb (slot_of s names r.name) first) (leb (first + limit) (slot_of s names r.name)) over refl refl
        refl
      where
        by : (a b o : Bool) → ltb (slot_of s names r.name) first ≡ a → leb (first + limit) (slot_of s names r.name) ≡ b
            → over ≡ o → IfOk (use_of s names first limit over r) (λ u. Less s p u.end)
        by true b o p q t = rw p tt
        by false true o p q t = rw (p, q) tt
        by false false true p q t = rw (p, q, t) tt
        by false false false p q t = rw (p, q, t) h

    pub use_less : (p : ℕ) → IfOk (use_name s p names first limit over) (λ u. Less s p u.end)
    unfolding use_name
    use_less p = and_then (name_next s p) (use_of s names first limit over) (λ r. Less s p r.end) (λ u. Less s p u.end)
        (name_less p) (used_less p)
