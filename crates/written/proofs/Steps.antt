-- Single tokens of a written text, as the reader takes them.
use Rattle.std.specs.Prelude.{◌≡◌, refl, List, [], ◌∷◌, ℕ, ◌+◌, ◌-◌, ◌≤◌, Result, Ok, Err, IsOkAnd, IfOk, eqb}
use native.Mathlib.Omega.{arith}
use Rattle.std.proofs.Math.ListN.{length}
use borrow.Author.Tests.{eq-eqb, le-ltb}
use Rattle.reader_tokens.specs.Kinds as kinds
use Rattle.limits.specs.Limits.{largest_name}
use Rattle.reader_parts.specs.declared.Fault.{Fault}
use Rattle.reader_parts.specs.declared.NameRead.{NameRead}
use Rattle.reader_parts.specs.Stages.{◌>>=◌, take, ahead, name_of, name_next}
use Rattle.written.specs.Spaced.{Tokens, after_token}
use Rattle.written.proofs.Same.{Spells}
use Rattle.written.proofs.Tokens.{Fine, Ahead, Stands, token_stands, tokens_after, token_last}

-- two stages, one after the other, where neither refuses
pub then_read : {A B : Type 0} (r : Result A Fault) (f : A → Result B Fault) (P : A → Type 0) (Q : B → Type 0)
    → IsOkAnd r P → ((x : A) → P x → IsOkAnd (f x) Q) → IsOkAnd (r >>= f) Q
then_read (Ok x) f P Q h k = k x h
then_read (Err e) f P Q h k = absurd h

-- what a stage reads, and what holds if it reads something
pub read_also : {A : Type 0} (r : Result A Fault) (P Q R : A → Type 0) → IsOkAnd r P → IfOk r Q
    → ((x : A) → P x → Q x → R x) → IsOkAnd r R
read_also (Ok x) P Q R h k f = f x h k
read_also (Err e) P Q R h k f = absurd h

-- what a stage reads, said otherwise
pub read_so : {A : Type 0} (r : Result A Fault) (P Q : A → Type 0) → IsOkAnd r P → ((x : A) → P x → Q x) → IsOkAnd r Q
read_so (Ok x) P Q h f = f x h
read_so (Err e) P Q h f = absurd h

-- a name is read
pub record IsNameRead (s : List ℕ) (w : List ℕ) (ws : Tokens) (r : NameRead) : Type 0 where
  pub before : Ahead s r.end ws
  pub spells : Spells s r.name w

module _ {s : List ℕ} {w : List ℕ} {ws : Tokens} where
  module _ {k : ℕ} (f : Fine w k) where
    pub taken : {p : ℕ} → Ahead s p (w ∷ ws) → IsOkAnd (take s p k) (λ q. Ahead s q ws)
    unfolding take
    taken {p} a =
        let t : Stands s p w k ws = token_stands f a in
        rw (t.token_is, eq-eqb k k refl) (tokens_after t)

    -- which token comes next
    pub ahead_is : (j : ℕ) {p : ℕ} → Ahead s p (w ∷ ws) → ahead s p j ≡ eqb k j
    unfolding ahead
    ahead_is j {p} a = let t : Stands s p w k ws = token_stands f a in rw t.token_is

  pub name_taken : Fine w kinds.name → length w ≤ largest_name → {p : ℕ} → Ahead s p (w ∷ ws)
      → IsOkAnd (name_next s p) (IsNameRead s w ws)
  unfolding name_next name_of
  name_taken f few {p} a =
      let t : Stands s p w kinds.name ws = token_stands f a in
      let z : (t.place + length w) - t.place ≡ length w = omega arith in
      rw (t.token_is, z, le-ltb largest_name (length w) few) (record {
        before = tokens_after t;
        spells = record { size = refl; rest = after_token ws; there = t.there };
      })

-- the end of the text
pub end_taken : {s : List ℕ} {p : ℕ} → Ahead s p [] → IsOkAnd (take s p kinds.end) (λ q. Unit {0})
unfolding take
end_taken {s} {p} a = rw (token_last a) tt
