-- Lists that are written are read back, item by item.
use Rattle.std.specs.Prelude.{◌≡◌, false, Result, Ok, IsOkAnd, if◌then◌else◌, eqb}
use Rattle.std.proofs.Math.Path.{refl}
use Rattle.std.proofs.Common.{sym}
use mathlib.Core.List.{List, ◌∷◌, ◌++◌, append_assoc}
use Prim.Native.Nat.{ℕ, zero, suc, ◌+◌, ◌≤◌, ◌<◌}
use native.Mathlib.Omega.{arith}
use borrow.Author.Tests.{eq-eqb}
use Rattle.reader_tokens.specs.Kinds as kinds
use Rattle.reader_tokens.specs.Scan.{bytes}
use Rattle.reader_record.specs.declared.Name.{Name}
use Rattle.reader_record.specs.declared.Text.{Text}
use Rattle.reader_parts.specs.declared.Fault.{Fault}
use Rattle.reader_parts.specs.Stages.{◌>>=◌, ahead}
use Rattle.limits.specs.Limits.{shortest_tick}
use Rattle.reader_lists.specs.State.{State, next_token}
use Rattle.reader_lists.specs.Lists.{Item, one_item, limit, items_from, items}
use Rattle.written.specs.Spaced.{Tokens, later_items, part_tokens, numbered_items}
use Rattle.written.specs.Written.{list_tokens}
use Rattle.written.proofs.Tokens.{Fine, Ahead}
use Rattle.written.proofs.Words.{comma_fine, semicolon_fine}
use Rattle.written.proofs.Steps.{taken, ahead_is, then_read}

-- the reader has come before the tokens ws, and the names and the record so far are as P says
pub record Reads (s : List ℕ) (ws : Tokens) (P : List Name → Text → Type 0) (r : State) : Type 0 where
  pub before : Ahead s r.place ws
  pub holds : P r.names r.text

pub next_read : {s : List ℕ} {ws : Tokens} {P : List Name → Text → Type 0} {w : List ℕ} {k : ℕ} → Fine w k → {r : State}
    → Reads s (w ∷ ws) P r → IsOkAnd (next_token s k r) (Reads s ws P)
unfolding next_token
next_read {s} {ws} {P} f q =
    then_read _ _ (λ p. Ahead s p ws) (Reads s ws P) (taken f q.before) (λ p a. record { before = a; holds = q.holds })

-- an item of the list: from those read before it to one more. What stands after it is no `{`
abbrev pub ReadsItem : List ℕ → (ℕ → Tokens) → (ℕ → List Name → Text → Type 0) → (State → Result State Fault) → ℕ
    → Type 0
ReadsItem s item P one i =
    (w : List ℕ) (j : ℕ) → Fine w j → eqb j kinds.opens ≡ false → (ws : Tokens) (r : State)
    → Reads s (item i ++ (w ∷ ws)) (P i) r → IsOkAnd (one r) (Reads s (w ∷ ws) (P (suc i)))

module _ (s : List ℕ) (k : Item) (item : ℕ → Tokens) (n : ℕ) (P : ℕ → List Name → Text → Type 0)
    (one : (i : ℕ) → i < n → ReadsItem s item P (one_item shortest_tick k s) i) where
  items_from_read : (m i room : ℕ) → i + suc m ≡ n → m < room → (ws : Tokens) (r : State)
      → Reads s (item i ++ (later_items (bytes ",") (bytes ";") (numbered_items item (suc i) m) ++ ws)) (P i) r
      → IsOkAnd (items_from shortest_tick room k s r) (Reads s ws (P n))
  unfolding later_items numbered_items items_from
  items_from_read m i zero e h ws r b = absurd (omega arith)
  items_from_read zero i (suc room) e h ws r b =
      let z : suc i ≡ n = omega arith in
      then_read _ _ (Reads s (bytes ";" ∷ ws) (P (suc i))) (Reads s ws (P n))
      (one i (omega arith) (bytes ";") kinds.semicolon semicolon_fine refl ws r b)
      (λ q a. rw (ahead_is semicolon_fine kinds.comma a.before) (rw z at (next_read semicolon_fine a)))
  items_from_read (suc m) i (suc room) e h ws r b =
      let more : Tokens = later_items (bytes ",") (bytes ";") (numbered_items item (suc (suc i)) m) in
      let rest : Tokens = (item (suc i) ++ more) ++ ws in
      then_read _ _ (Reads s (bytes "," ∷ rest) (P (suc i))) (Reads s ws (P n))
      (one i (omega arith) (bytes ",") kinds.comma comma_fine refl rest r b)
      (λ q a. rw (ahead_is comma_fine kinds.comma a.before)
      (then_read _ _ (Reads s rest (P (suc i))) (Reads s ws (P n)) (next_read comma_fine a)
      (λ x d. items_from_read m (suc i) room (omega arith) (omega arith) ws x (rw append_assoc at d))))

  module _ (fits : n ≤ limit k) where
    -- a list behind its opening tokens
    pub items_read : (m : ℕ) → n ≡ suc m → (ws : Tokens) (r : State)
        → Reads s ((item 0 ++ later_items (bytes ",") (bytes ";") (numbered_items item 1 m)) ++ ws) (P 0) r
        → IsOkAnd (items shortest_tick k s r) (Reads s ws (P n))
    unfolding items
    items_read m e ws r b = items_from_read m 0 (limit k) (omega arith) (omega arith) ws r (rw append_assoc at b)

    -- a list that is left out where it has no item; `opened` takes its opening tokens
    pub optional_list_read : {first : List ℕ} {word : ℕ} → Fine first word → (more : Tokens)
        (opened : State → Result State Fault)
        → ((ws : Tokens) (r : State) → Reads s ((first ∷ more) ++ ws) (P 0) r → IsOkAnd (opened r) (Reads s ws (P 0)))
        → {w : List ℕ} {j : ℕ} → Fine w j → eqb j word ≡ false → (ws : Tokens) (r : State)
        → Reads s (list_tokens (first ∷ more) item n ++ (w ∷ ws)) (P 0) r
        → IsOkAnd (if ahead s r.place word then opened r >>= items shortest_tick k s else Ok r)
        (Reads s (w ∷ ws) (P n))
    unfolding list_tokens part_tokens numbered_items
    optional_list_read {first} {word} f more opened past {w} {j} g apart ws r b = by n refl b
      where
        by : (m : ℕ) → n ≡ m
            → Reads s (part_tokens (first ∷ more) (bytes ",") (bytes ";") (numbered_items item 0 m) ++ (w ∷ ws)) (P 0) r
            → IsOkAnd (if ahead s r.place word then opened r >>= items shortest_tick k s else Ok r)
            (Reads s (w ∷ ws) (P n))
        by zero e b = rw (ahead_is g word b.before, apart) (rw (sym e) at b)
        by (suc m) e b =
            let x : Tokens = item 0 ++ later_items (bytes ",") (bytes ";") (numbered_items item 1 m) in
            let q : Reads s ((first ∷ more) ++ (x ++ (w ∷ ws))) (P 0) r = rw append_assoc at b in
            rw (ahead_is f word q.before, eq-eqb word word refl)
            (then_read _ _ (Reads s (x ++ (w ∷ ws)) (P 0)) (Reads s (w ∷ ws) (P n)) (past (x ++ (w ∷ ws)) r q)
            (λ z a. items_read m e (w ∷ ws) z a))
