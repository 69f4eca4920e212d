-- The table of names while a written text is read: a name is found in the slot where it was declared.
use Rattle.std.specs.Prelude.{◌≡◌, Bool, cond, ℕ, zero, suc, ◌+◌, ◌≤◌, ◌<◌, drop, get_or, set, IsOkAnd}
use Rattle.std.proofs.Math.Path.{refl, sym, ap}
use Rattle.std.proofs.Common.{◌∙◌, arith, length-set}
use Rattle.std.proofs.Math.Bool.{true, false, not}
use mathlib.Core.List.{List, [], ◌∷◌, ◌++◌, append-nil}
use Rattle.std.proofs.Math.ListN.{length}
use Rattle.std.proofs.Math.Seq.{take-append_seam}
use borrow.Author.Tests.{eq-eqb, le-ltb, lt-leb}
use Rattle.reader_tokens.specs.Kinds as kinds
use Rattle.reader_tokens.specs.Scan.{run, past, agree, same}
use Rattle.limits.specs.Limits.{largest_name}
use Rattle.reader_record.specs.Record.{no_name}
use Rattle.reader_record.specs.declared.Name.{Name}
use Rattle.reader_parts.specs.declared.Declaration.{Declaration}
use Rattle.reader_parts.specs.declared.Use.{Use}
use Rattle.reader_parts.specs.Slots.{name_slots}
use Rattle.reader_parts.specs.Names.{differs, slot_of, declare_name, declare, use_of, use_name}
use Rattle.reader_formed.proofs.Cases.{stored, never}
use Rattle.pairing.specs.Channels.{spelling, alike}
use Rattle.pairing.specs.Spelled.{alike_spelled}
use Rattle.written.specs.Spaced.{Tokens}
use Rattle.written.proofs.Tokens.{Fine, Ahead}
use Rattle.written.proofs.Same.{Spells}
use Rattle.written.proofs.Steps.{IsNameRead, name_taken, then_read}

-- equal spellings
agree_same : (w r q : List ℕ) → agree (length w) (w ++ r) (w ++ q) ≡ true
unfolding agree
agree_same [] r q = refl
agree_same (a ∷ w) r q = rw (eq-eqb a a refl, agree_same w r q)

-- a name that spells w is spelled w
pub spells_spelling : (s : List ℕ) (n : Name) (w : List ℕ) → Spells s n w → spelling s n ≡ w
spells_spelling s n w y = rw (y.size, y.there) (take-append_seam w y.rest)

-- the test of two names passes exactly where they spell the same
module _ {s r : List ℕ} {m n : Name} {w v : List ℕ} (x : Spells s m w) (y : Spells r n v) where
  pub same_passes : w ≡ v → alike s m r n ≡ true
  unfolding alike same
  same_passes e =
      rw (
        x.there,
        y.there,
        x.size,
        y.size,
        ← e,
        eq-eqb (length w) (length w) refl,
        agree_same w x.rest y.rest,
      )

  passes_same : alike s m r n ≡ true → w ≡ v
  passes_same e = sym (spells_spelling s m w x) ∙ alike_spelled s m r n e ∙ spells_spelling r n v y

-- the same of bytes that are the whole of a text
abbrev whole : List ℕ → Name
whole w = record { place = 0; len = length w }

whole_spells : (w : List ℕ) → Spells w (whole w) w
whole_spells w = record { size = refl; rest = []; there = sym (append-nil w) }

pub same_equal : (w v : List ℕ) → same (length w) w (length v) v ≡ true → w ≡ v
unfolding alike
same_equal w v e = passes_same (whole_spells w) (whole_spells v) e

pub same_self : (w : List ℕ) → same (length w) w (length w) w ≡ true
unfolding alike
same_self w = same_passes (whole_spells w) (whole_spells w) refl

-- where a run ends
run_at : {A : Type 0} (p : A → Bool) (d : A) (l : List A) (k : ℕ) → k < length l → p (get_or l k d) ≡ false
    → ((j : ℕ) → j < k → p (get_or l j d) ≡ true) → run p l ≡ k
unfolding run
run_at p d [] k h e f = absurd (omega arith)
run_at p d (a ∷ l) zero h e f = rw e
run_at p d (a ∷ l) (suc k) h e f =
    rw (f 0 (omega arith), run_at p d l k (omega arith) e (λ j i. f (suc j) (omega arith)))

run_all : {A : Type 0} (p : A → Bool) (d : A) (l : List A) → ((j : ℕ) → j < length l → p (get_or l j d) ≡ true)
    → run p l ≡ length l
unfolding run
run_all p d [] f = refl
run_all p d (a ∷ l) f = rw (f 0 (omega arith), run_all p d l (λ j i. f (suc j) (omega arith)))

-- all names of a text differ (SPECIFICATION 4.1): no two slots have one name
abbrev pub Distinct : (ℕ → List ℕ) → Type 0
Distinct full = (i j : ℕ) → 0 < length (full i) → full i ≡ full j → i ≡ j

-- slot i has the name `full i` if it is declared already
pub record NameTable (s : List ℕ) (full : ℕ → List ℕ) (done : ℕ → Bool) (names : List Name) : Type 0 where
  pub size : length names ≡ name_slots
  pub each : (i : ℕ) → i < name_slots → Spells s (get_or names i no_name) (cond (done i) (full i) [])

module _ {s : List ℕ} {full : ℕ → List ℕ} {done : ℕ → Bool} {names : List Name} (t : NameTable s full done names) where
  -- one more is declared
  pub table_added : (after : ℕ → Bool) (k : ℕ) (n : Name) → k < name_slots → Spells s n (full k) → after k ≡ true
      → ((i : ℕ) → (i ≡ k → ⊥) → after i ≡ done i) → NameTable s full after (set names k n)
  table_added after k n h y new old = record {
    size = length-set names k n ∙ t.size;
    each = λ i l. stored (λ (m : Name). Spells s m (cond (after i) (full i) [])) names k i n no_name
        (omega (arith, t.size))
        (λ e. rw (e, new) y)
        (λ e. rw (old i e) (t.each i l));
  }

  module _ (distinct : Distinct full) {k : ℕ} {n : Name} (some : 0 < length (full k)) (y : Spells s n (full k)) where
    -- another slot has another name
    other : (i : ℕ) → i < name_slots → (i ≡ k → done i ≡ false) → differs s n (get_or names i no_name) ≡ true
    unfolding differs alike
    other i l none =
        by (same (get_or names i no_name).len (drop (get_or names i no_name).place s) n.len (drop n.place s)) refl
        (done i) refl
      where
        by : (b : Bool)
            → same (get_or names i no_name).len (drop (get_or names i no_name).place s) n.len (drop n.place s) ≡ b
            → (c : Bool) → done i ≡ c
            → not (same (get_or names i no_name).len (drop (get_or names i no_name).place s) n.len (drop n.place s))
            ≡ true
        by false e c d = rw e
        by true e true d =
            let z : Spells s (get_or names i no_name) (full i) = rw d at (t.each i l) in
            let q : full i ≡ full k = passes_same z y e in
            let r : i ≡ k = sym (distinct k i some (sym q)) in
            never (sym d ∙ none r)
        by true e false d =
            let z : Spells s (get_or names i no_name) [] = rw d at (t.each i l) in
            let q : [] ≡ full k = passes_same z y e in
            absurd (omega (arith, ap length q))

    pub no_slot : done k ≡ false → slot_of s names n ≡ name_slots
    unfolding slot_of past
    no_slot none =
        rw (run_all (differs s n) no_name names (λ j h. other j (omega (arith, t.size)) (λ e. rw e none)))
        (omega (arith, t.size))

    pub in_slot : k < name_slots → done k ≡ true → slot_of s names n ≡ k
    unfolding slot_of past differs alike
    in_slot h in_it =
        rw (run_at (differs s n) no_name names k (omega (arith, t.size)) here
        (λ j l. other j (omega arith) (λ e. absurd (omega arith))))
        (omega arith)
      where
        here : differs s n (get_or names k no_name) ≡ false
        here =
            let z : Spells s (get_or names k no_name) (full k) = rw in_it at (t.each k h) in
            rw (same_passes z y refl)

-- a name is declared in slot k
pub record Declares (s : List ℕ) (w : List ℕ) (ws : Tokens) (names : List Name) (k : ℕ) (d : Declaration) : Type 0 where
  pub before : Ahead s d.end ws
  pub spells : Spells s d.name w
  pub names_are : d.names ≡ set names k d.name

-- the name of number i is used
pub record Uses (s : List ℕ) (ws : Tokens) (i : ℕ) (u : Use) : Type 0 where
  pub before : Ahead s u.end ws
  pub number_is : u.number ≡ i

module _ {s : List ℕ} {w : List ℕ} {ws : Tokens} (names : List Name) (f : Fine w kinds.name)
    (few : length w ≤ largest_name)
    (first limit i : ℕ) (room : i < limit) where
  pub name_declared : ((n : Name) → Spells s n w → slot_of s names n ≡ name_slots) → {p : ℕ} → Ahead s p (w ∷ ws)
      → IsOkAnd (declare s p names first i limit) (Declares s w ws names (first + i))
  unfolding declare declare_name
  name_declared new b =
      then_read _ _ (IsNameRead s w ws) (Declares s w ws names (first + i)) (name_taken f few b)
      (λ r n. rw (new r.name n.spells, lt-leb limit i room)
      (record { before = n.before; spells = n.spells; names_are = refl }))

  pub name_used : ((n : Name) → Spells s n w → slot_of s names n ≡ first + i) → {p : ℕ} → Ahead s p (w ∷ ws)
      → IsOkAnd (use_name s p names first limit false) (Uses s ws i)
  unfolding use_name use_of
  name_used old b =
      then_read _ _ (IsNameRead s w ws) (Uses s ws i) (name_taken f few b)
      (λ r n. rw (
        old r.name n.spells,
        le-ltb (first + i) first (omega arith),
        lt-leb (first + limit) (first + i) (omega arith),
      )
      (record { before = n.before; number_is = omega arith }))
