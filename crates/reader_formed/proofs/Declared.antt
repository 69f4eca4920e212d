-- What a name that is declared or used says of the slots.
use Rattle.std.specs.Prelude.{◌≡◌, refl, Bool, true, false, ◌||◌, List, ℕ, ◌+◌, ◌-◌, ◌≤◌, ◌<◌, Result, IfOk, leb, ltb, eqb, length, get_or, set, drop}
use Rattle.std.proofs.Common.{sym}
use native.Mathlib.Omega.{arith}
use borrow.Author.Tests.{eqb-true, leb-false, ltb-false, not-true, not-false}
use Rattle.reader_parts.specs.Slots.{name_slots}
use Rattle.reader_tokens.specs.Scan.{run, past, same}
use Rattle.reader_record.specs.declared.Name.{Name}
use Rattle.reader_record.specs.Record.{no_name}
use Rattle.reader_parts.specs.declared.Fault.{Fault}
use Rattle.reader_parts.specs.declared.NameRead.{NameRead}
use Rattle.reader_parts.specs.declared.Declaration.{Declaration}
use Rattle.reader_parts.specs.declared.Use.{Use}
use Rattle.reader_parts.specs.Stages.{name_next}
use Rattle.reader_parts.specs.Binds.{and_then}
use Rattle.reader_parts.specs.Names.{differs, slot_of, declare_name, declare, use_of, use_name}
use Rattle.reader_formed.specs.Promise.{Within, Unlike}
use Rattle.reader_formed.proofs.Cases.{split, never, or_left, or_right, run_stops, run_passes}
use Rattle.reader_formed.proofs.Names.{Named, name_read}

-- the name in slot i
abbrev pub slot : List Name → ℕ → Name
slot names i = get_or names i no_name

-- names spelled alike have equal lengths
pub same_length : (m : ℕ) (x : List ℕ) (n : ℕ) (y : List ℕ) → same m x n y ≡ true → m ≡ n
unfolding same
same_length m x n y = split (λ (b : Bool). b ≡ true → m ≡ n) (eqb m n) (λ e _. eqb-true m n e) (λ _ h. never (sym h))

-- the slot that is found has a name spelled as w; the slots before it have none
module _ (s : List ℕ) (names : List Name) (w : Name) where
  slot_is : slot_of s names w ≡ run (differs s w) names
  unfolding slot_of past
  slot_is = omega arith

  like : (n : Name) → differs s w n ≡ false → n.len ≡ w.len
  unfolding differs
  like n e = same_length n.len (drop n.place s) w.len (drop w.place s) (not-false _ e)

  pub slot_found : slot_of s names w < length names → (slot names (slot_of s names w)).len ≡ w.len
  slot_found h =
      rw slot_is
      (like (slot names (run (differs s w) names)) (run_stops (differs s w) no_name names (omega (arith, slot_is))))

  pub slot_passed : (i : ℕ) → i < slot_of s names w → Unlike s (slot names i) w
  unfolding slot_of past differs
  slot_passed i h = not-true _ (run_passes (differs s w) no_name names i (omega arith))

-- a name that is declared at number `number` of a kind
pub record Declared (s : List ℕ) (names : List Name) (first count limit : ℕ) (d : Declaration) : Type 0 where
  pub name : Within s d.name
  pub room : count < limit
  pub other : (i : ℕ) → i < name_slots → Unlike s (slot names i) d.name
  pub stored : d.names ≡ set names (first + count) d.name

-- a name that is used has the number of a slot with a name
pub record Used (names : List Name) (first limit : ℕ) (over : Bool) (u : Use) : Type 0 where
  pub allowed : over ≡ false
  pub number : u.number < limit
  pub filled : length names ≡ name_slots → 0 < (slot names (first + u.number)).len

module _ (s : List ℕ) (names : List Name) (first count limit : ℕ) where
  of_declared : (r : NameRead) → Within s r.name
      → IfOk (declare_name s names first count limit r) (Declared s names first count limit)
  unfolding declare_name
  of_declared r w =
      split P (ltb (slot_of s names r.name) name_slots) (λ _. tt)
      (λ l. split P (leb limit count) (λ _. tt)
      (λ m. record {
        name = w;
        room = leb-false limit count m;
        other = λ i j. slot_passed s names r.name i (omega (arith, ltb-false (slot_of s names r.name) name_slots l));
        stored = refl;
      }))
    where
      P : Result Declaration Fault → Type 0
      P d = IfOk d (Declared s names first count limit)

  pub declared : (p : ℕ) → IfOk (declare s p names first count limit) (Declared s names first count limit)
  unfolding declare
  declared p = and_then (name_next s p) _ (Named s) _ (name_read s p) of_declared

module _ (s : List ℕ) (names : List Name) (first limit : ℕ) (room : first + limit ≤ name_slots) (over : Bool) where
  of_used : (r : NameRead) → Within s r.name → IfOk (use_of s names first limit over r) (Used names first limit over)
  unfolding use_of
  of_used r w =
      split P (ltb i first || leb (first + limit) i) (λ _. tt)
      (λ b. split P over (λ _. tt)
      (λ e. record {
        allowed = e;
        number = omega (arith, low b, high b);
        filled = λ z. named (low b) (high b) (slot_found s names r.name (omega (arith, high b, z, room)));
      }))
    where
      i : ℕ
      i = slot_of s names r.name

      P : Result Use Fault → Type 0
      P u = IfOk u (Used names first limit over)

      low : ltb i first || leb (first + limit) i ≡ false → first ≤ i
      low b = ltb-false i first (or_left (ltb i first) (leb (first + limit) i) b)

      high : ltb i first || leb (first + limit) i ≡ false → i < first + limit
      high b = leb-false (first + limit) i (or_right (ltb i first) (leb (first + limit) i) b)

      named : first ≤ i → i < first + limit → (slot names i).len ≡ r.name.len → 0 < (slot names (first + (i - first))).len
      named l k q =
          let e : first + (i - first) ≡ i = omega arith in
          rw (e, q) w.some

  pub used : (p : ℕ) → IfOk (use_name s p names first limit over) (Used names first limit over)
  unfolding use_name
  used p = and_then (name_next s p) _ (Named s) _ (name_read s p) of_used
