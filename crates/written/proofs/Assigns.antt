-- The assignments of an edge that are written are read back.
use Rattle.std.specs.Prelude.{◌≡◌, Bool, true, false, Result, Ok, Err, IsOkAnd, eqb, length, get_or}
use Rattle.std.proofs.Math.Path.{refl}
use Rattle.std.proofs.Common.{sym, ap, ◌∙◌, arith, length-set, get_or-set_same, get_or-set_other}
use mathlib.Core.List.{List, [], ◌∷◌, ◌++◌, append_assoc, map}
use Prim.Native.Nat.{ℕ, zero, suc, max, ◌+◌, ◌≤◌, ◌<◌}
use Rattle.reader_tokens.specs.Kinds as kinds
use Rattle.reader_tokens.specs.Scan.{bytes}
use Rattle.limits.specs.Limits.{clock_limit, shortest_tick}
use Rattle.reader_record.specs.Record.{no_assignment, written_once}
use Rattle.reader_record.specs.declared.Name.{Name}
use Rattle.reader_record.specs.declared.Assignment.{Assignment}
use Rattle.reader_parts.specs.declared.Fault.{Fault}
use Rattle.reader_parts.specs.Slots.{first_clock}
use Rattle.reader_edges.specs.declared.AssignRead.{AssignRead}
use Rattle.reader_edges.specs.declared.AssignsRead.{AssignsRead}
use Rattle.reader_edges.specs.Assigns.{no_assignments, then_assigned, with_assignment, assign_next, assign_items, assigns as assigns_next}
use Rattle.reader_edges.specs.Progress.{items_more, items_last}
use Rattle.reader_formed.proofs.Cases.{when_equal, blank}
use Rattle.written.specs.Spaced.{Tokens, later_items, part_tokens}
use Rattle.byte_slices.specs.Decimal.{decimal}
use Rattle.written.specs.Written.{clock_called, assigned_clocks, assignment_tokens, assignments_tokens}
use Rattle.written.proofs.Good.{AllowedValues}
use Rattle.written.proofs.Tokens.{Fine, Ahead}
use Rattle.written.proofs.Words.{semicolon_fine, becomes_fine, comma_fine, assign_fine}
use Rattle.written.proofs.Steps.{taken, ahead_is, then_read, read_so}
use Rattle.written.proofs.Slots.{Uses}
use Rattle.written.proofs.Constraints.{AmountReads, constant_read, KindKnown, known_used}

-- one assignment
record AssignmentReads (s : List ℕ) (ws : Tokens) (i v : ℕ) (r : AssignRead) : Type 0 where
  before : Ahead s r.end ws
  clock_is : r.clock ≡ i
  value_is : r.value ≡ v

record AssignmentsAre (s : List ℕ) (ws : Tokens) (all : List Assignment) (r : AssignsRead) : Type 0 where
  before : Ahead s r.end ws
  is : r.assignments ≡ all

-- the value that is written for clock i
abbrev value_of : List Assignment → ℕ → ℕ
value_of all i = (get_or all i no_assignment).value

-- those clocks are assigned besides, each the value that is written for it
with_clocks : List Assignment → List Assignment → List ℕ → List Assignment
with_clocks all r [] = r
with_clocks all r (x ∷ xs) = with_clocks all (with_assignment r x (value_of all x)) xs

Below : ℕ → List ℕ → Type 0
Below n [] = Unit {0}
Below n (x ∷ xs) = (x < n) × Below n xs

module _ {s : List ℕ} {names : List Name} {clocks : ℕ} (u : ℕ)
    (known : KindKnown s names first_clock clocks (clock_called u))
    (few : clocks ≤ clock_limit) (all : List Assignment) (allowed : AllowedValues clocks all) where
  assignment_read : (i : ℕ) → i < clocks → (ws : Tokens) {p : ℕ} → Ahead s p (assignment_tokens u all i ++ ws)
      → IsOkAnd (assign_next shortest_tick s p names) (AssignmentReads s ws i (value_of all i))
  unfolding assignment_tokens assign_next
  assignment_read i h ws b =
      let v : ℕ = (get_or all i no_assignment).value in
      then_read _ _ (Uses s (bytes "=" ∷ decimal v ∷ ws) i) (AssignmentReads s ws i v)
      (known_used known clock_limit i h few b)
      (λ clock c. then_read _ _ (λ q. Ahead s q (decimal v ∷ ws)) (AssignmentReads s ws i v) (taken becomes_fine c.before)
      (λ q a. then_read _ _ (AmountReads s ws v) (AssignmentReads s ws i v) (constant_read 0 (omega arith) (allowed i h) a)
      (λ given n. record { before = n.before; clock_is = c.number_is; value_is = n.is })))

  items_read : (x : ℕ) (xs : List ℕ) (r : List Assignment) → Below clocks (x ∷ xs) → (ws : Tokens) {p : ℕ}
      → Ahead s p
      (assignment_tokens u all x ++ (later_items (bytes ",") (bytes ";") (map (assignment_tokens u all) xs) ++ ws))
      → IsOkAnd (assign_items shortest_tick s names p r) (AssignmentsAre s ws (with_clocks all r (x ∷ xs)))
  unfolding later_items with_clocks Below
  items_read x [] r h ws {p} b =
      by (assign_next shortest_tick s p names) refl (assignment_read x h.0 (bytes ";" ∷ ws) b)
    where
      by : (a : Result AssignRead Fault) → a ≡ assign_next shortest_tick s p names
          → IsOkAnd a (AssignmentReads s (bytes ";" ∷ ws) x (value_of all x))
          → IsOkAnd (assign_items shortest_tick s names p r) (AssignmentsAre s ws (with_clocks all r (x ∷ [])))
      by (Err f) e a = absurd a
      by (Ok y) e a =
          rw (items_last shortest_tick s names p r e (ahead_is semicolon_fine kinds.comma a.before))
          (then_read _ _ (λ q. Ahead s q ws) (AssignmentsAre s ws (with_clocks all r (x ∷ [])))
          (taken semicolon_fine a.before)
          (λ q d. record { before = d; is = rw (a.clock_is, a.value_is) }))
  items_read x (y ∷ xs) r h ws {p} b =
      by (assign_next shortest_tick s p names) refl (assignment_read x h.0 (bytes "," ∷ rest) b)
      (λ q d. items_read y xs (with_assignment r x (value_of all x)) h.1 ws (rw append_assoc at d))
    where
      rest : Tokens
      rest = (assignment_tokens u all y ++ later_items (bytes ",") (bytes ";") (map (assignment_tokens u all) xs)) ++ ws

      by : (a : Result AssignRead Fault) → a ≡ assign_next shortest_tick s p names
          → IsOkAnd a (AssignmentReads s (bytes "," ∷ rest) x (value_of all x))
          → ((q : ℕ) → Ahead s q rest → IsOkAnd (assign_items shortest_tick s names q (with_assignment r x (value_of all x)))
          (AssignmentsAre s ws (with_clocks all r (x ∷ y ∷ xs))))
          → IsOkAnd (assign_items shortest_tick s names p r) (AssignmentsAre s ws (with_clocks all r (x ∷ y ∷ xs)))
      by (Err f) e a more = absurd a
      by (Ok z) e a more =
          rw (items_more shortest_tick s names p r e (ahead_is comma_fine kinds.comma a.before), a.clock_is, a.value_is)
          (then_read _ _ (λ q. Ahead s q rest) (AssignmentsAre s ws (with_clocks all r (x ∷ y ∷ xs)))
          (taken comma_fine a.before) more)

-- the clocks that are written are below the end of their row
clocks_below : (all : List Assignment) (a m n : ℕ) → a + m ≤ n → Below n (assigned_clocks all a m)
unfolding assigned_clocks Below
clocks_below all a zero n h = tt
clocks_below all a (suc m) n h =
    by (get_or all a no_assignment).made refl (clocks_below all (suc a) m n (omega arith))
  where
    by : (t : Bool) → (get_or all a no_assignment).made ≡ t → Below n (assigned_clocks all (suc a) m)
        → Below n (assigned_clocks all a (suc m))
    by true e more = rw e (omega arith, more)
    by false e more = rw e more

-- the first assignment of a clock is read as one that is written once
first_assigned : (a b : Assignment) → a ≡ no_assignment → b.made ≡ true
    → then_assigned a b.value ≡ written_once b
unfolding then_assigned written_once
first_assigned a b z e =
    let m : max 0 b.value ≡ b.value = omega arith in
    rw (z, e, m)

-- a clock that is not assigned is written with nothing
none_written : (b : Assignment) → b.made ≡ false → written_once b ≡ no_assignment
unfolding written_once
none_written b e = rw e

-- the m clocks from number a on, where r has none of them, are assigned in q as they are written
record Assigned (all : List Assignment) (a m : ℕ) (r q : List Assignment) : Type 0 where
  old : (i : ℕ) → i < a → get_or q i no_assignment ≡ get_or r i no_assignment
  new : (i : ℕ) → a ≤ i → i < a + m → get_or r i no_assignment ≡ no_assignment
      → get_or q i no_assignment ≡ written_once (get_or all i no_assignment)
  past : (i : ℕ) → a + m ≤ i → get_or q i no_assignment ≡ get_or r i no_assignment

assigned_again : (all : List Assignment) (a m : ℕ) (r : List Assignment) → a + m ≤ length r
    → Assigned all a m r (with_clocks all r (assigned_clocks all a m))
unfolding assigned_clocks with_clocks with_assignment
assigned_again all a zero r h = record {
  old = λ i l. refl;
  new = λ i l k z. absurd (omega arith);
  past = λ i l. refl;
}
assigned_again all a (suc m) r h =
    by (get_or all a no_assignment).made refl (λ q k. assigned_again all (suc a) m q (omega arith))
  where
    by : (t : Bool) → (get_or all a no_assignment).made ≡ t
        → ((q : List Assignment) → length q ≡ length r
        → Assigned all (suc a) m q (with_clocks all q (assigned_clocks all (suc a) m)))
        → Assigned all a (suc m) r (with_clocks all r (assigned_clocks all a (suc m)))
    by true e again =
        let v : ℕ = value_of all a in
        let new : Assignment = then_assigned (get_or r a no_assignment) v in
        let more : Assigned all (suc a) m (with_assignment r a v)
        (with_clocks all (with_assignment r a v) (assigned_clocks all (suc a) m)) =
        again (with_assignment r a v) (length-set r a new) in
        rw e (record {
          old = λ i l. more.old i (omega arith)
              ∙ get_or-set_other r a i new no_assignment (λ (q : i ≡ a). omega arith);
          new = λ i l k z. when_equal
              (get_or (with_clocks all (with_assignment r a v) (assigned_clocks all (suc a) m)) i no_assignment
              ≡ written_once (get_or all i no_assignment)) i a
              (λ q. rw q (more.old a (omega arith) ∙ get_or-set_same r a new no_assignment (omega arith)
              ∙ first_assigned (get_or r a no_assignment) (get_or all a no_assignment) (rw q at z) e))
              (λ q. more.new i (omega arith) (omega arith) (get_or-set_other r a i new no_assignment q ∙ z));
          past = λ i l. more.past i (omega arith)
              ∙ get_or-set_other r a i new no_assignment (λ (q : i ≡ a). omega arith);
        })
    by false e again =
        let more : Assigned all (suc a) m r (with_clocks all r (assigned_clocks all (suc a) m)) = again r refl in
        rw e (record {
          old = λ i l. more.old i (omega arith);
          new = λ i l k z. when_equal
              (get_or (with_clocks all r (assigned_clocks all (suc a) m)) i no_assignment
              ≡ written_once (get_or all i no_assignment)) i a
              (λ q. more.old i (omega arith) ∙ z ∙ sym (none_written (get_or all a no_assignment) e)
              ∙ ap (λ (j : ℕ). written_once (get_or all j no_assignment)) (sym q))
              (λ q. more.new i (omega arith) (omega arith) z);
          past = λ i l. more.past i (omega arith);
        })

pub record AssignmentsRead (s : List ℕ) (ws : Tokens) (clocks : ℕ) (all : List Assignment)
    (r : AssignsRead) : Type 0 where
  pub before : Ahead s r.end ws
  pub same : (i : ℕ) → i < clocks
      → get_or r.assignments i no_assignment ≡ written_once (get_or all i no_assignment)
  pub no_more : (i : ℕ) → clocks ≤ i → get_or r.assignments i no_assignment ≡ no_assignment

-- at the start no clock is assigned
none_assigned : (i : ℕ) → get_or no_assignments i no_assignment ≡ no_assignment
unfolding no_assignments
none_assigned i = blank clock_limit i no_assignment

module _ {s : List ℕ} {names : List Name} {clocks : ℕ} (u : ℕ)
    (known : KindKnown s names first_clock clocks (clock_called u))
    (few : clocks ≤ clock_limit) (all : List Assignment) (allowed : AllowedValues clocks all) where
  -- `assign` and its items, or nothing
  assign_part : (xs : List ℕ) → Below clocks xs → {w : List ℕ} {j : ℕ} → Fine w j → eqb j kinds.assign ≡ false
      → (ws : Tokens) {p : ℕ}
      → Ahead s p
      (part_tokens (bytes "assign" ∷ []) (bytes ",") (bytes ";") (map (assignment_tokens u all) xs) ++ (w ∷ ws))
      → IsOkAnd (assigns_next shortest_tick s p names) (AssignmentsAre s (w ∷ ws) (with_clocks all no_assignments xs))
  unfolding part_tokens assigns_next with_clocks
  assign_part [] h f apart ws b = rw (ahead_is f kinds.assign b, apart) (record { before = b; is = refl })
  assign_part (x ∷ xs) h {w} f apart ws b =
      let given : Tokens =
      assignment_tokens u all x ++ later_items (bytes ",") (bytes ";") (map (assignment_tokens u all) xs) in
      rw (ahead_is assign_fine kinds.assign b)
      (then_read _ _ (λ q. Ahead s q (given ++ (w ∷ ws)))
      (AssignmentsAre s (w ∷ ws) (with_clocks all no_assignments (x ∷ xs))) (taken assign_fine b)
      (λ q a. items_read u known few all allowed x xs no_assignments h (w ∷ ws) (rw append_assoc at a)))

  pub assignments_read : {w : List ℕ} {j : ℕ} → Fine w j → eqb j kinds.assign ≡ false
      → (ws : Tokens) {p : ℕ} → Ahead s p (assignments_tokens u clocks all ++ (w ∷ ws))
      → IsOkAnd (assigns_next shortest_tick s p names) (AssignmentsRead s (w ∷ ws) clocks all)
  unfolding assignments_tokens no_assignments
  assignments_read {w} f apart ws b =
      let q : Assigned all 0 clocks no_assignments (with_clocks all no_assignments (assigned_clocks all 0 clocks)) =
      assigned_again all 0 clocks no_assignments (omega arith) in
      read_so _ (AssignmentsAre s (w ∷ ws) (with_clocks all no_assignments (assigned_clocks all 0 clocks)))
      (AssignmentsRead s (w ∷ ws) clocks all)
      (assign_part (assigned_clocks all 0 clocks) (clocks_below all 0 clocks clocks (omega arith)) f apart ws b)
      (λ x r. record {
        before = r.before;
        same = λ i l. rw r.is (q.new i (omega arith) (omega arith) (none_assigned i));
        no_more = λ i l. rw r.is (q.past i (omega arith) ∙ none_assigned i);
      })
