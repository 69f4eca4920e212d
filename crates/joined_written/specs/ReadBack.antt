-- What is read from the text of a well-formed record says what the record says, where that has each assignment written
-- once.
use Rattle.std.specs.Prelude.{◌≡◌, refl, true, ◌&&◌, List, ℕ, suc, ◌-◌, ◌≤◌, ◌<◌, T, ltb, leb}
use Rattle.std.proofs.Common.{sym, subst, ap, ◌∙◌, ⊎_elim, arith}
use Rattle.systems.specs.Bools.{T_same}
use Rattle.reader_record.specs.declared.Constraint.{Constraint}
use Rattle.reader_record.specs.declared.Direction.{Direction}
use Rattle.reader_record.specs.declared.Assignment.{Assignment}
use Rattle.reader_record.specs.declared.Text.{Text}
use Rattle.reader_record.specs.Record.{no_assignment, written_once, assignment, direction_of, edge}
use Rattle.reader_record.specs.Formed.{WellFormed}
use Rattle.clocks.specs.States.{is_input, input}
use Rattle.clocks.proofs.Judgement.{input_known}
use Rattle.joined.proofs.Alike.{AlikeConstraint, AlikeEdge, Alike}
use Rattle.joined.proofs.Lists.{below}
use Rattle.joined.proofs.Assigned.{once_cases}
use Rattle.joined.proofs.Inputs.{input_parts, input_is}
use Rattle.written.proofs.Same.{SameConstraint, SameText}
use Rattle.joined_written.specs.Directions.{direction_read}

alike_constraint : {g h : Constraint} → SameConstraint g h → AlikeConstraint g h
alike_constraint s = record { count = s.count; each = s.each }

-- an edge that assigns declared clocks alone writes nothing past them
not_written : (a : Assignment) (k n : ℕ) → (a.made ≡ true → k < n) → n ≤ k → written_once a ≡ no_assignment
not_written a k n h l = once_cases (λ q. q ≡ no_assignment) a
    (λ e. let m = h e in absurd (omega arith)) (λ e. refl)

-- each assignment has its value as the largest one (SPECIFICATION 5.4): nothing is lost where it is written once
abbrev pub WrittenOnce : Text → Type 0
WrittenOnce t = (i : ℕ) → i < t.edge_count → (k : ℕ)
    → written_once (assignment (edge t i) k) ≡ assignment (edge t i) k

module _ (t x : Text) (s : List ℕ) (words : List (List ℕ)) (u : ℕ) (w : WellFormed t)
    (once : WrittenOnce t) (same : SameText s words u t x) where
  direction_same : (c : ℕ) → 0 < c → c ≤ t.channel_count → direction_of x c ≡ direction_of t c
  direction_same c p q =
      let e : suc (c - 1) ≡ c = omega arith in
      same.directions (c - 1) (omega arith) ∙ direction_read t w (c - 1) (omega arith) ∙ ap (direction_of t) e

  input_same : (c : ℕ) → input x c ≡ input t c
  input_same c = T_same (input x c) (input t c)
      (λ i.
      let (n, d) = input_parts x c i in
      let (p, q) = input_known x c i in
      let m : c ≤ t.channel_count = omega (arith, same.channel_count) in
      input_is t c (subst (λ (k : ℕ). T (ltb 0 c && leb c k)) same.channel_count n)
      (subst (λ (d : Direction). T (is_input d)) (direction_same c p m) d))
      (λ i.
      let (n, d) = input_parts t c i in
      let (p, q) = input_known t c i in
      input_is x c (subst (λ (k : ℕ). T (ltb 0 c && leb c k)) (sym same.channel_count) n)
      (subst (λ (d : Direction). T (is_input d)) (sym (direction_same c p q)) d))

  edge_same : (i : ℕ) → i < t.edge_count → AlikeEdge (edge t i) (edge x i)
  edge_same i h =
      let e = same.edges i h in
      record {
        source = e.source;
        target = e.target;
        guard = alike_constraint e.guard;
        label = e.label;
        assignments = λ k. ⊎_elim (λ n. e.assignments k n)
            (λ n. e.no_more k n ∙ sym (not_written (assignment (edge t i) k) k t.clock_count
            ((w.assigned i h).clock k) n))
            (below k t.clock_count) ∙ once i h k;
      }

  pub read_back_alike : Alike t x
  read_back_alike = record {
    channel_count = same.channel_count;
    clock_count = same.clock_count;
    location_count = same.location_count;
    edge_count = same.edge_count;
    init = same.init;
    inputs = input_same;
    invariants = λ i h. alike_constraint (same.invariants i h);
    edges = edge_same;
  }
