-- Records that say the same are written as the same text: so the code may build the joined record in arrays, with
-- whatever filling, and write that.
use Rattle.std.specs.Prelude.{◌≡◌, get_or}
use Rattle.std.proofs.Math.Path.{refl}
use Rattle.std.proofs.Common.{ap, zero-add, arith}
use mathlib.Core.List.{List, [], ◌∷◌, map}
use Prim.Native.Nat.{ℕ, zero, suc, ◌+◌, ◌<◌}
use Rattle.reader_tokens.specs.Scan.{bytes}
use Rattle.reader_record.specs.declared.Constraint.{Constraint}
use Rattle.reader_record.specs.declared.Assignment.{Assignment}
use Rattle.reader_record.specs.declared.Edge.{Edge}
use Rattle.reader_record.specs.declared.Text.{Text}
use Rattle.reader_record.specs.Record.{no_assignment, comparison, edge, invariant_of}
use Rattle.joined.proofs.Alike.{AlikeConstraint, AlikeEdge, Alike}
use Rattle.written.specs.Spaced.{Tokens, part_tokens, numbered_items}
use Rattle.written.specs.Written.{location_called, comparison_tokens, constraint_tokens, location_tokens, assigned_clocks, assignment_tokens, assignments_tokens, edge_tokens, list_tokens, location_list, edge_list, text_tokens, written_with}
use Rattle.written.specs.Underscores.{underscores_of, written_text}

items_same : (f g : ℕ → Tokens) (i n : ℕ) → ((k : ℕ) → k < n → f (i + k) ≡ g (i + k))
    → numbered_items f i n ≡ numbered_items g i n
unfolding numbered_items
items_same f g i zero h = refl
items_same f g i (suc n) h =
    let a : f i ≡ g i = (let e : i + 0 ≡ i = omega arith in rw e at (h 0 (omega arith))) in
    rw (a, items_same f g (suc i) n later)
  where
    later : (k : ℕ) → k < n → f (suc i + k) ≡ g (suc i + k)
    later k l = let e : i + suc k ≡ suc i + k = omega arith in rw e at (h (suc k) (omega arith))

constraint_same : (opening closing : List ℕ) (u : ℕ) (g h : Constraint) → AlikeConstraint g h
    → constraint_tokens opening closing u h ≡ constraint_tokens opening closing u g
unfolding constraint_tokens
constraint_same opening closing u g h s = ap (part_tokens (opening ∷ []) _ closing)
    (rw s.count (items_same (λ i. comparison_tokens u (comparison h i)) (λ i. comparison_tokens u (comparison g i)) 0
    g.count (λ k l. rw (zero-add k) (ap (comparison_tokens u) (s.each k l)))))

-- equal assignments: the same clocks, each with the same value
module _ (a b : List Assignment) (h : (k : ℕ) → get_or b k no_assignment ≡ get_or a k no_assignment) where
  clocks_same : (i n : ℕ) → assigned_clocks b i n ≡ assigned_clocks a i n
  unfolding assigned_clocks
  clocks_same i zero = refl
  clocks_same i (suc n) = rw (h i, clocks_same (suc i) n)

  values_same : (u : ℕ) (clocks : List ℕ) → map (assignment_tokens u b) clocks ≡ map (assignment_tokens u a) clocks
  unfolding assignment_tokens
  values_same u [] = refl
  values_same u (k ∷ clocks) = rw (h k, values_same u clocks)

  assignments_same : (u clocks : ℕ) → assignments_tokens u clocks b ≡ assignments_tokens u clocks a
  unfolding assignments_tokens
  assignments_same u clocks = rw (clocks_same 0 clocks, values_same u (assigned_clocks a 0 clocks))

edge_same : (names : List (List ℕ)) (u clocks : ℕ) (e d : Edge) → AlikeEdge e d
    → edge_tokens names u clocks d ≡ edge_tokens names u clocks e
unfolding edge_tokens
edge_same names u clocks e d s =
    rw (
      constraint_same (bytes "guard") (bytes ";") u e.guard d.guard s.guard,
      assignments_same e.assignments d.assignments s.assignments u clocks,
      s.source,
      s.target,
      s.label,
    )

-- a record that says what t says is written as t is
module _ (t x : Text) (s : Alike t x) where
  tokens_same : (names : List (List ℕ)) (u : ℕ) → text_tokens names u x ≡ text_tokens names u t
  unfolding text_tokens
  tokens_same names u = rw (locations_same, edges_same, s.channel_count, s.clock_count, s.init)
    where
      locations_same : location_list u x ≡ location_list u t
      locations_same = unfold location_list list_tokens location_tokens in
          rw s.location_count (ap (part_tokens _ _ _)
          (items_same (location_tokens u x) (location_tokens u t) 0 t.location_count
          (λ k l. rw (zero-add k) (ap (λ ws. location_called u k ∷ ws)
          (constraint_same (bytes "{") (bytes "}") u (invariant_of t k) (invariant_of x k) (s.invariants k l))))))

      edges_same : edge_list names u x ≡ edge_list names u t
      edges_same = unfold edge_list list_tokens in
          rw (s.edge_count, s.clock_count) (ap (part_tokens _ _ _)
          (items_same (λ i. edge_tokens names u t.clock_count (edge x i))
          (λ i. edge_tokens names u t.clock_count (edge t i)) 0 t.edge_count
          (λ k l. rw (zero-add k) (edge_same names u t.clock_count (edge t k) (edge x k) (s.edges k l)))))

  pub text_same : (names : List (List ℕ)) → written_text names x ≡ written_text names t
  unfolding written_text written_with underscores_of
  text_same names = rw (tokens_same names, s.channel_count, s.clock_count, s.location_count)
