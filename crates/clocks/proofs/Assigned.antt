-- Clocks after the assignments of an edge: the values assigned, in the configuration and in its state, and what an edge
-- that gives a move asks for (SPECIFICATION 6.3, 6.4, 17.13).
use Rattle.std.specs.Prelude.{◌≡◌, refl, ◌↔◌, Bool, true, false, cond, ℕ, ◌+◌, ◌<◌, T, eqb}
use Rattle.std.proofs.Common.{sym, ap, ◌∙◌, arith, eqb-true}
use Rattle.std.proofs.lemmas.Bool.{eqb-false}
use Rattle.limits.specs.Limits.{clock_limit}
use Rattle.reader_record.specs.declared.Edge.{Edge}
use Rattle.reader_record.specs.declared.Text.{Text}
use Rattle.reader_record.specs.Record.{assignment, edge, invariant_of, channel}
use Rattle.reader_record.specs.Formed.{WellFormed}
use Rattle.clocks.specs.declared.Config.{Config}
use Rattle.clocks.specs.Meaning.{clock_value, holds, assigned, after}
use Rattle.clocks.specs.States.{largest, ranges, cap, state, config}
use Rattle.clocks.proofs.Numbers.{ranges_positive, cap_small, config_state}
use Rattle.clocks.specs.Faults.{edge_gives}
use Rattle.clocks.proofs.Agreement.{value_capped, value_within}
use Rattle.clocks.proofs.Standing.{gives_exactly}

-- a clock after an edge
pub value_after : (e : Edge) (v : Config) (k : ℕ) → k < clock_limit
    → clock_value (after e v) k ≡ assigned e k (clock_value v k)
unfolding clock_value after
value_after e v k h = go (eqb k 0) refl (eqb k 1) refl
  where
    go : (a : Bool) → eqb k 0 ≡ a → (b : Bool) → eqb k 1 ≡ b
        → cond a (assigned e 0 v.x) (cond b (assigned e 1 v.y) (assigned e 2 v.z))
        ≡ assigned e k (cond a v.x (cond b v.y v.z))
    go true p b q = ap (λ (i : ℕ). assigned e i v.x) (sym (eqb-true k 0 p))
    go false p true q = ap (λ (i : ℕ). assigned e i v.y) (sym (eqb-true k 1 q))
    go false p false q =
        let n0 : k ≡ 0 → ⊥ = eqb-false k 0 p in
        let n1 : k ≡ 1 → ⊥ = eqb-false k 1 q in
        let e2 : 2 ≡ k = omega arith in
        ap (λ (i : ℕ). assigned e i v.z) e2

-- it has the value assigned, or is as it was
pub value_set : (e : Edge) (v : Config) (k : ℕ) → k < clock_limit → (assignment e k).made ≡ true
    → clock_value (after e v) k ≡ (assignment e k).value
unfolding assigned
value_set e v k h m = value_after e v k h ∙ rw m

pub value_kept : (e : Edge) (v : Config) (k : ℕ) → k < clock_limit → (assignment e k).made ≡ false
    → clock_value (after e v) k ≡ clock_value v k
unfolding assigned
value_kept e v k h m = value_after e v k h ∙ rw m

-- in the state that an edge leads to it has the value assigned too, since that one is at most M
pub value_in_state : (t : Text) → WellFormed t → (i k : ℕ) → i < t.edge_count → (v : Config)
    → (assignment (edge t i) k).made ≡ true
    → clock_value (config (ranges t) (state (ranges t) (after (edge t i) v))) k ≡ (assignment (edge t i) k).value
value_in_state t w i k h v m =
    let l : k < t.clock_count = (w.assigned i h).clock k m in
    ap (λ (u : Config). clock_value u k) (config_state (ranges t) (ranges_positive t) (after (edge t i) v))
    ∙ value_capped t (after (edge t i) v) k l w.clocks
    ∙ ap (cap (largest t k + 2)) (value_set (edge t i) v k (omega (arith, w.clocks)) m)
    ∙ cap_small (largest t k + 2) (assignment (edge t i) k).value (omega (arith, value_within t w i k h))

-- what an edge that gives a move asks for: the guard before the assignments, the target's invariant after them
pub edge_gives_exactly : (t : Text) (v : Config) (c i : ℕ) → T (edge_gives t v c i)
    ↔ (((edge t i).source ≡ v.location) × (channel (edge t i).label ≡ c) × T (holds (edge t i).guard v)
    × T (holds (invariant_of t (edge t i).target) (after (edge t i) v)))
unfolding edge_gives
edge_gives_exactly t v c i = gives_exactly (invariant_of t (edge t i).target) (edge t i) v c
