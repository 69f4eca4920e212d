-- Laws of the items.
use Rattle.std.specs.Prelude.{◌≡◌, List, [], ◌∷◌, ℕ, zero, suc, ◌+◌, ◌-◌, ◌≤◌, ◌<◌, length, get_or, set}
use Rattle.std.proofs.Common.{sym, ap, subst, ◌∙◌, ⊎_elim, arith, get_or-set_same, get_or-set_other}
use Rattle.std.proofs.Math.Decide.{ℕ_discrete}
use Rattle.reader_record.specs.declared.Constraint.{Constraint}
use Rattle.reader_record.specs.declared.Assignment.{Assignment}
use Rattle.reader_record.specs.declared.Edge.{Edge}
use Rattle.limits.specs.Limits.{clock_limit, comparison_limit}
use Rattle.reader_record.specs.Record.{no_assignment, comparison}
use Rattle.joined.specs.Joined.{shifted, both_constraints, both_assignments}
use Rattle.joined.proofs.Lists.{below}
use Rattle.joined.proofs.Assigned.{assignment_missing}
use Rattle.joined.proofs.Formed.{both_right}
use Rattle.joined.proofs.Alike.{AlikeConstraint}
use Rattle.joining_items.specs.Items.{Nearly}

-- a constraint that is short enough is alike
pub nearly_alike : (g r : Constraint) → Nearly g r → g.count ≤ comparison_limit → AlikeConstraint g r
nearly_alike g r n h = record { count = n.count; each = λ i l. n.each i l (omega arith) }

-- comparison i of two joined: the right's
pub both_behind : (n : ℕ) (g h : Constraint) (i : ℕ) → g.count ≤ i → i < g.count + h.count
    → comparison (both_constraints n g h) i ≡ shifted n (comparison h (i - g.count))
both_behind n g h i a b =
    let e : i ≡ g.count + (i - g.count) = omega arith in
    ap (comparison (both_constraints n g h)) e ∙ both_right n g h (i - g.count) (omega arith)

-- below the last or the last
pub below_last : (i j : ℕ) → i < j + 1 → (i ≡ j → ⊥) → i < j
below_last i j l z = ⊎_elim (λ a. a) (λ a. absurd (z (omega arith))) (below i j)

-- what holds of the first i items holds of one more
pub kept_more : {X : Type 0} (d : X) (P : ℕ → X → Type 0) (xs : List X) (i : ℕ) (q : X) → i < length xs → P i q
    → ((j : ℕ) → j < i → P j (get_or xs j d)) → (j : ℕ) → j < i + 1 → P j (get_or (set xs i q) j d)
kept_more d P xs i q l e h j k = elim (ℕ_discrete j i) [
  | yes z ↦ subst (λ (m : ℕ). P m (get_or (set xs i q) m d)) (sym z) (subst (P i) (sym (get_or-set_same xs i q d l)) e)
  | no z ↦ subst (P j) (sym (get_or-set_other xs i j q d z)) (h j (below_last j i k z))
]

-- three assignments that are right are all
module _ (m n : ℕ) (a b : Edge) where
  abbrev both_at : ℕ → Assignment
  both_at k = get_or (both_assignments m n a b) k no_assignment

  pub three_assignments : (x y z : Assignment) → m + n ≤ clock_limit → x ≡ both_at 0 → y ≡ both_at 1 → z ≡ both_at 2
      → (k : ℕ) → get_or (x ∷ y ∷ z ∷ []) k no_assignment ≡ both_at k
  three_assignments x y z l p q r zero = p
  three_assignments x y z l p q r (suc zero) = q
  three_assignments x y z l p q r (suc (suc zero)) = r
  three_assignments x y z l p q r (suc (suc (suc k))) =
      sym (assignment_missing m n a b (suc (suc (suc k))) (omega arith))
