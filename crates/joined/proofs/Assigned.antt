-- The assignments of two edges joined: the left's, then the right's, each written once (SPECIFICATION 18.5).
use Rattle.std.specs.Prelude.{◌≡◌, refl, Bool, true, false, cond, ℕ, ◌+◌, ◌-◌, ◌≤◌, ◌<◌, get_or}
use Rattle.std.proofs.Common.{ap, ◌∙◌, ⊎_elim, arith}
use Rattle.reader_record.specs.declared.Assignment.{Assignment}
use Rattle.reader_record.specs.declared.Edge.{Edge}
use Rattle.reader_record.specs.Record.{no_assignment, written_once, assignment}
use Rattle.joined.specs.Joined.{both_assignments}
use Rattle.joined.proofs.Lists.{below, two_left, two_right, two_past}

-- an assignment is made, and written once, or it is none
pub once_cases : (P : Assignment → Type 0) (a : Assignment)
    → (a.made ≡ true → P (record { made = true; value = a.value; largest = a.value }))
    → (a.made ≡ false → P no_assignment) → P (written_once a)
unfolding written_once
once_cases P a p q = by a.made refl
  where
    by : (t : Bool) → a.made ≡ t
        → P (cond a.made (record { made = true; value = a.value; largest = a.value }) no_assignment)
    by true e = rw e (p e)
    by false e = rw e (q e)

-- writing it once leaves a clock at the same value
pub once_assigned : (a : Assignment) (v : ℕ)
    → cond (written_once a).made (written_once a).value v ≡ cond a.made a.value v
once_assigned a v =
    once_cases (λ q. cond q.made q.value v ≡ cond a.made a.value v) a (λ e. rw e) (λ e. rw e)

-- what is written once is written the same again
pub once_again : (a : Assignment) → written_once (written_once a) ≡ written_once a
unfolding written_once
once_again a = by a.made refl
  where
    by : (t : Bool) → a.made ≡ t → written_once (written_once a) ≡ written_once a
    by true e = rw e
    by false e = rw e

-- the assignments of two edges, of texts with m and n clocks, clock by clock
module _ (m n : ℕ) (a b : Edge) where
  abbrev both_at : ℕ → Assignment
  both_at k = get_or (both_assignments m n a b) k no_assignment

  pub assignment_left : (k : ℕ) → k < m → both_at k ≡ written_once (assignment a k)
  unfolding both_assignments
  assignment_left k h =
      two_left no_assignment (λ k. written_once (assignment a k)) (λ k. written_once (assignment b k)) m n k h

  pub assignment_right : (k : ℕ) → k < n → both_at (m + k) ≡ written_once (assignment b k)
  unfolding both_assignments
  assignment_right k h =
      two_right no_assignment (λ k. written_once (assignment a k)) (λ k. written_once (assignment b k)) m n k h

  pub assignment_behind : (k : ℕ) → m ≤ k → k < m + n → both_at k ≡ written_once (assignment b (k - m))
  assignment_behind k h l =
      let e : k ≡ m + (k - m) = omega arith in
      ap both_at e ∙ assignment_right (k - m) (omega arith)

  pub assignment_missing : (k : ℕ) → m + n ≤ k → both_at k ≡ no_assignment
  unfolding both_assignments
  assignment_missing k h =
      two_past no_assignment (λ k. written_once (assignment a k)) (λ k. written_once (assignment b k)) m n k h

  -- what holds of each
  pub assignment_each : (P : Assignment → Type 0) → ((k : ℕ) → P (written_once (assignment a k)))
      → ((k : ℕ) → P (written_once (assignment b k))) → P no_assignment → (k : ℕ) → P (both_at k)
  assignment_each P p q none k = ⊎_elim (λ h. rw (assignment_left k h) (p k))
      (λ h. ⊎_elim (λ l. rw (assignment_behind k h l) (q (k - m))) (λ l. rw (assignment_missing k l) none)
      (below k (m + n)))
      (below k m)
