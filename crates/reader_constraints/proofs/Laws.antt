-- One turn of `constraint_from`, and of what stands beside its fault.
use Rattle.std.specs.Prelude.{◌≡◌, Bool, true, false, List, ℕ, suc, ◌+◌, ◌-◌, ◌<◌, Ok, Err}
use Rattle.std.proofs.Common.{arith}
use Rattle.reader_tokens.specs.Kinds as kinds
use Rattle.reader_record.specs.declared.Name.{Name}
use Rattle.reader_record.specs.declared.Constraint.{Constraint}
use Rattle.reader_parts.specs.declared.Fault.{Fault}
use Rattle.reader_parts.specs.Stages.{◌>>=◌, take, ahead}
use Rattle.reader_constraints.specs.declared.ComparisonRead.{ComparisonRead}
use Rattle.reader_constraints.specs.Constraints.{comparison_next, with_comparison, constraint_from}
use Rattle.reader_constraints.specs.SoFar.{comparison_so_far, constraint_so_far}

module _ (period : ℕ) (s : List ℕ) (names : List Name) (invariant : Bool) (closing p : ℕ) (c : Constraint) (room : ℕ)
  where
    pub turn_none : {f : Fault} → Err f ≡ comparison_next period s p names invariant false
        → constraint_from period (suc room) s names invariant closing p c ≡ Err f
    unfolding constraint_from
    turn_none e = rw (← e)

    module _ {x : ComparisonRead} (e : Ok x ≡ comparison_next period s p names invariant false) where
      pub turn_last : ahead s x.end kinds.both ≡ false
          → constraint_from period (suc room) s names invariant closing p c
          ≡ (take s x.end closing >>= λ q. Ok (record { constraint = with_comparison c x.comparison; end = q }))
      unfolding constraint_from
      turn_last h = rw (← e, h)

      pub turn_more : ahead s x.end kinds.both ≡ true
          → constraint_from period (suc room) s names invariant closing p c
          ≡ (take s x.end kinds.both
          >>= λ q. constraint_from period room s names invariant closing q (with_comparison c x.comparison))
      unfolding constraint_from
      turn_more h = rw (← e, h)

module _ (period : ℕ) (s : List ℕ) (names : List Name) (invariant : Bool) (p : ℕ) (c : Constraint) (room : ℕ)
  where
    pub so_far_none : {f : Fault} → comparison_next period s p names invariant false ≡ Err f
        → constraint_so_far period (suc room) s names invariant (Ok p) c
        ≡ with_comparison c (comparison_so_far period s (Ok p) names invariant false)
    unfolding constraint_so_far
    so_far_none e = rw e

    module _ {x : ComparisonRead} (e : comparison_next period s p names invariant false ≡ Ok x) where
      pub so_far_last : ahead s x.end kinds.both ≡ false
          → constraint_so_far period (suc room) s names invariant (Ok p) c ≡ with_comparison c x.comparison
      unfolding constraint_so_far
      so_far_last h = rw (e, h)

      pub so_far_more : {q : ℕ} → ahead s x.end kinds.both ≡ true → take s x.end kinds.both ≡ Ok q
          → constraint_so_far period (suc room) s names invariant (Ok p) c
          ≡ constraint_so_far period room s names invariant (Ok q) (with_comparison c x.comparison)
      unfolding constraint_so_far
      so_far_more h t = rw (e, h, t)

-- a turn at a count below the limit leaves room for one fewer
pub room_left : (limit k : ℕ) → k < limit → limit - k ≡ suc (limit - (k + 1))
room_left limit k h = omega arith
