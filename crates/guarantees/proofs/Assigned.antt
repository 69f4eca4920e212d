-- The assignments of an accepted text are as specs/Assignments.antt asks, by the laws of crate clocks.
use Rattle.std.specs.Prelude.{◌≡◌, true, ℕ, ◌<◌, T}
use Rattle.std.proofs.Common.{sym, ap, ◌∙◌, arith}
use Rattle.reader_record.specs.declared.Text.{Text}
use Rattle.reader_record.specs.Record.{assignment, edge}
use Rattle.clocks.specs.declared.Config.{Config}
use Rattle.clocks.specs.declared.Moves.TheVariants.{One}
use Rattle.clocks.specs.Meaning.{clock_value, after, stands}
use Rattle.clocks.specs.Faults.{edge_gives}
use Rattle.clocks.specs.Accepted.{Accepted}
use Rattle.clocks.proofs.Agreement.{written_within}
use Rattle.clocks.proofs.Assigned.{value_set, value_kept, value_in_state, edge_gives_exactly}
use Rattle.clocks.proofs.Found.{standing_one_move}
use Rattle.guarantees.specs.Assignments.{AssignmentsDemand}

one_same : (v w : Config) → One v ≡ One w → v ≡ w
one_same v w e = cc

module _ (t : Text) (a : Accepted t) where
  set : (i k : ℕ) → i < t.edge_count → (assignment (edge t i) k).made ≡ true → (x : Config)
      → clock_value (after (edge t i) x) k ≡ (assignment (edge t i) k).value
  set i k h m x = value_set (edge t i) x k (omega (arith, (a.formed.assigned i h).clock k m, a.formed.clocks)) m

  -- both edges lead where the step leads
  one_end : (x : Config) → T (stands t x) → (c i j : ℕ) → i < t.edge_count → j < t.edge_count
      → T (edge_gives t x c i) → T (edge_gives t x c j) → after (edge t i) x ≡ after (edge t j) x
  one_end x s c i j h l p q =
      one_same (after (edge t i) x) (after (edge t j) x)
      (sym (standing_one_move t a x s c i h p) ∙ standing_one_move t a x s c j l q)

  pub assignments_promised : AssignmentsDemand t
  assignments_promised = record {
    declared = λ i k h. (a.formed.assigned i h).clock k;
    written = λ i k h. (a.formed.assigned i h).written k;
    counted = λ i k h. written_within t i h k;
    allowed = λ i k h. (a.formed.assigned i h).allowed k;
    set = set;
    set_in_state = λ i k h m x. value_in_state t a.formed i k h x m;
    kept = λ i k h m x. value_kept (edge t i) x k h m;
    gives = λ x c i. edge_gives_exactly t x c i;
    alike = λ x s c i j k h l p q m n. sym (set i k h m x) ∙ ap (λ (u : Config). clock_value u k)
        (one_end x s c i j h l p q) ∙ set j k l n x;
  }
