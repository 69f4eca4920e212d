-- first_row leaves nothing in the row of a state that is not safe, and cuts any other by one mask after the other.
use Rattle.std.specs.Prelude.{ℕ}
use Rattle.bitmaps.specs.Bits.{bit_at}
use Rattle.tables_first.specs.Cuts.{Cuts}
use Rattle.tables_first.specs.Masks.{passes}
use Rattle.tables_first.proofs.first_row.Given as goal

abbrev pub invariant-loop-c : goal.invariant-loop-c
invariant-loop-c l = Cuts l.sides.right_states (bit_at l.holds) (λ (x : ℕ). ⊥)
    (passes l.lm l.masks l.sides.right_states l.sides.steps l.s) l.c l.row
