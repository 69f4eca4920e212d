-- For the operations: what slices that hold two systems give `prepare`, and what it gives back of the left one.
use Rattle.std.specs.Prelude.{◌≡◌, Bool, List, ℕ, ◌≤◌, ◌<◌, length}
use Rattle.std.proofs.Common.{arith}
use Rattle.systems.specs.Definitions.{Signature}
use Rattle.systems.specs.Finite.{FiniteSystem}
use Rattle.systems.proofs.Sieve.{length_table}
use Rattle.bitmaps.specs.Packed.{bytes_for}
use Rattle.bitmaps.specs.PackedLaws.{packed_self}
use Rattle.move_tables.specs.declared.Sides.{Sides}
use Rattle.move_tables.specs.Given.{Given}
use Rattle.move_tables.specs.Held.{Held}
use Rattle.tables_rows.specs.Given.{Systems}
use Rattle.tables_prepare.specs.Prepared.{Ready, ReadyTwo, SafeLeft, Prepared}
use Rattle.tables_prepare.specs.Paths.{safe_packed}

module _ {A : Signature} {L R : FiniteSystem A} {sides : Sides} {inputs : List Bool} {lm rm lh rh : List ℕ}
    (H : Held L R sides inputs lm rm lh rh) where
  pub held_ready : ReadyTwo sides inputs lm rm lh
  held_ready = record {
    left = record {
      bounded = H.left_bounded;
      bits = H.left_bits;
      start = omega (arith, L.start_state.0, H.left_size, H.left_start);
      known = omega (arith, H.steps_told, H.left_bounded.short);
    };
    right = H.right_bounded;
    right_start = omega (arith, R.start_state.0, H.right_size, H.right_start);
  }

  pub safe_left : (lm' keep keep' : List ℕ) (start : Bool) → Prepared sides inputs lh lm lm' keep keep' start
      → SafeLeft L sides lm' keep keep' start
  safe_left lm' keep keep' start P = P.left A L H.left_encoded H.left_invariants H.left_start

  pub prepared_moves : (lm' keep keep' : List ℕ) (start : Bool) → Prepared sides inputs lh lm lm' keep keep' start
      → Given A L R lm' rm sides.left_states sides.right_states sides.steps
  prepared_moves lm' keep keep' start P = record {
    left_size = H.left_size;
    right_size = H.right_size;
    known = H.left_encoded.known;
    left = (safe_left lm' keep keep' start P).moves_left;
    right = H.right_encoded;
  }

  pub prepared_systems : (lm' keep keep' : List ℕ) (start : Bool) → Prepared sides inputs lh lm lm' keep keep' start
      → bytes_for sides.left_states ≤ length keep → Systems A L R keep' rh lm' rm sides
  prepared_systems lm' keep keep' start P long = record {
    moves = prepared_moves lm' keep keep' start P;
    left_start = H.left_start;
    right_start = H.right_start;
    safe_bits = packed_self (safe_packed L sides.left_states keep keep' H.left_size long
        (safe_left lm' keep keep' start P).kept);
    true_bits = record {
      long = length_table sides.right_states R.holds;
      room = H.right_bits.is.room;
      is = H.right_invariants;
    };
  }
