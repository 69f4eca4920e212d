-- Laws for the path of `prepare`, and for its callers.
use Rattle.std.specs.Prelude.{◌≡◌, Bool, List, ℕ, ◌≤◌, length}
use Rattle.std.proofs.Common.{sym, ap, ◌∙◌}
use Rattle.systems.specs.Tests.{at, table}
use Rattle.systems.specs.Definitions.{Signature}
use Rattle.systems.specs.Finite.{FiniteSystem, safe, safe_states, safe_test}
use Rattle.bitmaps.specs.Bits.{bit_at}
use Rattle.bitmaps.specs.Packed.{bytes_for, packed, Packed}
use Rattle.bitmaps.specs.PackedLaws.{packed_bit, packed_self}
use Rattle.systems.proofs.Sieve.{length_table, length_stage}
use Rattle.clocks_safe.specs.Settle.{SafeAnswer}
use Rattle.tables_prune.specs.Prune.{Pruned}
use Rattle.move_tables.specs.declared.Sides.{Sides}
use Rattle.tables_prepare.specs.Prepared.{Ready, Prepared}

-- there are as many entries of safe states as states
pub length_safe : {A : Signature} (L : FiniteSystem A) → length (safe_states L) ≡ L.size
unfolding safe_states
length_safe L = length_stage (safe_test L) (table L.size L.holds) L.size ∙ length_table L.size L.holds

-- keep with the safe states, as a bitmap over what it was
pub safe_packed : {A : Signature} (L : FiniteSystem A) (n : ℕ) (keep keep' : List ℕ) → L.size ≡ n
    → bytes_for n ≤ length keep
    → keep' ≡ packed n (safe_states L) keep → Packed n (safe_states L) keep keep'
safe_packed L n keep keep' e h q = record { long = length_safe L ∙ e; room = h; is = q }

-- the safe states are written, the moves are pruned, the start's bit is read
pub prepared : (sides : Sides) (inputs : List Bool) (holds moves moves' keep keep' : List ℕ) (count : ℕ) (start : Bool) → Ready sides inputs moves holds
    → bytes_for sides.left_states ≤ length keep
    → SafeAnswer holds moves inputs sides.left_states sides.steps keep keep' count
    → Pruned sides.left_states sides.steps keep' moves moves'
    → start ≡ bit_at keep' sides.left_start → Prepared sides inputs holds moves moves' keep keep' start
prepared sides inputs holds moves moves' keep keep' count start R h S P b = record {
  bounded = P.bounded;
  left = λ A L E W s.
      let k = (S A L E W).0 in
      let p = safe_packed L sides.left_states keep keep' E.size h k in
      record {
        kept = k;
        answer = b ∙ packed_bit p sides.left_start R.start ∙ ap (at (safe_states L)) (sym s);
        moves_left = P.encodes A L E.moves (packed_self p);
      };
}
