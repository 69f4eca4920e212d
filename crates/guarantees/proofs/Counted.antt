-- The safe-state operation on an accepted text with a keep that is long enough.
use Rattle.std.specs.Prelude.{◌≡◌, Bool, true, false, ℕ, ◌≤◌, ◌<◌, ltb, length, Result, Ok, Err}
use Rattle.std.proofs.Math.Path.{refl, ap, subst}
use Rattle.std.proofs.Common.{sym, ◌∙◌, arith, ext_get_or, ltb-false}
use mathlib.Core.List.{List}
use Rattle.std.proofs.Math.Dec.{T}
use Rattle.refusals.specs.declared.Refusal.{Refusal}
use Rattle.refusals.specs.Answers.{answer_of}
use Rattle.reader_record.specs.declared.Text.{Text}
use Rattle.systems.specs.Tests.{at, ones, table}
use Rattle.systems.specs.Definitions.{LargestSafeSet}
use Rattle.systems.specs.Finite as finite
use Rattle.systems.proofs.Theorems.{safe_states_largest, implementation_iff, start_safe_iff}
use Rattle.bitmaps.specs.Bits.{bit_at}
use Rattle.bitmaps.specs.Packed.{bytes_for, packed}
use Rattle.systems.proofs.Sieve.{length_table}
use Rattle.tables_rows.specs.TableLaws.{table_at}
use Rattle.clocks.specs.States.{state_count, start_state}
use Rattle.clocks.specs.Safe.{safe_states}
use Rattle.clocks.proofs.Encoded.{safe_states_same}
use Rattle.clocks.specs.Accepted.{Accepted}
use Rattle.clocks.proofs.Contract.{system}
use Rattle.clocks_read.specs.declared.Reading.{Reading}
use Rattle.clocks_read.specs.Reading.{read_outcome, text_in}
use Rattle.clocks_read.specs.Laws.{read_accepted}
use Rattle.two_texts.specs.Two.{text_of}
use Rattle.safe_states.specs.Outcome.{Outcome, found_outcome, kept_outcome, answered, safe_outcome}
use Rattle.safe_states.specs.Consistent.{succeeds}
use Rattle.demands.specs.Words.{Keeps, LongEnough}
use Rattle.demands.proofs.Same.{same_safe}
use Rattle.demands.proofs.Kept.{packed_byte, safe_length, keeps}
use Rattle.guarantees.specs.Texts.{AcceptedText, states, meaning, number}
use Rattle.guarantees.specs.Demands.{SafeDemand}
use Rattle.guarantees.proofs.Setting.{states_are, one_capping, numbered_states, numbered_number}

kept_long : (t : Text) (keep : List ℕ) (b : Bool) → ltb (length keep) (bytes_for (state_count t)) ≡ b
    → LongEnough (kept_outcome t keep).answer → ltb (length keep) (bytes_for (state_count t)) ≡ false
unfolding kept_outcome
kept_long t keep true q m = absurd (m.keep (bytes_for (state_count t)) (rw (q, kept_outcome)))
kept_long t keep false q m = q

-- an accepted text's outcome goes by its record
kept_by : (r : Result Reading Refusal) (keep : List ℕ) → answer_of r ≡ Ok tt → LongEnough (answered r keep).answer
    → LongEnough (kept_outcome (text_in r) keep).answer
unfolding answered
kept_by (Ok r) keep e l = l
kept_by (Err f) keep e l = let z : ◌≡◌ {A = ℕ} 0 1 = cc in absurd (omega arith)

-- the bits that are written are the table
bits_table : (n : ℕ) (X : List Bool) (d : List ℕ) → length X ≡ n → table n (bit_at (packed n X d)) ≡ X
bits_table n X d l = ext_get_or false (table n (bit_at (packed n X d))) X (length_table n (bit_at (packed n X d))
    ∙ sym l) (λ i h.
    let k : i < n = omega (arith, length_table n (bit_at (packed n X d))) in
    table_at n (bit_at (packed n X d)) i k ∙ packed_byte n X d i (omega arith))

safe_size : (t : Text) → Accepted t → length (safe_states t) ≡ state_count t
safe_size t a = ap length (safe_states_same t a) ∙ unfold system in safe_length (system t a)

module _ (period : ℕ) (s : List ℕ) (a : AcceptedText period s) (keep : List ℕ) where
  abbrev t : Text
  t = text_of period s

  abbrev accepted : Accepted (text_of period s)
  accepted = (read_accepted period s a).accepted

  -- a keep that is not refused with 13 is long enough
  keep_long : LongEnough (safe_outcome period s keep).answer
      → ltb (length keep) (bytes_for (state_count t))
      ≡ false
  unfolding safe_outcome
  keep_long l = kept_long t keep (ltb (length keep) (bytes_for (state_count t))) refl
      (kept_by (read_outcome period s) keep a l)

  -- it gives what it should
  pub safe_demand : LongEnough (safe_outcome period s keep).answer
      → SafeDemand period s a keep (safe_outcome period s keep)
  safe_demand l =
      let f = keep_long l in
      let room : bytes_for (state_count t) ≤ length keep = ltb-false (length keep) (bytes_for (state_count t)) f in
      subst (λ (o : Outcome). SafeDemand period s a keep o) (sym (succeeds period s keep a room)) (given f)
    where
      start_same : at (safe_states t) (start_state t) ≡ finite.safe (system t accepted) (system t accepted).start
      start_same = unfold system in ap (λ (X : List Bool). at X (start_state t)) (safe_states_same t accepted)

      bits : ltb (length keep) (bytes_for (state_count t)) ≡ false
          → packed (system t accepted).size (finite.safe_states (system t accepted)) keep
          ≡ packed (state_count t) (safe_states t) keep
      bits f = unfold system in ap (λ (X : List Bool). packed (state_count t) X keep)
          (sym (safe_states_same t accepted))

      written : ltb (length keep) (bytes_for (state_count t)) ≡ false → (S : (meaning period s a).State → Type 0)
          → LargestSafeSet (meaning period s a) S
          → Keeps (states period s) (number period s a) S keep (packed (state_count t) (safe_states t) keep)
      written f S q =
          subst (λ (n : ℕ). Keeps n (number period s a) S keep (packed (state_count t) (safe_states t) keep))
          (sym (numbered_states period s a accepted))
          (subst (λ (g : (meaning period s a).State → ℕ). Keeps (system t accepted).size g S keep
          (packed (state_count t) (safe_states t) keep)) (sym (numbered_number period s a accepted))
          (subst (Keeps (system t accepted).size (one_capping period s a accepted).cap S keep) (bits f)
          (keeps (one_capping period s a accepted) S q keep (unfold system in f))))

      given : ltb (length keep) (bytes_for (state_count t)) ≡ false → SafeDemand period s a keep (found_outcome t keep)
      given f = unfold found_outcome in record {
        count = ones (safe_states t);
        start = at (safe_states t) (start_state t);
        answer = refl;
        start_safe = λ S q.
            let i = start_safe_iff (one_capping period s a accepted) in
            let j = same_safe (safe_states_largest (one_capping period s a accepted)) q (meaning period s a).start in
            (λ x. j.0 (i.0 (subst T start_same x)), λ x. subst T (sym start_same) (i.1 (j.1 x)));
        start_means =
            let i = implementation_iff (one_capping period s a accepted) in
            (λ x. i.1 (subst T start_same x), λ x. subst T (sym start_same) (i.0 x));
        kept = λ S q. written f S q;
        count_is = rw (states_are period s a) (ap ones
            (sym (bits_table (state_count t) (safe_states t) keep (safe_size t accepted))));
      }
