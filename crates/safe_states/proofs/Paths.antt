-- The ends of the code's paths.
use Rattle.std.specs.Prelude.{Result, Ok, Err}
use Rattle.std.specs.Result.{IsErrAnd}
use Rattle.std.proofs.lemmas.Result.{err_from_is_err_and}
use mathlib.Core.Path.{◌≡◌, refl, sym, ap, ◌∙◌}
use mathlib.Core.Bool.{Bool, true, false}
use mathlib.Core.List.{List}
use Prim.Native.Nat.{ℕ, ◌+◌, ◌*◌, ◌/◌, ◌≤◌, ◌<◌}
use native.Mathlib.Omega.{arith}
use lib.Dec.{ltb}
use lib.ListN.{length}
use borrow.Author.Tests.{lt-ltb, le-ltb}
use Rattle.systems.specs.Tests.{ones}
use Rattle.systems.specs.Finite as finite
use Rattle.refusals.specs.declared.Refusal.{Refusal}
use Rattle.refusals.specs.Refusals.{keep_too_short}
use Rattle.reader_record.specs.declared.Text.{Text}
use Rattle.bitmaps.specs.Bits.{tab_from, bit_at}
use Rattle.bitmaps.specs.Packed.{bytes_for, Packed, packed, Bitmap}
use Rattle.bitmaps.specs.PackedLaws.{packed_bit, packed_length}
use Rattle.move_tables.specs.Moves.{Bounded}
use Rattle.clocks.specs.declared.Ranges.{Ranges}
use Rattle.clocks.specs.Capped.{Positive}
use Rattle.clocks.specs.States.{state_count, start_state, input}
use Rattle.clocks_states.specs.Parts.{Counted}
use Rattle.clocks_walk.specs.declared.Walk.{Walk}
use Rattle.clocks_walk.specs.Carried.{FirstOf}
use Rattle.clocks_walk.specs.Start.{start_fits, start_first}
use Rattle.clocks_table.specs.Room.{Room}
use Rattle.clocks.specs.Safe.{safe_states}
use Rattle.clocks.proofs.Judgement.{judgement_few}
use Rattle.clocks.proofs.Contract.{system}
use Rattle.clocks.proofs.Encoded.{table_bounded, table_encoded, bits_bitmap, bits_start, safe_states_same, length_invariants, length_safe}
use Rattle.clocks_safe.specs.Settle.{SafeAnswer}
use Rattle.clocks_read.specs.declared.Reading.{Reading}
use Rattle.clocks_read.specs.Reading.{read_outcome, text_in}
use Rattle.clocks_read.specs.Loading.{Loading, load_outcome, loading}
use Rattle.clocks_read.specs.Laws.{load_reading}
use Rattle.clocks_read.specs.Loaded.{text_is, record_accepted, states_are, states_few, slices_filled}
use Rattle.safe_states.specs.declared.SafeStates.{SafeStates}
use Rattle.safe_states.specs.Outcome.{Outcome, found_outcome, kept_outcome, answered, safe_outcome}
use Rattle.limits.specs.Limits.{state_limit, step_limit}
use Rattle.safe_states.specs.Ready.{Ready}

abbrev pub outcome : Result SafeStates Refusal → List ℕ → Outcome
outcome answer keep = record { answer = answer; keep = keep }

module _ {t : Text} {v : Ranges} {n : ℕ} {moves holds keep : List ℕ} (R : Ready t v n moves holds keep) where
  pub ready_bounded : Bounded n (t.channel_count + 1) moves
  ready_bounded = rw R.count
      (table_bounded t R.accepted R.filled.over moves R.filled.room R.filled.moves_are)

  pub ready_bitmap : Bitmap n holds
  ready_bitmap = rw R.count (bits_bitmap t R.accepted R.filled.under holds R.filled.long
      R.filled.holds_are (length_invariants t))

  -- what finding the start's number needs
  pub ready_fits : Positive v × ((t.init + 1) * v.x * v.y * v.z ≤ state_limit)
  ready_fits = start_fits t v R.same R.accepted.formed (judgement_few t R.accepted.clean)

  -- what the operation on slices gives
  pub ready_safe : (inputs : List Bool) (after : List ℕ) (r : ℕ) → inputs ≡ tab_from (input t) 0 step_limit
      → SafeAnswer holds moves inputs n (t.channel_count + 1) keep after r
      → (after ≡ packed (state_count t) (safe_states t) keep) × (r ≡ ones (safe_states t))
  ready_safe inputs after r e S =
      let (a, b) = S _ (system t R.accepted) (rw R.count
      (table_encoded t R.accepted R.filled.over moves R.filled.room R.filled.moves_are inputs e))
      (rw R.count (bits_start t R.accepted R.filled.under holds R.filled.long R.filled.holds_are
      (length_invariants t))) in
      rw (safe_states_same t R.accepted) (
        a ∙ ap
            (λ (k : ℕ). packed k (finite.safe_states (system t R.accepted)) keep) R.count,
        b,
      )

  start_in : start_state t < state_count t
  start_in = unfold system in (system t R.accepted).start_state.0

  module _ (after : List ℕ) (e : after ≡ packed (state_count t) (safe_states t) keep) where
    safe_packed : Packed (state_count t) (safe_states t) keep after
    safe_packed = record { long = length_safe t; room = R.long; is = e }

    -- the bit of the start, which is the first state u of its location
    module _ (u : Walk) (first : FirstOf v t.init u) where
      start_is : u.state ≡ start_state t
      start_is = start_first t v R.same u first

      pub ready_start : u.state / 8 < length after
      ready_start = omega (arith, start_is, start_in, packed_length safe_packed, R.long)

      pub ready_found : (r : ℕ) (b : Bool) → r ≡ ones (safe_states t) → b ≡ bit_at after u.state
          → outcome (Ok (record { count = r; start = b })) after ≡ found_outcome t keep
      unfolding found_outcome
      ready_found r b c f = rw (c, f ∙ ap (bit_at after) start_is ∙ packed_bit safe_packed (start_state t) start_in, e)

-- a text that is refused before
pub safe_unread : (period : ℕ) (s k : List ℕ) (f : Refusal) → read_outcome period s ≡ Err f → (r : Result SafeStates Refusal)
    → IsErrAnd r (λ g. g ≡ f) → outcome r k ≡ safe_outcome period s k
unfolding safe_outcome answered
safe_unread period s k f e r i = let (g, is, same) = err_from_is_err_and r i in rw (e, is, same)

-- the paths after the text is read and the slices are filled
module _ (period : ℕ) (s m h m' h' k : List ℕ) where
  module _ (f : Refusal) (e : loading (Err f) m' h' ≡ load_outcome period s m h) where
    pub safe_refused : (r : Result SafeStates Refusal) → IsErrAnd r (λ g. g ≡ f) → outcome r k ≡ safe_outcome period s k
    unfolding safe_outcome answered
    safe_refused r i =
        let (g, is, same) = err_from_is_err_and r i in
        let reading : Err f ≡ read_outcome period s = ap (λ (l : Loading). l.reading) e ∙ load_reading period s m h in
        rw (sym reading, is, same)

  module _ (x : Reading) (e : loading (Ok x) m' h' ≡ load_outcome period s m h) where
    outcome_is : safe_outcome period s k ≡ kept_outcome x.text k
    unfolding safe_outcome answered
    outcome_is =
        let reading : Ok x ≡ read_outcome period s = ap (λ (l : Loading). l.reading) e ∙ load_reading period s m h in
        rw (sym reading)

    states : x.states ≡ state_count x.text
    states = states_are period s m h (Ok x) m' h' e refl

    pub safe_few : x.states ≤ state_limit
    safe_few = states_few period s m h (Ok x) m' h' e refl

    -- keep is judged by the bytes that it needs
    module _ (need : ℕ) (n : need ≡ bytes_for x.states) where
      bytes_are : need ≡ bytes_for (state_count x.text)
      bytes_are = n ∙ ap bytes_for states

      pub safe_short : length k < need → outcome (Err (keep_too_short need)) k ≡ safe_outcome period s k
      unfolding kept_outcome
      safe_short l =
          let q : ltb (length k) (bytes_for (state_count x.text)) ≡ true =
          lt-ltb (length k) (bytes_for (state_count x.text)) (rw bytes_are at l) in
          rw (outcome_is, bytes_are) (rw (q, kept_outcome))

      pub safe_found : need ≤ length k → (o : Outcome) → o ≡ found_outcome x.text k → o ≡ safe_outcome period s k
      unfolding kept_outcome
      safe_found l o f =
          let q : ltb (length k) (bytes_for (state_count x.text)) ≡ false =
          le-ltb (length k) (bytes_for (state_count x.text)) (rw bytes_are at l) in
          f ∙ rw outcome_is (rw (q, kept_outcome))

      pub safe_ready : need ≤ length k → (v : Ranges) (m₀ : ℕ) → Counted (text_in (read_outcome period s)) v m₀
          → Room m₀ (length m) (length h) → Ready x.text v x.states m' h' k
      safe_ready p v m₀ q l =
          let same : x.text ≡ text_in (read_outcome period s) = text_is period s m h (Ok x) m' h' e in
          record {
            accepted = record_accepted period s m h (Ok x) m' h' e refl;
            same = rw same q.same;
            count = states;
            filled = slices_filled period s m h (Ok x) m' h' e refl m₀ q.count l;
            long = rw bytes_are at p;
          }
