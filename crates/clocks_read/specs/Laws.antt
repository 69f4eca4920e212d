-- What a reading says of the record, and that a text that is measured first is read as the text.
use Rattle.std.specs.Prelude.{◌≡◌, false, List, ℕ, Result, Ok, Err, OnErr, ⊤}
use Rattle.std.proofs.Math.Path.{refl, ap}
use Rattle.std.proofs.Common.{sym, ◌∙◌, arith, le-ltb}
use Rattle.refusals.specs.declared.Refusal.{Refusal}
use Rattle.refusals.specs.Answers.{answer_of}
use Rattle.reader_record.specs.declared.Text.{Text}
use Rattle.reader.specs.Reading.{record_of, read_text}
use Rattle.reader_formed.proofs.Formed.{read_formed}
use Rattle.bitmaps.specs.Bits.{written}
use Rattle.bitmaps.specs.Packed.{packed}
use Rattle.clocks.specs.declared.Flaw.{Flaw}
use Rattle.clocks.specs.States.{state_count, too_many, judgement, invariants}
use Rattle.clocks.specs.Encoding.{table_entry, table_size, judged_table, judged_holds}
use Rattle.clocks.specs.Accepted as accepted
use Rattle.clocks.proofs.Judgement.{judgement_few}
use Rattle.clocks_read.specs.declared.Reading.{Reading}
use Rattle.clocks_read.specs.Reading.{judged_reading, parsed_reading, read_outcome, text_in, states_in, NothingRead}
use Rattle.clocks_read.specs.Loading.{Loading, judged_loading, parsed_loading, load_outcome}
use Rattle.limits.specs.Limits.{state_limit}
use Rattle.clocks_states.specs.Parts.{Counted}
use Rattle.clocks_read.specs.declared.Measured.{Measured}
use Rattle.clocks_read.specs.Measured.{Measures, measured_loading}

-- beside a refusal nothing is read
pub nothing_refused : (r : Result Reading Refusal) → OnErr r (NothingRead r)
nothing_refused (Ok x) = tt
nothing_refused (Err f) = (refl, refl)

judged_accepted : (j : Result ⊤ Flaw) (t : Text) → answer_of (judged_reading j t) ≡ Ok tt → (j ≡ Ok tt)
    × (text_in (judged_reading j t) ≡ t) × (states_in (judged_reading j t) ≡ state_count t)
unfolding judged_reading
judged_accepted (Ok u) t e = (refl, refl, refl)
judged_accepted (Err f) t e = let z : ◌≡◌ {A = ℕ} 0 1 = cc in absurd (omega arith)

parsed_accepted : (r : Result Text Refusal) → answer_of (parsed_reading r) ≡ Ok tt → (answer_of r ≡ Ok tt)
    × (judgement (record_of r) ≡ Ok tt) × (text_in (parsed_reading r) ≡ record_of r)
    × (states_in (parsed_reading r) ≡ state_count (record_of r))
unfolding parsed_reading
parsed_accepted (Ok t) e = let (a, b, c) = judged_accepted (judgement t) t e in (refl, a, b, c)
parsed_accepted (Err f) e = let z : ◌≡◌ {A = ℕ} 0 1 = cc in absurd (omega arith)

within : (t : Text) → judgement t ≡ Ok tt → too_many t ≡ false
unfolding too_many
within t e = le-ltb state_limit (state_count t) (judgement_few t e)

-- the slices of an accepted text are filled
filled_moves : (r : Result Text Refusal) (m h : List ℕ) → answer_of r ≡ Ok tt → judgement (record_of r) ≡ Ok tt
    → (parsed_loading r m h).moves ≡ written (table_entry (record_of r)) (table_size (record_of r)) m
unfolding parsed_loading judged_loading judged_table
filled_moves (Ok t) m h e j = rw (within t j, judged_table)
filled_moves (Err f) m h e j = let z : ◌≡◌ {A = ℕ} 0 1 = cc in absurd (omega arith)

filled_holds : (r : Result Text Refusal) (m h : List ℕ) → answer_of r ≡ Ok tt → judgement (record_of r) ≡ Ok tt
    → (parsed_loading r m h).holds ≡ packed (state_count (record_of r)) (invariants (record_of r)) h
unfolding parsed_loading judged_loading judged_holds
filled_holds (Ok t) m h e j = rw (within t j, judged_holds)
filled_holds (Err f) m h e j = let z : ◌≡◌ {A = ℕ} 0 1 = cc in absurd (omega arith)

loads_reading : (r : Result Text Refusal) (m h : List ℕ) → (parsed_loading r m h).reading ≡ parsed_reading r
unfolding parsed_loading parsed_reading judged_loading
loads_reading (Ok t) m h = refl
loads_reading (Err f) m h = refl

module _ (period : ℕ) where
  -- what an accepted reading of the text s says
  pub record Read (s : List ℕ) : Type 0 where
    pub parsed : answer_of (read_text period s) ≡ Ok tt
    pub same : text_in (read_outcome period s) ≡ record_of (read_text period s)
    pub accepted : accepted.Accepted (text_in (read_outcome period s))
    pub states : states_in (read_outcome period s) ≡ state_count (text_in (read_outcome period s))

  -- an accepted reading's record is accepted, and it is the record that was read
  pub read_accepted : (s : List ℕ) → answer_of (read_outcome period s) ≡ Ok tt → Read s
  unfolding read_outcome
  read_accepted s e =
      let (a, b, c, d) = parsed_accepted (read_text period s) e in
      record {
        parsed = a;
        same = c;
        accepted = rw c (record { formed = read_formed period s a; clean = b });
        states = d ∙ ap state_count (sym c);
      }

  -- loading gives what reading gives
  pub load_reading : (s m h : List ℕ) → (load_outcome period s m h).reading ≡ read_outcome period s
  unfolding load_outcome read_outcome
  load_reading s m h = loads_reading (read_text period s) m h

  -- for an accepted text the table and the bits are filled
  pub load_moves : (s m h : List ℕ) → answer_of (read_outcome period s) ≡ Ok tt → (load_outcome period s m h).moves
      ≡ written (table_entry (text_in (read_outcome period s))) (table_size (text_in (read_outcome period s))) m
  unfolding load_outcome
  load_moves s m h e =
      let r = read_accepted s e in
      rw r.same (filled_moves (read_text period s) m h r.parsed (rw r.same at r.accepted.clean))

  pub load_holds : (s m h : List ℕ) → answer_of (read_outcome period s) ≡ Ok tt → (load_outcome period s m h).holds
      ≡ packed (state_count (text_in (read_outcome period s))) (invariants (text_in (read_outcome period s))) h
  unfolding load_outcome
  load_holds s m h e =
      let r = read_accepted s e in
      rw r.same (filled_holds (read_text period s) m h r.parsed (rw r.same at r.accepted.clean))

  -- a text that is refused when it is measured is refused by reading
  pub measured_refused : (s : List ℕ) (f : Refusal) → Measures period s (Err f) → read_outcome period s ≡ Err f
  unfolding read_outcome parsed_reading
  measured_refused s f e = rw (sym e.parsed)

  -- it is what reading the text gives
  pub measured_load : (s : List ℕ) (m : Result Measured Refusal) → Measures period s m → (moves holds : List ℕ)
      → measured_loading m moves holds ≡ load_outcome period s moves holds
  unfolding load_outcome
  measured_load s m e moves holds = ap (λ (r : Result Text Refusal). parsed_loading r moves holds) e.parsed

  -- of an accepted text it has the record, the ranges and the number of states
  module _ (s : List ℕ) (m : Measured) (e : Measures period s (Ok m)) (a : answer_of (read_outcome period s) ≡ Ok tt) where
    pub measured_text : m.text ≡ text_in (read_outcome period s)
    measured_text = ap record_of e.parsed ∙ sym (read_accepted s a).same

    pub measured_counted : Counted (text_in (read_outcome period s)) m.ranges m.states
    measured_counted = rw (sym measured_text) e.counted

  -- reading goes by the judgement on the text that is measured
  pub measured_reading : (s : List ℕ) (m : Result Measured Refusal) → Measures period s m → (moves holds : List ℕ) (l : Loading)
      → l ≡ measured_loading m moves holds → l.reading ≡ read_outcome period s
  measured_reading s m e moves holds l q =
      ap (λ (x : Loading). x.reading) (q ∙ measured_load s m e moves holds) ∙ load_reading s moves holds
