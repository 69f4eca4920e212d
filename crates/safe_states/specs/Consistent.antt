-- What the safe-state operation says of an accepted text with uncapped clocks.
use Rattle.std.specs.Prelude.{◌≡◌, refl, ◌↔◌, Bool, ℕ, ◌≤◌, length, Result, Ok, Err}
use Rattle.std.proofs.Common.{sym, subst, arith, ◌∙◌}
use Rattle.std.proofs.Math.Path.{ap}
use Rattle.std.proofs.Math.Bool.{true, false}
use mathlib.Core.List.{List}
use Rattle.std.proofs.Math.Dec.{T, ltb}
use borrow.Author.Tests.{le-ltb}
use Rattle.systems.specs.Bools.{T_true}
use Rattle.systems.specs.Tests.{at, ones}
use Rattle.systems.specs.Definitions.{Implementation, Satisfies}
use Rattle.systems.specs.Finite as finite
use Rattle.reader_record.specs.declared.Text.{Text}
use Rattle.bitmaps.specs.Packed.{bytes_for}
use Rattle.clocks.specs.States.{state_count, start_state}
use Rattle.clocks.specs.Safe.{safe_states}
use Rattle.clocks.specs.Accepted.{Accepted}
use Rattle.clocks.proofs.Contract.{signature, system}
use Rattle.clocks.proofs.Encoded.{safe_states_same}
use Rattle.clocks.proofs.Results.{Meaning, text_implementable}
use Rattle.refusals.specs.declared.Refusal.{Refusal}
use Rattle.refusals.specs.Answers.{answer_of}
use Rattle.clocks_read.specs.declared.Reading.{Reading}
use Rattle.clocks_read.specs.Reading.{read_outcome, text_in}
use Rattle.clocks_read.specs.Laws.{read_accepted}
use Rattle.safe_states.specs.declared.SafeStates.{SafeStates}
use Rattle.safe_states.specs.Outcome.{Outcome, found_outcome, kept_outcome, answered, safe_outcome}

-- an accepted text's outcome goes by its record
answered_accepted : (r : Result Reading Refusal) (k : List ℕ) → answer_of r ≡ Ok tt
    → answered r k ≡ kept_outcome (text_in r) k
unfolding answered
answered_accepted (Ok r) k e = refl
answered_accepted (Err f) k e = let z : ◌≡◌ {A = ℕ} 0 1 = cc in absurd (omega arith)

-- what the operation finds
abbrev found : ℕ → Bool → Result SafeStates Refusal
found count start = Ok (record { count = count; start = start })

abbrev start_in : Result SafeStates Refusal → Bool
start_in (Ok found) = found.start
start_in (Err f) = false

-- an accepted text and a keep that is long enough
module _ (period : ℕ) (s k : List ℕ) (e : answer_of (read_outcome period s) ≡ Ok tt)
    (long : bytes_for (state_count (text_in (read_outcome period s))) ≤ length k) where
  abbrev pub text : Text
  text = text_in (read_outcome period s)

  abbrev pub accepted : Accepted text
  accepted = (read_accepted period s e).accepted

  -- the operation succeeds
  pub succeeds : safe_outcome period s k ≡ found_outcome text k
  unfolding safe_outcome kept_outcome
  succeeds =
      let q : ltb (length k) (bytes_for (state_count (text_in (read_outcome period s)))) ≡ false =
      le-ltb (length k) (bytes_for (state_count (text_in (read_outcome period s)))) long in
      answered_accepted (read_outcome period s) k e ∙ rw (q, kept_outcome)

  -- the start as the operation answers it is safe in the text's system
  start_same : at (safe_states text) (start_state text)
      ≡ finite.safe (system text accepted) (system text accepted).start
  start_same = unfold system in ap (λ (X : List Bool). at X (start_state text)) (safe_states_same text accepted)

  -- some implementation satisfies the text exactly when the operation says that the start is safe
  pub consistent_iff : ((n : ℕ) × ((safe_outcome period s k).answer ≡ Ok (record { count = n; start = true }))) ↔
      ((I : Implementation (signature text)) × Satisfies I (Meaning text accepted))
  unfolding found_outcome
  consistent_iff = (
    λ (n, q).
        let f : found (ones (safe_states text)) (at (safe_states text) (start_state text)) ≡ found n true =
        ap (λ (o : Outcome). o.answer) (sym succeeds) ∙ q in
        let b : at (safe_states text) (start_state text) ≡ true = ap start_in f in
        (text_implementable text accepted).1 (subst T (sym b ∙ start_same) tt),
    λ i.
        let h = (text_implementable text accepted).0 i in
        let b : at (safe_states text) (start_state text) ≡ true = start_same
        ∙ T_true (finite.safe (system text accepted) (system text accepted).start) h in (
          ones (safe_states text),
          ap (λ (o : Outcome). o.answer) succeeds
              ∙ ap (λ (x : Bool). found (ones (safe_states text)) x) b,
        ),
  )
