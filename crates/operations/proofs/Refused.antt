-- The operations on one text that is refused when it is measured.
use Rattle.std.specs.Prelude.{◌≡◌, List, ℕ, Result, Err, ⊤}
use Rattle.std.specs.Result.{IsErrAnd}
use Rattle.std.proofs.lemmas.Result.{err_from_is_err_and}
use Rattle.refusals.specs.declared.Refusal.{Refusal}
use Rattle.clocks_read.specs.declared.Reading.{Reading}
use Rattle.clocks_read.specs.Reading.{read_outcome}
use Rattle.clocks_read.specs.Measured.{Measures}
use Rattle.clocks_read.specs.Laws.{measured_refused}
use Rattle.safe_states.specs.declared.SafeStates.{SafeStates}
use Rattle.safe_states.specs.Outcome as safe
use Rattle.implementation_check.specs.Outcome.{answered, implementation_outcome}

module _ (period : ℕ) (s : List ℕ) (f : Refusal) (e : Measures period s (Err f)) where
  pub read_refused : (r : Result Reading Refusal) → IsErrAnd r (λ g. g ≡ f) → r ≡ read_outcome period s
  read_refused r i =
      let (g, is, same) = err_from_is_err_and r i in
      rw (measured_refused period s f e, is, same)

  pub safe_refused : (k : List ℕ) (r : Result SafeStates Refusal) → IsErrAnd r (λ g. g ≡ f)
      → ◌≡◌ {A = safe.Outcome} (record { answer = r; keep = k }) (safe.safe_outcome period s k)
  unfolding safe.safe_outcome safe.answered
  safe_refused k r i =
      let (g, is, same) = err_from_is_err_and r i in
      rw (measured_refused period s f e, is, same)

  pub implementation_refused : (r : Result ⊤ Refusal) → IsErrAnd r (λ g. g ≡ f) → r ≡ implementation_outcome period s
  unfolding implementation_outcome answered
  implementation_refused r i =
      let (g, is, same) = err_from_is_err_and r i in
      rw (measured_refused period s f e, is, same)
