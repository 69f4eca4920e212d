-- The implementation check gives what is asked of it: what is computed on state numbers is said of configurations.
use Rattle.std.proofs.Math.Path.{◌≡◌}
use Rattle.std.specs.Prelude.{refl, ◌↔◌, cond, List, ℕ, eqb, Option, Some, None, Result, Ok, Err, ⊤}
use Rattle.std.proofs.Common.{sym, ap, subst, ◌∙◌, arith}
use Rattle.limits.specs.Limits.{tick_allowed}
use Rattle.refusals.specs.declared.File.TheVariants.{Left}
use Rattle.refusals.specs.declared.Refusal.{Refusal}
use Rattle.refusals.specs.declared.Refusal.TheVariants as refusal
use Rattle.refusals.specs.Refusals as numbers
use Rattle.refusals.specs.Refusals.{code}
use Rattle.refusals.specs.Answers.{answer_of}
use Rattle.systems.specs.Definitions.{LargestSafeSet}
use Rattle.systems.proofs.Theorems.{safe_states_largest, start_safe_iff}
use Rattle.reachable.specs.declared.Finding.{Finding}
use Rattle.reachable.specs.declared.Finding.TheVariants.{OutputBesideTick, NeitherPossible}
use Rattle.reachable.specs.Check.{system_finding}
use Rattle.reachable.specs.Meaning.{Says, OwnImplementation}
use Rattle.reachable.proofs.Theorems.{finding_exactly, own_implementation, found_safe}
use Rattle.clocks.specs.Accepted as clocks
use Rattle.clocks.proofs.Contract.{system}
use Rattle.clocks_read.specs.declared.Reading.{Reading}
use Rattle.clocks_read.specs.Reading.{read_outcome, text_in}
use Rattle.clocks_read.specs.Laws.{read_accepted}
use Rattle.two_texts.specs.Two.{text_of}
use Rattle.implementation_check.specs.Outcome.{refusal_of, text_finding, found_answer, answered, implementation_outcome}
use Rattle.implementation_check.proofs.Laws.{finding_same}
use Rattle.implementation_check.proofs.Codes.{last_code, CodeAt, too_late, reading_codes}
use Rattle.demands.proofs.Same.{same_safe}
use Rattle.guarantees.specs.Texts.{AcceptedText, meaning, number}
use Rattle.guarantees.specs.Implementations.{ImplementationDemand}
use Rattle.guarantees.proofs.Setting.{one_capping, numbered_number}

-- the answer names the finding: what is found can be told from it
told : Result ⊤ Refusal → Option Finding
told (Ok nothing) = None
told (Err r) = Some (cond (eqb (code r) (code (refusal.OutputBesideTick Left 0 0)))
    (OutputBesideTick (numbers.p r) (numbers.q r)) (NeitherPossible (numbers.p r)))

told_answer : (f : Option Finding) → told (found_answer f) ≡ f
unfolding told found_answer refusal_of
told_answer None = refl
told_answer (Some (OutputBesideTick s c)) = refl
told_answer (Some (NeitherPossible s)) = refl

answer_one : (f g : Option Finding) → found_answer f ≡ found_answer g → f ≡ g
answer_one f g e = sym (told_answer f) ∙ ap told e ∙ told_answer g

-- an accepted text is answered by its record
answered_by : (r : Result Reading Refusal) → answer_of r ≡ Ok tt → answered r ≡ found_answer (text_finding (text_in r))
unfolding answered
answered_by (Ok r) e = refl
answered_by (Err f) e = let z : ◌≡◌ {A = ℕ} 0 1 = cc in absurd (omega arith)

-- a refused one as reading refuses it
refused_by : (r : Result Reading Refusal) (f : Refusal) → answer_of r ≡ Err f → answered r ≡ Err f
unfolding answered
refused_by (Ok r) f e = let z : ◌≡◌ {A = ℕ} 0 1 = cc in absurd (omega arith)
refused_by (Err r) f e = e

module _ (period : ℕ) where
  -- an accepted text
  module _ (s : List ℕ) (a : AcceptedText period s) where
    abbrev accepted : clocks.Accepted (text_of period s)
    accepted = (read_accepted period s a).accepted

    outcome_is : implementation_outcome period s ≡ found_answer (system_finding (system (text_of period s) accepted))
    unfolding implementation_outcome
    outcome_is = answered_by (read_outcome period s) a
        ∙ ap found_answer (sym (finding_same (text_of period s) accepted))

    -- the finding that the answer names is right, and nothing else is
    finding_iff : (f : Option Finding) → (implementation_outcome period s ≡ found_answer f)
        ↔ Says (meaning period s a) (number period s a) f
    finding_iff f =
        let i = finding_exactly (one_capping period s a accepted) f in
        let n = numbered_number period s a accepted in (
          λ e. subst (λ (g : (meaning period s a).State → ℕ). Says (meaning period s a) g f) (sym n)
              (i.0 (answer_one (system_finding (system (text_of period s) accepted)) f (sym outcome_is ∙ e))),
          λ p. outcome_is ∙ ap found_answer
              (i.1 (subst (λ (g : (meaning period s a).State → ℕ). Says (meaning period s a) g f) n p)),
        )

    -- there is such a finding
    pub right_finding : (f : Option Finding) × (implementation_outcome period s ≡ found_answer f)
        × Says (meaning period s a) (number period s a) f
    right_finding =
        let f = system_finding (system (text_of period s) accepted) in
        (f, outcome_is, (finding_iff f).0 outcome_is)

    nothing_found : implementation_outcome period s ≡ Ok tt → system_finding (system (text_of period s) accepted)
        ≡ None
    unfolding found_answer
    nothing_found e = answer_one (system_finding (system (text_of period s) accepted)) None (sym outcome_is ∙ e)

    own : implementation_outcome period s ≡ Ok tt → OwnImplementation (meaning period s a) (number period s a)
    own e = subst (OwnImplementation (meaning period s a)) (sym (numbered_number period s a accepted))
        (own_implementation (one_capping period s a accepted) (nothing_found e))

    safe_start : implementation_outcome period s ≡ Ok tt → (S : (meaning period s a).State → Type 0)
        → LargestSafeSet (meaning period s a) S → S (meaning period s a).start
    safe_start e S q = (same_safe (safe_states_largest (one_capping period s a accepted)) q
        (meaning period s a).start).0
        ((start_safe_iff (one_capping period s a accepted)).0
        (found_safe (system (text_of period s) accepted) (nothing_found e)))

  -- a text that reading refuses
  refused_as : (s : List ℕ) (f : Refusal) → answer_of (read_outcome period s) ≡ Err f
      → implementation_outcome period s ≡ Err f
  unfolding implementation_outcome
  refused_as s = refused_by (read_outcome period s)

  -- an answer that reading cannot give says that the text is accepted
  accepted_by : (s : List ℕ) → ((f : Refusal) → answer_of (read_outcome period s) ≡ Err f
      → implementation_outcome period s ≡ Err f → ⊥)
      → AcceptedText period s
  accepted_by s late = go (answer_of (read_outcome period s)) refl
    where
      go : (v : Result ⊤ Refusal) → answer_of (read_outcome period s) ≡ v → answer_of (read_outcome period s) ≡ Ok tt
      go (Ok done) e = e
      go (Err f) e = absurd (late f e (refused_as s f e))

  module _ (s : List ℕ) (f : Option Finding)
      (late : (r : Refusal) → implementation_outcome period s ≡ found_answer f → CodeAt (tick_allowed period) (code r)
      → implementation_outcome period s ≡ Err r → ⊥) where
    by_finding : (implementation_outcome period s ≡ found_answer f)
        ↔ ((a : AcceptedText period s) × Says (meaning period s a) (number period s a) f)
    by_finding = (
      λ e. let a = accepted_by s (λ r p q. late r e (reading_codes period s r p) q) in (a, (finding_iff s a f).0 e),
      λ (a, p). (finding_iff s a f).1 p,
    )

  pub implementation_promised : (s : List ℕ) → ImplementationDemand period s (implementation_outcome period s)
  unfolding found_answer refusal_of Says
  implementation_promised s = record {
    as_reading = refused_as s;
    succeeds = by_finding s None (λ r e l q. let z : ◌≡◌ {A = ℕ} 0 1 = cc in absurd (omega arith));
    beside = λ p c. by_finding s (Some (OutputBesideTick p c))
        (λ r e l q. too_late last_code (tick_allowed period) (refusal.OutputBesideTick Left p c) r (sym e ∙ q) (omega arith)
        (omega arith) l);
    neither = λ p. by_finding s (Some (NeitherPossible p))
        (λ r e l q. too_late last_code (tick_allowed period) (refusal.NeitherPossible Left p) r (sym e ∙ q) (omega arith) (omega arith) l);
    itself = λ e a. own s a e;
    consistent = λ e a. let o = own s a e in (o.implementation, o.satisfies);
    start_safe = λ e a. safe_start s a e;
  }
