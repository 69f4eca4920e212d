-- What is asked of the implementation check's own answer, for every text (SPECIFICATION 8.5, 8.6, 12.9, 17.8), over
-- configurations whose clocks are not capped. Definitions only: the theorem is in proofs/Guarantees.antt. The words are
-- those of crate reachable, Meaning.antt.
use Rattle.std.specs.Prelude.{◌≡◌, ◌↔◌, List, ℕ, Some, Result, Ok, Err, ⊤}
use Rattle.refusals.specs.declared.File.TheVariants.{Left}
use Rattle.refusals.specs.declared.Refusal.{Refusal}
use Rattle.refusals.specs.declared.Refusal.TheVariants as refusal
use Rattle.refusals.specs.Answers.{answer_of}
use Rattle.systems.specs.Definitions.{LargestSafeSet}
use Rattle.reachable.specs.declared.Finding.TheVariants.{OutputBesideTick, NeitherPossible}
use Rattle.reachable.specs.Meaning.{IsImplementation, Says, OwnImplementation}
use Rattle.clocks_read.specs.Reading.{read_outcome}
use Rattle.demands.specs.Words.{Consistent}
use Rattle.guarantees.specs.Texts.{AcceptedText, meaning, number}

-- at one tick length, `period` (SPECIFICATION 4.7)
module _ (period : ℕ) where
  -- What is asked of the answer v to the text s.
  pub record ImplementationDemand (s : List ℕ) (v : Result ⊤ Refusal) : Type 1 where
    -- a text that reading refuses is refused as reading refuses it
    pub as_reading : (f : Refusal) → answer_of (read_outcome period s) ≡ Err f → v ≡ Err f
    -- it succeeds exactly if the text is accepted and no configuration that a run leads to has a fault
    pub succeeds : (v ≡ Ok tt) ↔ ((a : AcceptedText period s) × IsImplementation (meaning period s a))
    -- 22 and 23 exactly if the text is accepted and the state is the lowest one with a fault that a run leads to, and
    -- this is its fault
    pub beside : (p q : ℕ) → (v ≡ Err (refusal.OutputBesideTick Left p q))
        ↔ ((a : AcceptedText period s) × Says (meaning period s a) (number period s a) (Some (OutputBesideTick p q)))
    pub neither : (p : ℕ) → (v ≡ Err (refusal.NeitherPossible Left p))
        ↔ ((a : AcceptedText period s) × Says (meaning period s a) (number period s a) (Some (NeitherPossible p)))
    -- a text for which it succeeds is an implementation with its reachable states, which satisfies the text; so the
    -- text is consistent, and its start is safe
    pub itself : v ≡ Ok tt → (a : AcceptedText period s)
        → OwnImplementation (meaning period s a) (number period s a)
    pub consistent : v ≡ Ok tt → (a : AcceptedText period s) → Consistent (meaning period s a)
    pub start_safe : v ≡ Ok tt → (a : AcceptedText period s) → (S : (meaning period s a).State → Type 0)
        → LargestSafeSet (meaning period s a) S → S (meaning period s a).start
