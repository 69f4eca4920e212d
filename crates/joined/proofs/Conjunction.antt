-- What is promised of the joined record of two accepted texts: it is their conjunction (SPECIFICATION 18.1).
-- Definitions only. f gives the right's number of a left's step (SPECIFICATION 9.2).
use Rattle.std.specs.Prelude.{◌↔◌, ℕ}
use Rattle.systems.specs.Definitions.{System, Implementation, Satisfies}
use Rattle.systems.specs.Renumbered.{renumbered_system}
use Rattle.conjunction.specs.Definitions.{Bisimulation, SameSignature}
use Rattle.conjunction.proofs.Parts.{flipped}
use Rattle.conjunction.proofs.Conjunction.{conjunction, carried, carried_system}
use Rattle.reader_record.specs.declared.Text.{Text}
use Rattle.reader_record.specs.Formed.{WellFormed}
use Rattle.clocks.specs.Accepted.{Accepted}
use Rattle.clocks.proofs.Contract.{signature, uncapped}

-- the right text with the left's step numbers (SPECIFICATION 9.2)
abbrev pub Right : (f : ℕ → ℕ) (l r : Text) → WellFormed r → System (signature l)
Right f l r w = renumbered_system f (uncapped r w)

-- j has the left's channels and directions, is matched move by move by the conjunction of l and r, all with uncapped
-- clocks, and is satisfied by exactly the implementations that satisfy both
pub record ConjunctionOf (f : ℕ → ℕ) (l r j : Text) (a : Accepted l) (b : Accepted r) : Type 1 where
  pub steps : SameSignature (signature l) (signature j)
  pub matched : (w : WellFormed j) → Bisimulation (uncapped j w)
      (carried_system steps (conjunction (uncapped l a.formed) (Right f l r b.formed)))
  -- an implementation over the left's signature
  pub satisfied : (w : WellFormed j) (I : Implementation (signature l)) → Satisfies (carried steps I) (uncapped j w)
      ↔ (Satisfies I (uncapped l a.formed) × Satisfies I (Right f l r b.formed))
  -- and one over the signature of j
  pub held : (w : WellFormed j) (I : Implementation (signature j)) → Satisfies I (uncapped j w)
      ↔ (Satisfies (carried (flipped steps) I) (uncapped l a.formed)
      × Satisfies (carried (flipped steps) I) (Right f l r b.formed))
