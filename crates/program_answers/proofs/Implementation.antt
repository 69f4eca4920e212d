-- What program implementation's line means: for any file, what it prints is one of the answers of specs/Answers.antt
-- (SPECIFICATION 17.8). A theorem from the guarantees.
use Rattle.std.specs.Prelude.{◌≡◌, refl, List, ℕ, Option, Some, None, Result, Ok, Err, ⊤}
use Rattle.std.proofs.Common.{ap}
use Rattle.refusals.specs.declared.Refusal.{Refusal}
use Rattle.refusals.specs.Answers.{answer_of}
use Rattle.reachable.specs.declared.Finding.{Finding}
use Rattle.reachable.specs.declared.Finding.TheVariants.{OutputBesideTick, NeitherPossible}
use Rattle.reachable.specs.Meaning.{Says}
use Rattle.clocks_read.specs.Reading.{read_outcome}
use Rattle.implementation_check.specs.Outcome.{refusal_of, found_answer, implementation_outcome}
use Rattle.guarantees.specs.Texts.{AcceptedText, meaning, number}
use Rattle.guarantees.proofs.Guarantees.{implementation_exactly}
use Rattle.guarantees.proofs.Implemented.{right_finding}
use Rattle.printed.specs.Prints.{program_tick, verdict_line, implementation_prints}
use Rattle.program_answers.specs.Answers.{ImplementationAnswers}

-- an accepted text, by what is found in it
by_finding : (left : List ℕ) (a : AcceptedText program_tick left) (f : Option Finding)
    → implementation_outcome program_tick left ≡ found_answer f
    → Says (meaning program_tick left a) (number program_tick left a) f
    → ImplementationAnswers left (implementation_prints left)
unfolding implementation_prints verdict_line found_answer refusal_of Says
by_finding left a None e p = ImplementationAnswers.passed a p ((implementation_exactly program_tick left).itself e a)
    (ap verdict_line e)
by_finding left a (Some (OutputBesideTick s c)) e p = ImplementationAnswers.both a s c p (ap verdict_line e)
by_finding left a (Some (NeitherPossible s)) e p = ImplementationAnswers.neither a s p (ap verdict_line e)

-- for any file
pub implementation_answers : (left : List ℕ) → ImplementationAnswers left (implementation_prints left)
unfolding implementation_prints verdict_line
implementation_answers left = go (answer_of (read_outcome program_tick left)) refl
  where
    go : (v : Result ⊤ Refusal) → answer_of (read_outcome program_tick left) ≡ v
        → ImplementationAnswers left (implementation_prints left)
    go (Ok done) a = let (f, e, p) = right_finding program_tick left a in by_finding left a f e p
    go (Err r) q = ImplementationAnswers.unread r q
        (ap verdict_line ((implementation_exactly program_tick left).as_reading r q))
