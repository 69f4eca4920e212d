-- What program megzhoi's lines mean, for any two files (SPECIFICATION 14.2, 14.4, 17.5), what program implementation's
-- line means, for any file (SPECIFICATION 14.7, 17.8), and what program join prints, for any two files (SPECIFICATION
-- 14.8, 17.10). Definitions only: proofs/Program.antt, proofs/Implementation.antt and proofs/Joining.antt prove it.
use Rattle.std.specs.Prelude.{◌≡◌, true, List, ℕ, ◌*◌, ◌≤◌, ◌<◌, length, Some, Ok, Err}
use Rattle.std.proofs.Math.Option.{none, some}
use Rattle.limits.specs.Limits.{keep_limit}
use Rattle.refusals.specs.declared.Refusal.{Refusal}
use Rattle.refusals.specs.declared.Refusal.TheVariants as refusal
use Rattle.refusals.specs.Refusals.{queue_too_short, start_not_safe, limit_exceeded}
use Rattle.refusals.specs.declared.File.TheVariants.{Left}
use Rattle.refusals.specs.Answers.{answer_of}
use Rattle.systems.specs.Definitions.{Implementation, Satisfies, Makes, Allows}
use Rattle.reachable.specs.declared.Finding.TheVariants.{OutputBesideTick, NeitherPossible}
use Rattle.reachable.specs.Meaning.{IsImplementation, Says, OwnImplementation}
use Rattle.clocks.proofs.Contract.{signature}
use Rattle.clocks_read.specs.Reading.{read_outcome}
use Rattle.two_texts.specs.Two.{text_of, two_judged}
use Rattle.two_operations.specs.Outcome.{widest_outcome}
use Rattle.joining.specs.Outcome.{joined_record, joined_bytes}
use Rattle.demands.specs.Words.{Consistent}
use Rattle.guarantees.specs.Texts.{AcceptedText, EqualChannels, states, meaning, number, right_meaning}
use Rattle.guarantees.specs.Joining.{Within, Joins}
use Rattle.printed_lines.specs.Lines.{refusal_line, yes_line, passed_line, departure_lines}
use Rattle.printed.specs.Prints.{program_tick, zeros, entries, counted_bytes}

-- for two accepted texts, by what they mean over uncapped clocks
module _ (left right : List ℕ) (a : AcceptedText program_tick left) (b : AcceptedText program_tick right) where
  -- every implementation of the left satisfies the right
  abbrev pub AllSatisfy : Type 1
  AllSatisfy =
      (I : Implementation (signature (text_of program_tick left))) → Satisfies I (meaning program_tick left a)
      → Satisfies I (right_meaning program_tick left right b)

  -- w shows that not every one does: some implementation of the left makes its steps, and the right does not allow them
  abbrev pub Shows : List ℕ → Type 1
  Shows w =
      (I : Implementation (signature (text_of program_tick left))) × Satisfies I (meaning program_tick left a)
      × Makes I w
      × (Allows (right_meaning program_tick left right b) w → ⊥)

-- what is printed, and what it means
pub data Answers (left right printed : List ℕ) : Type 1 where
  -- one of the codes 1 to 12
  judged : (r : Refusal) → two_judged program_tick left right ≡ some r → printed ≡ refusal_line r
      → Answers left right printed
  -- 15: more pairs of states than the program has room for
  too_many : AcceptedText program_tick left → AcceptedText program_tick right → EqualChannels program_tick left right
      → entries < states program_tick left * states program_tick right → printed
      ≡ refusal_line (queue_too_short (states program_tick left * states program_tick right))
      → Answers left right printed
  -- 17: the left has no implementation
  unsafe : (a : AcceptedText program_tick left) → AcceptedText program_tick right
      → EqualChannels program_tick left right
      → states program_tick left * states program_tick right ≤ entries → (Consistent (meaning program_tick left a) → ⊥)
      → printed ≡ refusal_line (start_not_safe (number program_tick left a (meaning program_tick left a).start))
      → Answers left right printed
  -- YES: the left has an implementation, and every one satisfies the right; the number is that of the pairs of the
  -- widest table
  yes : (a : AcceptedText program_tick left) (b : AcceptedText program_tick right)
      → EqualChannels program_tick left right
      → states program_tick left * states program_tick right ≤ entries → Consistent (meaning program_tick left a)
      → AllSatisfy left right a b
      → (pairs : ℕ)
      → (widest_outcome program_tick left right (zeros keep_limit) (zeros counted_bytes)).answer ≡ Ok (record { count = pairs; start = true })
      → printed ≡ yes_line pairs
      → Answers left right printed
  -- NO: the steps printed show that not every implementation of the left satisfies the right, and nothing shorter does
  no : (a : AcceptedText program_tick left) (b : AcceptedText program_tick right)
      → EqualChannels program_tick left right
      → states program_tick left * states program_tick right ≤ entries → (w : List ℕ) → Shows left right a b w
      → ((v : List ℕ) → Shows left right a b v → length w ≤ length v)
      → printed ≡ departure_lines left (text_of program_tick left).channels (length w) w
      → Answers left right printed

-- what program implementation prints, and what it means
pub data ImplementationAnswers (left printed : List ℕ) : Type 1 where
  -- one of the codes 1 to 11, as reading gives them
  unread : (r : Refusal) → answer_of (read_outcome program_tick left) ≡ Err r → printed ≡ refusal_line r
      → ImplementationAnswers left printed
  -- 22: the lowest state with a fault that a run leads to has output c beside the tick, its lowest one
  both : (a : AcceptedText program_tick left) (s c : ℕ)
      → Says (meaning program_tick left a) (number program_tick left a) (Some (OutputBesideTick s c))
      → printed ≡ refusal_line (refusal.OutputBesideTick Left s c) → ImplementationAnswers left printed
  -- 23: that state has neither
  neither : (a : AcceptedText program_tick left) (s : ℕ)
      → Says (meaning program_tick left a) (number program_tick left a) (Some (NeitherPossible s))
      → printed ≡ refusal_line (refusal.NeitherPossible Left s) → ImplementationAnswers left printed
  -- YES: the text is an implementation with its reachable states, which satisfies the text
  passed : (a : AcceptedText program_tick left) → IsImplementation (meaning program_tick left a)
      → OwnImplementation (meaning program_tick left a) (number program_tick left a) → printed ≡ passed_line
      → ImplementationAnswers left printed

-- what program join prints, and what it means
pub data JoinAnswers (left right printed : List ℕ) : Type 1 where
  -- one of the codes 1 to 12
  unjoined : (r : Refusal) → two_judged program_tick left right ≡ some r → printed ≡ refusal_line r
      → JoinAnswers left right printed
  -- 25: the joined text would pass a limit
  limit : none ≡ two_judged program_tick left right
      → (Within (joined_record program_tick left right) (joined_bytes program_tick left right) → ⊥)
      → printed ≡ refusal_line limit_exceeded → JoinAnswers left right printed
  -- a text that joins the two: read with tick length 1, it is satisfied exactly by what satisfies both
  joined : (a : AcceptedText program_tick left) (b : AcceptedText program_tick right)
      → Joins program_tick left right a b printed → JoinAnswers left right printed
