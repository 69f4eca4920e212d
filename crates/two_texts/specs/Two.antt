-- The two texts of an operation, the left (the draft) and the right (the contract), as their bytes: codes 24 and 1 to
-- 12 in their order, and what an operation works on once they find nothing (SPECIFICATION 9.1, 9.2, 13.2, 13.3).
use Rattle.std.specs.Prelude.{◌≡◌, refl, cond, List, ℕ, ltb, length, Result, Ok, Err, ⊤}
use Rattle.std.proofs.Math.Option.{Option, none, some}
use Rattle.refusals.specs.declared.Refusal.{Refusal}
use Rattle.refusals.specs.declared.Refusal.TheVariants.{TextTooLong}
use Rattle.refusals.specs.declared.File.{File}
use Rattle.refusals.specs.declared.File.TheVariants.{Left, Right}
use Rattle.refusals.specs.Refusals.{in_file, tick_out_of_range}
use Rattle.refusals.specs.Answers.{answer_of}
use Rattle.reader_record.specs.declared.Text.{Text}
use Rattle.systems.specs.Definitions.{Input}
use Rattle.systems.specs.Finite.{FiniteSystem}
use Rattle.systems.specs.Renumbered.{renumbered}
use Rattle.clocks.specs.Accepted.{Accepted}
use Rattle.clocks.proofs.Contract.{signature, system}
use Rattle.clocks_read.specs.Reading.{read_outcome, text_in}
use Rattle.pairing.specs.Channels.{unmatched, right_step}
use Rattle.limits.specs.Limits.{largest_text, tick_allowed}

-- code 24 (SPECIFICATION 4.7)
unfoldable pub tick_judged : ℕ → Option Refusal
tick_judged period = cond (tick_allowed period) none (some (tick_out_of_range period))

-- code 1, with the mark of the file (SPECIFICATION 4.3, 13.2)
unfoldable pub too_long_in : File → List ℕ → Option Refusal
too_long_in file s = cond (ltb largest_text (length s)) (some (TextTooLong file)) none

-- codes 1 to 11, with the mark of the file (SPECIFICATION 13.2)
unfoldable pub refused_in : File → Result ⊤ Refusal → Option Refusal
refused_in file (Ok u) = none
refused_in file (Err r) = some (in_file file r)

-- code 12, which says itself which file it means (SPECIFICATION 9.1)
unfoldable pub refused_pairing : Result ⊤ Refusal → Option Refusal
refused_pairing (Ok u) = none
refused_pairing (Err r) = some r

-- the refusal that is judged first
unfoldable pub or_else : Option Refusal → Option Refusal → Option Refusal
or_else none later = later
or_else (some r) later = some r

-- an outcome by cases on a judgement: its refusal, or what holds where it finds nothing
unfoldable pub judged_by : {X : Type 0} (o : Option Refusal) → (Refusal → X) → (none ≡ o → X) → X
judged_by none refused accepted = accepted refl
judged_by (some r) refused accepted = refused r

-- at one tick length for both texts, `period` (SPECIFICATION 4.7)
module _ (period : ℕ) where
  -- the record of a text that is read
  abbrev pub text_of : List ℕ → Text
  text_of s = text_in (read_outcome period s)

  -- codes 24 and 1 to 11: the tick length, both lengths, the left's first, then what reading the left finds, then the
  -- right (SPECIFICATION 13.3)
  unfoldable pub texts_judged : List ℕ → List ℕ → Option Refusal
  texts_judged left right =
      or_else (tick_judged period) (or_else (too_long_in Left left)
      (or_else (too_long_in Right right)
      (or_else (refused_in Left (answer_of (read_outcome period left)))
      (refused_in Right (answer_of (read_outcome period right))))))

  -- code 12, of two accepted texts (SPECIFICATION 9.1)
  unfoldable pub channels_judged : List ℕ → List ℕ → Option Refusal
  channels_judged left right = refused_pairing (unmatched left (text_of left) right (text_of right))

  -- codes 24 and 1 to 12 (SPECIFICATION 13.3). None: both texts are accepted and have equal channels.
  unfoldable pub two_judged : List ℕ → List ℕ → Option Refusal
  two_judged left right = or_else (texts_judged left right) (channels_judged left right)

  -- the right's number of a step of the left (SPECIFICATION 9.2)
  abbrev pub step_of : List ℕ → List ℕ → ℕ → ℕ
  step_of left right = right_step left (text_of left) right (text_of right)

  -- what an operation works on: two accepted texts whose channels pair up, inputs with inputs (SPECIFICATION 7.4, 9.1)
  pub record Compared (left right : List ℕ) : Type 0 where
    pub left_text : Accepted (text_of left)
    pub right_text : Accepted (text_of right)
    pub inputs : (c : ℕ) → Input (signature (text_of left)) c → Input (signature (text_of right)) (step_of left right c)

  -- the two texts by their state numbers, the right one's steps by the left's numbers (SPECIFICATION 9.2)
  abbrev pub left_system : {left right : List ℕ} → Compared left right → FiniteSystem (signature (text_of left))
  left_system {left} {right} c = system (text_of left) c.left_text

  abbrev pub right_system : {left right : List ℕ} → Compared left right → FiniteSystem (signature (text_of left))
  right_system {left} {right} c = renumbered (step_of left right) c.inputs (system (text_of right) c.right_text)
