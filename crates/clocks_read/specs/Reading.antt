-- The operation that reads a text: what it gives for each text (SPECIFICATION 12.1, 13.4).
use Rattle.std.specs.Prelude.{◌≡◌, List, ℕ, Result, Ok, Err, ⊤}
use Rattle.refusals.specs.declared.File.TheVariants.{Left}
use Rattle.refusals.specs.declared.Refusal.{Refusal}
use Rattle.refusals.specs.declared.Refusal.TheVariants as refusal
use Rattle.reader_record.specs.declared.Text.{Text}
use Rattle.reader_lists.specs.State.{no_text}
use Rattle.reader.specs.Reading.{read_text}
use Rattle.clocks.specs.declared.Flaw.{Flaw}
use Rattle.clocks.specs.declared.Flaw.TheVariants as flaw
use Rattle.clocks.specs.States.{state_count, judgement}
use Rattle.clocks_read.specs.declared.Reading.{Reading}

-- codes 9 to 11 (SPECIFICATION 6.5, 7.2), of a text that is taken for the left or only one
abbrev pub flaw_refusal : Flaw → Refusal
flaw_refusal (flaw.TooManyStates n) = refusal.TooManyStates Left n
flaw_refusal (flaw.NoMove s c) = refusal.InputWithoutMove Left s c
flaw_refusal (flaw.TwoEdges s c) = refusal.TwoEdges Left s c

unfoldable pub judged_reading : Result ⊤ Flaw → Text → Result Reading Refusal
judged_reading (Ok u) t = Ok (record { text = t; states = state_count t })
judged_reading (Err f) t = Err (flaw_refusal f)

-- codes 24 and 1 to 8 come before them (SPECIFICATION 13.4)
unfoldable pub parsed_reading : Result Text Refusal → Result Reading Refusal
parsed_reading (Ok t) = judged_reading (judgement t) t
parsed_reading (Err f) = Err f

-- the record and the state count of an accepted text; for a refused one, which has neither, the fixed empty record
-- and 0 stand
abbrev pub text_in : Result Reading Refusal → Text
text_in (Ok r) = r.text
text_in (Err f) = no_text

abbrev pub states_in : Result Reading Refusal → ℕ
states_in (Ok r) = r.states
states_in (Err f) = 0

-- nothing is read: the record is empty and the number of states 0 (SPECIFICATION 12.1)
abbrev pub NothingRead : Result Reading Refusal → Type 0
NothingRead r = (text_in r ≡ no_text) × (states_in r ≡ 0)

-- at one tick length, `period` (SPECIFICATION 4.7)
module _ (period : ℕ) where
  -- reading: the record and the state count, or the refusal (SPECIFICATION 12.1)
  unfoldable pub read_outcome : List ℕ → Result Reading Refusal
  read_outcome s = parsed_reading (read_text period s)
