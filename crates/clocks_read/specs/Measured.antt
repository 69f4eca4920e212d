-- A text that is parsed and measured: what its slices need follows from the number of its states.
use Rattle.std.specs.Prelude.{◌≡◌, List, ℕ, Result, Ok, Err, IfOk}
use Rattle.refusals.specs.declared.Refusal.{Refusal}
use Rattle.reader_record.specs.declared.Text.{Text}
use Rattle.reader.specs.Reading.{read_text}
use Rattle.clocks_states.specs.Parts.{Counted}
use Rattle.clocks_read.specs.declared.Measured.{Measured}
use Rattle.clocks_read.specs.Loading.{Loading, parsed_loading}

-- the number of states of a text that is measured; a refused one has none
abbrev pub states_of : Result Measured Refusal → ℕ
states_of (Ok m) = m.states
states_of (Err f) = 0

-- the ranges and the number of states are those of the text, unless it is refused
abbrev pub WellMeasured : Result Measured Refusal → Type 0
WellMeasured m = IfOk m (λ x. Counted x.text x.ranges x.states)

-- the text that is measured, or its refusal
abbrev pub parsed_of : Result Measured Refusal → Result Text Refusal
parsed_of (Ok m) = Ok m.text
parsed_of (Err f) = Err f

-- the judgement of codes 9 to 11 on it, with the slices; one that is refused leaves them
abbrev pub measured_loading : Result Measured Refusal → List ℕ → List ℕ → Loading
measured_loading m moves holds = parsed_loading (parsed_of m) moves holds

-- at one tick length, `period` (SPECIFICATION 4.7)
module _ (period : ℕ) where
  -- m is the text s, parsed and measured, or its refusal by code 24 or one of the codes 1 to 8
  pub record Measures (s : List ℕ) (m : Result Measured Refusal) : Type 0 where
    pub parsed : parsed_of m ≡ read_text period s
    pub counted : WellMeasured m
