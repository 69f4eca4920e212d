-- Reading into slices: what reading gives, with the move table and the bits of the states whose invariant holds, written
-- over what was there.
use Rattle.std.specs.Prelude.{List, ℕ, Result, Ok, Err}
use Rattle.refusals.specs.declared.Refusal.{Refusal}
use Rattle.reader_record.specs.declared.Text.{Text}
use Rattle.reader.specs.Reading.{read_text}
use Rattle.clocks.specs.States.{judgement}
use Rattle.clocks.specs.Encoding.{judged_table, judged_holds}
use Rattle.clocks_read.specs.declared.Reading.{Reading}
use Rattle.clocks_read.specs.Reading.{judged_reading}

pub record Loading : Type 0 where
  pub reading : Result Reading Refusal
  pub moves : List ℕ
  pub holds : List ℕ

abbrev pub loading : Result Reading Refusal → List ℕ → List ℕ → Loading
loading r m h = record { reading = r; moves = m; holds = h }

unfoldable pub judged_loading : Text → List ℕ → List ℕ → Loading
judged_loading t m h = record {
  reading = judged_reading (judgement t) t;
  moves = judged_table t m;
  holds =
      judged_holds t h;
}

unfoldable pub parsed_loading : Result Text Refusal → List ℕ → List ℕ → Loading
parsed_loading (Ok t) m h = judged_loading t m h
parsed_loading (Err f) m h = record { reading = Err f; moves = m; holds = h }

-- at one tick length, `period` (SPECIFICATION 4.7)
module _ (period : ℕ) where
  unfoldable pub load_outcome : List ℕ → List ℕ → List ℕ → Loading
  load_outcome s m h = parsed_loading (read_text period s) m h
