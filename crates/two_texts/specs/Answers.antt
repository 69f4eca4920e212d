-- What the parts of loading answer. Definitions only; the laws of the code's paths are in proofs/Paths.antt.
use Rattle.std.specs.Prelude.{◌≡◌, List, ℕ, ◌+◌, ◌*◌, ◌≤◌, length, Result, Ok}
use Rattle.refusals.specs.declared.Refusal.{Refusal}
use Rattle.reader_record.specs.declared.Text.{Text}
use Rattle.reader_record.specs.Formed.{WellFormed}
use Rattle.bitmaps.specs.Bits.{tab_from, written}
use Rattle.clocks.specs.declared.Ranges.{Ranges}
use Rattle.clocks.specs.States.{ranges, state_count, start_state, input}
use Rattle.clocks.specs.Encoding.{Filled}
use Rattle.refusals.specs.declared.File.TheVariants.{Right}
use Rattle.refusals.specs.Answers.{answer_of}
use Rattle.clocks_read.specs.declared.Measured.{Measured}
use Rattle.clocks_read.specs.Measured.{Measures}
use Rattle.clocks_read.specs.Reading.{read_outcome}
use Rattle.pairing.specs.Channels.{unmatched}
use Rattle.pairing.specs.Table.{renumbered}
use Rattle.move_tables.specs.declared.Sides.{Sides}
use Rattle.two_texts.specs.declared.TwoTexts.{TwoTexts}
use Rattle.two_texts.specs.Two.{text_of, refused_in, refused_pairing, or_else, step_of}
use Rattle.two_texts.specs.Loaded.{refusal_in}
use Rattle.limits.specs.Limits.{step_limit, state_limit}

-- the sizes and starts of two accepted texts
unfoldable pub sides_of : Text → Text → Sides
sides_of l r = record {
  left_states = state_count l;
  right_states = state_count r;
  steps = l.channel_count + 1;
  left_start = start_state l;
  right_start = start_state r;
}

-- the numbers of two accepted texts
unfoldable pub accepted : Text → Text → TwoTexts
accepted l r = record { sides = sides_of l r; inputs = tab_from (input l) 0 step_limit }

-- a text with the ranges of its clocks, its state count within the limit
pub record Sized (t : Text) (r : Ranges) : Type 0 where
  pub formed : WellFormed t
  pub same : r ≡ ranges t
  pub few : state_count t ≤ state_limit

-- at one tick length, `period` (SPECIFICATION 4.7)
module _ (period : ℕ) where
  -- m is the text s, parsed and measured, which is accepted
  pub record AcceptedMeasure (s : List ℕ) (m : Measured) : Type 0 where
    pub measures : Measures period s (Ok m)
    pub accepted : answer_of (read_outcome period s) ≡ Ok tt

  -- how many entries the right's table has by the left's steps
  abbrev pub size_by_left : List ℕ → List ℕ → ℕ
  size_by_left left right = state_count (text_of period right) * ((text_of period left).channel_count + 1)

  -- the right's table `own` by the left's steps, over d
  unfoldable pub by_left : List ℕ → List ℕ → List ℕ → List ℕ → List ℕ
  by_left left right own d =
      written
      (renumbered own (tab_from (step_of period left right) 0 step_limit) ((text_of period right).channel_count + 1)
      ((text_of period left).channel_count + 1))
      (size_by_left left right) d

  -- pairing the channels: code 12, else the numbers, and `before` with the right's table `own` by the left's steps
  pub record Paired (left right own before after : List ℕ) (t : Result TwoTexts Refusal) : Type 0 where
    pub judged : refused_pairing (unmatched left (text_of period left) right (text_of period right))
        ≡ refusal_in (answer_of t)
    pub numbers : answer_of t ≡ Ok tt → t ≡ Ok (accepted (text_of period left) (text_of period right))
    pub moves : answer_of t ≡ Ok tt → after ≡ by_left left right own before

  -- what is known of the right's slices once both texts are accepted
  pub record RightFilled (left right moves holds : List ℕ) : Type 0 where
    pub own : List ℕ
    pub filled : Filled (text_of period right) own holds
    pub before : List ℕ
    pub space : size_by_left left right ≤ length before
    pub moves_are : moves ≡ by_left left right own before

  -- loading the right after the left was accepted: codes 2 to 11 of the right, then 12
  pub record RightLoaded (left right moves holds : List ℕ) (t : Result TwoTexts Refusal) : Type 0 where
    pub judged :
        or_else (refused_in Right (answer_of (read_outcome period right)))
        (refused_pairing (unmatched left (text_of period left) right (text_of period right)))
        ≡ refusal_in (answer_of t)
    pub numbers : answer_of t ≡ Ok tt → t ≡ Ok (accepted (text_of period left) (text_of period right))
    pub filled : answer_of t ≡ Ok tt → RightFilled left right moves holds
