-- The joining of two texts, as their bytes (SPECIFICATION 12.10, 18): codes 24 and 1 to 12, then 25, then 26, else the
-- joined text in front of the bytes that were there. Every refusal leaves the slice as it came (SPECIFICATION 13.5).
use Rattle.std.specs.Prelude.{Bool, ◌&&◌, cond, List, ◌++◌, ℕ, leb, ltb, length, drop, Result, Ok, Err}
use Rattle.limits.specs.Limits.{largest_text, state_limit}
use Rattle.refusals.specs.declared.Refusal.{Refusal}
use Rattle.refusals.specs.Refusals.{limit_exceeded, out_too_short}
use Rattle.reader_record.specs.declared.Text.{Text}
use Rattle.clocks.specs.States.{state_count}
use Rattle.two_texts.specs.Two.{text_of, two_judged, step_of, judged_by}
use Rattle.joined.specs.Joined.{joined_text, counts_fit}
use Rattle.written.specs.Underscores.{written_text}
use Rattle.written_names.specs.Spelled.{channel_spellings}

-- the answer, which is the length of the joined text or the refusal, and the slice afterwards
pub record Outcome : Type 0 where
  pub answer : Result ℕ Refusal
  pub out : List ℕ

unfoldable pub refused : Refusal → List ℕ → Outcome
refused r out = record { answer = Err r; out = out }

-- a joined record and the text z that is written for it pass no limit: counts, states, bytes (SPECIFICATION 18.8)
unfoldable pub within_limits : Text → List ℕ → Bool
within_limits t z = counts_fit t && (leb (state_count t) state_limit && leb (length z) largest_text)

-- code 26, else the text and what stood behind it (SPECIFICATION 12.7, 18.9)
unfoldable pub laid_text : List ℕ → List ℕ → Outcome
laid_text z out =
    cond (ltb (length out) (length z)) (refused (out_too_short (length z)) out)
    (record { answer = Ok (length z); out = z ++ drop (length z) out })

-- code 25 comes first
unfoldable pub record_outcome : Text → List ℕ → List ℕ → Outcome
record_outcome t z out = cond (within_limits t z) (laid_text z out) (refused limit_exceeded out)

-- at one tick length for both texts, `period` (SPECIFICATION 4.7)
module _ (period : ℕ) where
  -- the joined record of two texts, whether within the limits or not; channels pair up by name (SPECIFICATION 9.2)
  abbrev pub joined_record : List ℕ → List ℕ → Text
  joined_record left right = joined_text (step_of period left right) (text_of period left) (text_of period right)

  -- the text that is written for it, with the left's names of channels (SPECIFICATION 18.4, 18.6)
  abbrev pub joined_bytes : List ℕ → List ℕ → List ℕ
  joined_bytes left right = written_text (channel_spellings left (text_of period left)) (joined_record left right)

  -- join (SPECIFICATION 12.10); `out` is the slice as it came
  unfoldable pub join_outcome : List ℕ → List ℕ → List ℕ → Outcome
  join_outcome left right out =
      judged_by (two_judged period left right) (λ r. refused r out)
      (λ e. record_outcome (joined_record left right) (joined_bytes left right) out)
