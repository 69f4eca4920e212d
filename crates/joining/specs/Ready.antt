-- What the parts of joining ask for and give, for inner contracts. Definitions only.
use Rattle.std.specs.Prelude.{cond, List, ℕ, ◌+◌, leb, length}
use Rattle.limits.specs.Limits.{largest_text}
use Rattle.refusals.specs.Refusals.{limit_exceeded}
use Rattle.reader_record.specs.declared.Text.{Text}
use Rattle.reader_record.specs.Formed.{WellFormed}
use Rattle.reader_formed.specs.Promise.{NamesWithin}
use Rattle.joining.specs.Outcome.{Outcome, refused, laid_text}

-- the longest text and one byte more
abbrev pub room : ℕ
room = largest_text + 1

-- two records that are joined, the first of which was read from the text s
pub record Ready (s : List ℕ) (l r : Text) : Type 0 where
  pub left_formed : WellFormed l
  pub right_formed : WellFormed r
  pub names : NamesWithin s l

-- the outcome for a record whose counts and states are within the limits, by its text z alone
unfoldable pub bytes_outcome : List ℕ → List ℕ → Outcome
bytes_outcome z out = cond (leb (length z) largest_text) (laid_text z out) (refused limit_exceeded out)
