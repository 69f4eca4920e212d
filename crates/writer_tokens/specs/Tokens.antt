-- What a function promises that puts tokens into a slice, for inner contracts. Definitions only; the laws are in
-- TokenLaws.antt.
use Rattle.std.specs.Prelude.{◌≡◌, List, ◌∷◌, ◌++◌, ℕ, length, replicate}
use Prim.Native.Char.{code}
use Rattle.byte_slices.specs.Decimal.{decimal}
use Rattle.byte_slices.specs.Put.{Puts}
use Rattle.written.specs.Spaced.{Tokens}
use Rattle.written.proofs.Trailing.{tokens_before}

-- the tokens, each with the space after it (SPECIFICATION 18.7), are put into `before` from the place `at` on
pub record PutsTokens (before : List ℕ) (at : ℕ) (tokens : Tokens) (after : List ℕ) (place : ℕ) : Type 0 where
  pub puts : Puts before at (tokens_before tokens) after place

-- of the tokens that are to be put into `before` from `at` on those of `rest` are left, to be put into `now` from
-- `place` on
pub record LeftToPut (before : List ℕ) (at : ℕ) (tokens : Tokens) (now : List ℕ) (place : ℕ) (rest : Tokens) :
    Type 0 where
  pub same_length : length now ≡ length before
  pub whole :
      {after : List ℕ} {end : ℕ} → PutsTokens now place rest after end → PutsTokens before at tokens after end

abbrev pub underscore : ℕ
underscore = code "_"

-- the names that are made (SPECIFICATION 18.6), the letter by its byte
abbrev pub called_by : ℕ → ℕ → ℕ → List ℕ
called_by letter u i = replicate u underscore ++ (letter ∷ decimal i)
