-- Reading gives none of the codes after 11 but 24: 22 and 23 are the check's own. What is read of a text before its
-- states are judged gives none after 8 but 24: 9 to 11 are the judgement's own.
use Rattle.std.specs.Prelude.{◌≡◌, Bool, if◌then◌else◌, List, ℕ, ◌≤◌, ◌<◌, nat_lt, length, Result, Ok, Err, ⊤}
use Rattle.std.proofs.Math.Path.{refl, subst}
use Rattle.std.proofs.Common.{ap, arith}
use Rattle.std.proofs.Math.Bool.{true, false}
use Rattle.limits.specs.Limits.{largest_text, tick_allowed}
use Rattle.refusals.specs.declared.Refusal.{Refusal}
use Rattle.refusals.specs.Refusals.{code, tick_out_of_range}
use Rattle.refusals.specs.Answers.{answer_of}
use Rattle.reader_record.specs.declared.Text.{Text}
use Rattle.reader_parts.specs.declared.Fault.{Fault}
use Rattle.reader_parts.specs.declared.Fault.TheVariants.{TooLong, Misfit, NameTooLong, Declared, Unknown, TooLarge, TooManyItems, OtherMark}
use Rattle.reader.specs.Faults.{refusal_of}
use Rattle.reader.specs.Reading as reader
use Rattle.clocks.specs.declared.Flaw.{Flaw}
use Rattle.clocks.specs.declared.Flaw.TheVariants.{TooManyStates, NoMove, TwoEdges}
use Rattle.clocks.specs.States.{judgement}
use Rattle.clocks_read.specs.Reading.{judged_reading, parsed_reading, read_outcome}

-- the last code of reading tokens, the last code of a text, and the code of the tick length
abbrev pub last_token_code : ℕ
last_token_code = 8

abbrev pub last_code : ℕ
last_code = 11

abbrev pub tick_code : ℕ
tick_code = code (tick_out_of_range 0)

-- a code up to n, or 24, by whether the tick length is allowed
abbrev pub CodeUpTo : ℕ → Bool → ℕ → Type 0
CodeUpTo n true c = c ≤ n
CodeUpTo n false c = c ≡ tick_code

-- a code that reading may give
abbrev pub CodeAt : Bool → ℕ → Type 0
CodeAt b c = CodeUpTo last_code b c

-- so a refusal f with a later code is none of them
pub too_late : (n : ℕ) (b : Bool) (f r : Refusal) → ◌≡◌ {A = Result ⊤ Refusal} (Err f) (Err r) → n < code f → code f < tick_code
    → CodeUpTo n b (code r) → ⊥
too_late n b f r e h k = go b
  where
    same : code f ≡ code r
    same = let z : f ≡ r = cc in ap code z

    go : (b : Bool) → CodeUpTo n b (code r) → ⊥
    go true l = omega (arith, l, same)
    go false l = omega (arith, l, same)

-- an answer with such a code, or with none where the tick length is allowed
unfoldable Early : ℕ → Bool → Result ⊤ Refusal → Type 0
Early n true (Ok done) = Unit {0}
Early n false (Ok done) = ⊥
Early n b (Err f) = CodeUpTo n b (code f)

refusal_early : (f : Fault) → code (refusal_of f) ≤ last_token_code
unfolding refusal_of
refusal_early TooLong = omega arith
refusal_early (Misfit place) = omega arith
refusal_early (NameTooLong place) = omega arith
refusal_early (Declared place) = omega arith
refusal_early (Unknown place) = omega arith
refusal_early (TooLarge place) = omega arith
refusal_early (TooManyItems place) = omega arith
refusal_early (OtherMark place) = omega arith

judged_early : (j : Result ⊤ Flaw) (t : Text) → Early last_code true (answer_of (judged_reading j t))
unfolding Early judged_reading
judged_early (Ok clean) t = tt
judged_early (Err (TooManyStates n)) t = omega arith
judged_early (Err (NoMove s c)) t = omega arith
judged_early (Err (TwoEdges s c)) t = omega arith

parsed_early : (b : Bool) (r : Result Text Refusal) → Early last_token_code b (answer_of r)
    → Early last_code b (answer_of (parsed_reading r))
unfolding parsed_reading Early
parsed_early true (Ok t) e = judged_early (judgement t) t
parsed_early false (Ok t) e = absurd e
parsed_early true (Err f) e = omega (arith, e)
parsed_early false (Err f) e = e

module _ (period : ℕ) where
  text_early : (s : List ℕ) → Early last_token_code (tick_allowed period) (answer_of (reader.read_text period s))
  unfolding reader.read_text
  text_early s = judged (tick_allowed period) (nat_lt largest_text (length s))
    where
      read : Result Text Refusal
      read = reader.answer (reader.read_whole period s)

      answered : (r : Result Text Fault) → Early last_token_code true (answer_of (reader.judged r))
      answered (Ok t) = unfold Early in tt
      answered (Err f) = unfold Early in refusal_early f

      judged : (a b : Bool) → Early last_token_code a
          (answer_of (if a then (if b then Err (refusal_of TooLong) else read) else Err (tick_out_of_range period)))
      judged true true = unfold Early in refusal_early TooLong
      judged true false = answered (reader.text_of (reader.read_whole period s))
      judged false b = unfold Early in refl

  -- the code of a refusal before the states are judged
  pub token_codes : (s : List ℕ) (f : Refusal) → answer_of (reader.read_text period s) ≡ Err f
      → CodeUpTo last_token_code (tick_allowed period) (code f)
  unfolding Early
  token_codes s f e = subst (Early last_token_code (tick_allowed period)) e (text_early s)

  -- the code of a refusal of reading
  pub reading_codes : (s : List ℕ) (f : Refusal) → answer_of (read_outcome period s) ≡ Err f
      → CodeAt (tick_allowed period) (code f)
  unfolding read_outcome Early
  reading_codes s f e =
      subst (Early last_code (tick_allowed period)) e
      (parsed_early (tick_allowed period) (reader.read_text period s) (text_early s))
