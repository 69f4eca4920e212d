-- What the programs lend is long enough: every table that two texts can have fits the program's slice.
use Rattle.std.specs.Prelude.{◌≡◌, refl, List, ℕ, ◌*◌, ◌≤◌, length, Result, Ok, Err, ⊤}
use Rattle.std.proofs.Common.{mul-le-mul_left, arith, length-append}
use Rattle.std.proofs.lemmas.List.{length-replicate}
use Rattle.limits.specs.Limits.{state_limit, keep_limit}
use Rattle.bitmaps.specs.Packed.{bytes_for}
use Rattle.reader_record.specs.declared.Text.{Text}
use Rattle.reader.specs.Reading.{read_text}
use Rattle.clocks.specs.declared.Flaw.{Flaw}
use Rattle.clocks.specs.declared.Flaw.TheVariants.{TooManyStates, NoMove, TwoEdges}
use Rattle.clocks.specs.States.{judgement}
use Rattle.clocks.proofs.Judgement.{judgement_few}
use Rattle.refusals.specs.declared.Refusal.{Refusal}
use Rattle.clocks_read.specs.Reading.{judged_reading, parsed_reading, read_outcome, states_in}
use Rattle.tables_header.specs.Header.{header, header_bytes, table_bytes, table_limit}
use Rattle.byte_slices.specs.DecimalLaws.{decimal_within}
use Rattle.printed.specs.Prints.{program_tick, zeros}

-- a slice of zeros is as long as it says
pub zeros_length : (n : ℕ) → length (zeros n) ≡ n
unfolding zeros
zeros_length n = length-replicate n 0

few_judged : (t : Text) (j : Result ⊤ Flaw) → judgement t ≡ j → states_in (judged_reading j t) ≤ state_limit
unfolding judged_reading
few_judged t (Ok clean) e = judgement_few t e
few_judged t (Err (TooManyStates n)) e = omega arith
few_judged t (Err (NoMove s c)) e = omega arith
few_judged t (Err (TwoEdges s c)) e = omega arith

few_parsed : (r : Result Text Refusal) → states_in (parsed_reading r) ≤ state_limit
unfolding parsed_reading
few_parsed (Ok t) = few_judged t (judgement t) refl
few_parsed (Err f) = omega arith

-- reading gives no more states than a text may have
pub few_read : (s : List ℕ) → states_in (read_outcome program_tick s) ≤ state_limit
unfolding read_outcome
few_read s = few_parsed (read_text program_tick s)

-- the header of two state counts, and the table
pub header_fits : (w h : ℕ) → w ≤ state_limit → h ≤ state_limit → header_bytes w h ≤ 13
unfolding header_bytes header
header_fits w h a b =
    simp length-append (omega (arith, decimal_within 3 w (omega arith), decimal_within 3 h (omega arith)))

pub table_fits : (w h : ℕ) → w ≤ state_limit → h ≤ state_limit → table_bytes w h ≤ table_limit
unfolding table_bytes
table_fits w h a b =
    let row : bytes_for w ≤ keep_limit = omega arith in
    let rows : h * bytes_for w ≤ h * keep_limit = mul-le-mul_left h row in
    omega (arith, header_fits w h a b)

-- the table of two texts
pub table_room : (left right : List ℕ)
    → table_bytes (states_in (read_outcome program_tick right)) (states_in (read_outcome program_tick left)) ≤ table_limit
table_room left right = table_fits (states_in (read_outcome program_tick right)) (states_in (read_outcome program_tick left))
    (few_read right) (few_read left)
