-- What each program prints, as a definition of its files' bytes (SPECIFICATION 14.1, 14.2, 14.5, 14.7).
use Rattle.std.specs.Prelude.{cond, List, ℕ, eqb, take, replicate, Result, Ok, Err, ⊤}
use Rattle.limits.specs.Limits.{keep_limit}
use Rattle.refusals.specs.declared.Refusal.{Refusal}
use Rattle.clocks_read.specs.Reading.{read_outcome, text_in, states_in}
use Rattle.implementation_check.specs.Outcome.{implementation_outcome}
use Rattle.tables_widest.specs.declared.WidestTable.{WidestTable}
use Rattle.tables_header.specs.Header.{table_bytes}
use Rattle.two_operations.specs.Outcome.{search_outcome, check_outcome, widest_outcome}
use Rattle.printed_lines.specs.Lines.{refusal_line, yes_line, passed_line, accepted_line, departure_lines}

-- the tick length of the programs (SPECIFICATION 14.1, 14.5, 14.7)
abbrev pub program_tick : ℕ
program_tick = 1

-- a slice as a program lends it to an operation
unfoldable pub zeros : ℕ → List ℕ
zeros n = replicate n 0

-- megzhoi: the entries of back, of line and of run, and the bytes of the table that it counts
abbrev pub entries : ℕ
entries = 16384

abbrev pub counted_bytes : ℕ
counted_bytes = 8192

-- `YES` with the pairs of the widest table, or the refusal
unfoldable pub widest_line : Result WidestTable Refusal → List ℕ
widest_line (Ok made) = yes_line made.count
widest_line (Err f) = refusal_line f

-- what the search finds: nothing is a `YES`, n steps are a `NO`, spelled as the left spells its channels
unfoldable pub search_lines : List ℕ → List ℕ → Result ℕ Refusal → List ℕ → List ℕ
search_lines left right (Ok n) run =
    cond (eqb n 0) (widest_line (widest_outcome program_tick left right (zeros keep_limit)
    (zeros counted_bytes)).answer)
    (departure_lines left (text_in (read_outcome program_tick left)).channels n run)
search_lines left right (Err f) run = refusal_line f

-- program megzhoi
unfoldable pub megzhoi_prints : List ℕ → List ℕ → List ℕ
megzhoi_prints left right =
    let o = search_outcome program_tick left right (zeros keep_limit) entries entries (zeros entries) in
    search_lines left right o.answer o.run

-- the table as a file of so many bytes, or the refusal
unfoldable pub table_printed : ℕ → Result WidestTable Refusal → List ℕ → List ℕ
table_printed bytes (Ok made) table = take bytes table
table_printed bytes (Err f) table = refusal_line f

-- program widest, with a table of `room` bytes: the whole file, which is as long as its header says
unfoldable pub widest_prints : ℕ → List ℕ → List ℕ → List ℕ
widest_prints room left right =
    let o = widest_outcome program_tick left right (zeros keep_limit) (zeros room) in
    table_printed (table_bytes (states_in (read_outcome program_tick right)) (states_in (read_outcome program_tick left)))
    o.answer o.table

-- `ACCEPTED` with the pairs of the table, or the refusal
unfoldable pub check_line : Result ℕ Refusal → List ℕ
check_line (Ok count) = accepted_line count
check_line (Err f) = refusal_line f

-- program recheck
unfoldable pub recheck_prints : List ℕ → List ℕ → List ℕ → List ℕ
recheck_prints left right table = check_line (check_outcome program_tick left right (zeros keep_limit) table).answer

-- `YES`, or the refusal
unfoldable pub verdict_line : Result ⊤ Refusal → List ℕ
verdict_line (Ok passed) = passed_line
verdict_line (Err f) = refusal_line f

-- program implementation
unfoldable pub implementation_prints : List ℕ → List ℕ
implementation_prints left = verdict_line (implementation_outcome program_tick left)
