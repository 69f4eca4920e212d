-- What program join prints, as a definition of its files' bytes (SPECIFICATION 14.8).
use Rattle.std.specs.Prelude.{List, ℕ, take, Result, Ok, Err}
use Rattle.limits.specs.Limits.{largest_text}
use Rattle.refusals.specs.declared.Refusal.{Refusal}
use Rattle.joining.specs.Outcome.{join_outcome}
use Rattle.printed_lines.specs.Lines.{refusal_line}
use Rattle.printed.specs.Prints.{program_tick, zeros}

-- the text, which stands at the front of the slice, or the refusal
unfoldable pub text_printed : Result ℕ Refusal → List ℕ → List ℕ
text_printed (Ok n) out = take n out
text_printed (Err f) out = refusal_line f

-- program join, with a slice of `room` bytes
unfoldable pub join_prints : ℕ → List ℕ → List ℕ → List ℕ
join_prints room left right =
    let o = join_outcome program_tick left right (zeros room) in
    text_printed o.answer o.out

-- the program's slice has room for the longest text
abbrev pub join_room : ℕ
join_room = largest_text
