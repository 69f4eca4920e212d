-- The word and the four numbers, one after another.
use Rattle.std.proofs.Common.{sym, ap, ◌∙◌}
use Rattle.refusals.specs.Refusals.{mark}
use Rattle.printed_lines.proofs.Laws.{four_numbers}
use Rattle.byte_slices.specs.Put.{puts_none, puts_then}
use Rattle.printed_lines.specs.Lines.{refusal_line, line, spaced}
use Rattle.printed_lines.proofs.put_refusal.Goals as goal

pub returns : goal.returns
unfolding refusal_line line spaced
returns c =
    let file = c.mark.ensures ∙ ap mark c.file.ensures in
    let numbers = puts_then c.put_spaced-code.ensures.puts (puts_then c.put_spaced-file.ensures.puts
    (puts_then c.put_spaced-p.ensures.puts (puts_then c.put_spaced-q.ensures.puts puts_none))) in record {
      puts = rw (sym c.code.ensures, sym file, sym c.p.ensures, sym c.q.ensures)
          (puts_then (puts_then c.put_bytes-word.ensures numbers) c.put_byte.ensures);
      short = four_numbers c.args.f (rw c.code.ensures at c.put_spaced-code.ensures.short)
          (rw file at c.put_spaced-file.ensures.short) (rw c.p.ensures at c.put_spaced-p.ensures.short)
          (rw c.q.ensures at c.put_spaced-q.ensures.short);
    }
