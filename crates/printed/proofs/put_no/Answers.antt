-- The channels are those of the record that reading gives.
use mathlib.Core.Path.{ap}
use mathlib.Core.List.{List}
use Rattle.reader_record.specs.declared.Channel.{Channel}
use Rattle.printed_lines.specs.Lines.{departure_lines}
use Rattle.byte_slices.specs.Put.{puts_same}
use Rattle.printed.proofs.put_no.Goals as goal

pub returns : goal.returns
returns c =
    let args = c.args in
    let put = c.put_departure.ensures in record {
      puts = puts_same (ap (λ (k : List Channel). departure_lines args.left.now k args.n args.run.now)
          c.channels_of.ensures) put.puts;
      short = put.short;
    }
