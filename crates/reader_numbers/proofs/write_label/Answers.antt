-- `reader_numbers::write_label` meets its contract, by the callees' contracts and the laws of numbers in a row.
use Rattle.reader_record.specs.Record.{channel}
use Rattle.reader_numbers.specs.Numbers.{mark}
use Rattle.reader_numbers.proofs.write_label.Goals as goal

pub returns-in-Input : goal.returns-in-Input
unfolding mark channel
returns-in-Input c =
    rw (c.in-Input.is, ← c.direction_number.ensures)
    c.put_two.ensures

pub returns-in-Output : goal.returns-in-Output
unfolding mark channel
returns-in-Output c =
    rw (c.in-Output.is, ← c.direction_number-in-Output.ensures)
    c.put_two-in-Output.ensures
