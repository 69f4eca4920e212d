-- `reader_numbers::write_channel` meets its contract, by the callees' contracts and the laws of numbers in a row.
use Rattle.reader_numbers.specs.Numbers.{channel_numbers}
use Rattle.reader_numbers.proofs.write_channel.Goals as goal

pub returns : goal.returns
unfolding channel_numbers
returns c =
    let direction = c.direction_number-direction in
    rw (← direction.ensures) c.put_three.ensures
