-- `reader_numbers::write_comparison` meets its contract, by the callees' contracts and the laws of numbers in a row.
use Rattle.reader_numbers.specs.Numbers.{comparison_numbers}
use Rattle.reader_numbers.proofs.write_comparison.Goals as goal

pub returns : goal.returns
unfolding comparison_numbers
returns c = rw (← c.sign_number-sign.ensures) c.put_three.ensures
