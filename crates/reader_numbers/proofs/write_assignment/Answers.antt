use Rattle.std.proofs.Common.{◌≡◌, cond, rules}
use Rattle.reader_numbers.specs.Numbers.{assignment_numbers}
use Rattle.reader_numbers.proofs.write_assignment.Goals as goal

pub returns : goal.returns
unfolding assignment_numbers
returns c = let e : c.from-made.result ≡ cond c.args.a.made 1 0 = search rules in rw (← e) c.put_three.ensures
