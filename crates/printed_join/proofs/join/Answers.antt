-- The slice has the text at its front, or the refusal's line is put over it.
use native.Mathlib.Omega.{arith}
use mathlib.Core.Path.{ap}
use lib.ListN.{length}
use Rattle.byte_slices.specs.Put.{puts_same, puts_from, puts_laid}
use Rattle.printed_join.proofs.Alike.{join_laid, join_refused}
use Rattle.printed_join.proofs.join.Goals as goal

pub returns-in-Ok : goal.returns-in-Ok
returns-in-Ok c =
    let args = c.args in
    let laid = join_laid args.left.now args.right.now args.out.now c.join.ensures c.in-Ok.is in
    record { prints = laid.0; fits = λ _. laid.1 }

pub returns-in-Err : goal.returns-in-Err
returns-in-Err c =
    let args = c.args in
    let (untouched, line) = join_refused args.left.now args.right.now args.out.now c.join.ensures c.in-Err.is in
    let put = c.put_refusal.ensures in
    record {
      prints = puts_laid (puts_same line (puts_from untouched put.puts));
      fits = λ room. omega (arith, ap length line, put.short);
    }
