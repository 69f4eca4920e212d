-- The slice is the table: the file stands at its front, or the refusal's line is put over it.
use native.Mathlib.Omega.{arith}
use Rattle.printed.proofs.Laws.{short_as}
use Rattle.byte_slices.specs.Put.{puts_same, puts_from, puts_laid}
use Rattle.printed.proofs.Table.{widest_laid, widest_fits, widest_untouched, widest_line}
use Rattle.printed.proofs.widest.Goals as goal

pub returns-in-Ok : goal.returns-in-Ok
returns-in-Ok c =
    let args = c.args in
    let done = c.widest-answer.ensures in
    let blank = c.no_bytes-keep.ensures.0 in
    let made = c.in-Ok.is in record {
      prints = widest_laid args.left.now args.right.now args.out.now done blank made c.table_bytes.ensures;
      fits = λ _. widest_fits args.left.now args.right.now args.out.now done blank made;
    }

pub returns-in-Err : goal.returns-in-Err
returns-in-Err c =
    let args = c.args in
    let done = c.widest-answer.ensures in
    let blank = c.no_bytes-keep.ensures.0 in
    let refused = c.in-Err.is in
    let line = widest_line args.left.now args.right.now args.out.now done blank refused in
    let untouched = widest_untouched args.left.now args.right.now args.out.now done blank refused in
    let put = c.put_refusal.ensures in
    record {
      prints = puts_laid (puts_same line (puts_from untouched put.puts));
      fits = λ room. omega (arith, short_as line put.short);
    }
