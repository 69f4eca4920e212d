-- The text is put into the array; it is too long, or the slice is too short, or it is copied.
use mathlib.Core.Path.{sym}
use native.Mathlib.Omega.{arith}
use lib.Seq.{length-take-le}
use Rattle.byte_slices.specs.Put.{puts_length}
use Rattle.joining.proofs.Laws.{text_put, text_over, text_short, text_copied}
use Rattle.joining.proofs.write_text.Goals as goal

pub returns-then-n-gt-LARGEST_TEXT : goal.returns-then-n-gt-LARGEST_TEXT
returns-then-n-gt-LARGEST_TEXT c =
    let args = c.args in
    let put = c.put_text-n in
    text_over _ c.no_bytes-text.ensures
    (text_put args.s.now args.t c.underscores-u.ensures
    put.ensures) args.out.now c.if-n-gt-LARGEST_TEXT.true

pub returns-then-out-n : goal.returns-then-out-n
returns-then-out-n c =
    let args = c.args in
    let put = c.put_text-n in
    text_short _ c.no_bytes-text.ensures
    (text_put args.s.now args.t
    c.underscores-u.ensures put.ensures) args.out.now
    c.if-n-gt-LARGEST_TEXT.false c.if-out-n.true

pub slice_bounds-put_bytes-end : goal.slice_bounds-put_bytes-end
slice_bounds-put_bytes-end c =
    let put = c.put_text-n in
    let size = c.no_bytes-text.ensures in
    sym (length-take-le put.result _
    (omega (arith, puts_length put.ensures, size, c.if-n-gt-LARGEST_TEXT.false)))

pub returns : goal.returns
returns c =
    let args = c.args in
    let put = c.put_text-n in
    text_copied _ c.no_bytes-text.ensures
    (text_put args.s.now args.t
    c.underscores-u.ensures
    put.ensures) args.out.now c.if-n-gt-LARGEST_TEXT.false
    c.if-out-n.false c.put_bytes.ensures
