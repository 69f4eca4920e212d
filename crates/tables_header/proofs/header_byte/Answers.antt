-- header_byte goes through the header's parts from left to right.
use native.Mathlib.Omega.{arith}
use mathlib.Core.Path.{◌≡◌, sym, ◌∙◌, ap}
use Prim.Native.Nat.{ℕ, ◌+◌, ◌-◌}
use lib.ListN.{length, get_or}
use Rattle.byte_slices.specs.Decimal.{decimal}
use Rattle.tables_header.specs.Header.{magic_bytes}
use Rattle.tables_header.proofs.Laws.{decimal_few, header_size, header_front, header_width, header_space, header_height, header_end}
use Rattle.tables_header.proofs.header_byte.Goals as goal

pub returns-then-i-lt-MAGIC_BYTES : goal.returns-then-i-lt-MAGIC_BYTES
returns-then-i-lt-MAGIC_BYTES c =
    let args = c.args in
    c.magic.ensures ∙ sym (header_front args.w args.h args.i (omega arith))

pub overflow_add-a : goal.overflow_add-a
overflow_add-a c =
    let args = c.args in
    omega (arith, decimal_few args.w)

pub returns-then-i-a : goal.returns-then-i-a
returns-then-i-a c =
    let args = c.args in
    c.digit_at.ensures ∙ sym (header_width args.w args.h args.i (omega arith) (omega arith))

pub returns-then-i-a-2 : goal.returns-then-i-a-2
returns-then-i-a-2 c =
    let args = c.args in
    sym (header_space args.w args.h args.i (omega arith))

pub returns-then-i-b : goal.returns-then-i-b
returns-then-i-b c =
    let args = c.args in
    let digit-count-call = c.digit_count-a in
    let e : args.i - (magic_bytes + digit-count-call.result + 1) ≡ args.i - (magic_bytes + length (decimal
    args.w) + 1) = omega arith in
    c.digit_at-then-i-b.ensures
    ∙ ap (λ (x : ℕ). get_or (decimal args.h) x 0) e
    ∙ sym (header_height args.w args.h args.i (omega arith) (omega arith))

pub returns : goal.returns
returns c =
    let args = c.args in
    sym (header_end args.w args.h args.i (omega (arith, header_size args.w args.h)))
